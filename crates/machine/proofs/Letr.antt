-- LETR over every act, and what a RESET's short pulse comes to: LETR's start and nothing else (document 02, request 4). Assumes
-- nothing.
use Prim.Native.Nat.{ℕ, ◌%◌}
use mathlib.Core.Path.{◌≡◌, refl, ap, ◌∙◌}
use mathlib.Core.Bool.{true, false, not, cond, ◌&&◌, and-eq-true_iff, Bool, and-false}
use lib.Dec.{eqb}
use borrow.Author.Tests.{eqb-true}
use Rattle.bay.proofs.Taut.{pick}
use Rattle.machine.specs.FirstKind.{letr_write, first_writes, first_written}
use Rattle.machine.specs.InForce.{written}
use Rattle.machine.specs.Acts.{reset_to, pins_to, tick_to, does, letr_after_reset, name_to, reset_as}
use Rattle.machine.specs.After.{shared_written, first_kinds}
use Rattle.machine.specs.Letr.{letr, letr_after}
use Rattle.machine.specs.declared.Machine.{Machine}
use Rattle.machine.specs.declared.Shared.{Shared}
use Rattle.machine.specs.declared.Act.{Act}
use Rattle.machine.specs.declared.Act.TheVariants.{Write, Read, Pins, Tick, Reset, Name}
use Rattle.machine.proofs.After.{written_shared}
use Rattle.kind.specs.declared.Kind.TheVariants.{First, Second}
use Rattle.kind.specs.declared.Kind.{Kind}
use Rattle.kind.specs.Kind.{is_second}

write_letr : (a v : ℕ) (m : Machine) → letr (written a v m) ≡ cond (first_kinds m 0x40 a) (v % 4) (letr m)
unfolding shared_written
write_letr a v m =
    ap (λ (r : Shared). r.lock_time) (written_shared a v m)
    ∙ pick P (eqb a 0x0C && not m.shared.dbccr_written)
    (λ h. rw (eqb-true a 0x0C ((and-eq-true_iff _ _).0 h).0, and-false (not (is_second m.kind))))
    (λ _. pick P (first_kinds m 0x40 a) (λ e. rw e) (λ n. pick P (first_kinds m 0x42 a) (λ e. rw n) (λ e. rw n)))
  where
    P : Shared → Type 0
    P r = r.lock_time ≡ cond (first_kinds m 0x40 a) (v % 4) (letr m)

reset_letr : (k : Kind) (short : Bool) → letr_after_reset k short ≡ cond (not (is_second k) && not short) 1 0
unfolding letr_after_reset
reset_letr First true = refl
reset_letr First false = refl
reset_letr Second true = refl
reset_letr Second false = refl

pub letr_after_lem : (a : Act) (m : Machine) → letr (does a m) ≡ letr_after m a
unfolding does letr_after pins_to tick_to reset_as name_to
letr_after_lem (Write a v) m = write_letr a v m
letr_after_lem (Read a) m = refl
letr_after_lem (Pins levels) m = refl
letr_after_lem Tick m = refl
letr_after_lem (Reset straps levels short) m = reset_letr m.named short
letr_after_lem (Name k) m = refl

-- ---- LETR's start only

-- Into the first kind, a RESET with the short pulse leaves what a RESET without it and a write of 0 to LETR leave; and the other way round
-- with a write of 1.
pub record StartOnly (straps levels : ℕ) (m : Machine) : Type 0 where
  pub short : reset_to straps levels true m ≡ written 0x40 0 (reset_to straps levels false m)
  pub long : reset_to straps levels false m ≡ written 0x40 1 (reset_to straps levels true m)

pub start_only : (straps levels : ℕ) (m : Machine) → m.named ≡ First → StartOnly straps levels m
unfolding reset_as letr_after_reset written first_written first_writes letr_write
start_only straps levels m e = record { short = rw e; long = rw e }

-- Into the second kind it means nothing.
pub no_start : (straps levels : ℕ) (m : Machine) → m.named ≡ Second → reset_to straps levels true m ≡ reset_to straps levels false m
unfolding reset_as letr_after_reset
no_start straps levels m e = rw e

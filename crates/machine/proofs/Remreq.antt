-- REMREQ_STS after each act is what the table says, in every machine: from what becomes of the bay. Assumes nothing.
use Prim.Native.Nat.{ℕ}
use mathlib.Core.Path.{◌≡◌, refl, sym, ap, subst, ◌∙◌}
use mathlib.Core.Bool.{not, ◌&&◌, ◌||◌, and-true, and-false, or-true, or-false, and-not_self}
use borrow.Author.Tests.{eq-eqb}
use Rattle.bay.specs.declared.Bay.{Bay}
use Rattle.bay.specs.Record.{empty_bay, reset_bay}
use Rattle.bay.specs.Registers.{bstr_written}
use Rattle.bay.specs.Table.{press_over}
use Rattle.bay.proofs.Taut.{pick}
use Rattle.bay.proofs.Laws.{sampled, pressed_sets}
use Rattle.bay.proofs.Named.{bcer_stores, bay_unlocks}
use Rattle.machine.specs.Record.{bay_at, is_open}
use Rattle.machine.specs.Setting.{hides, setting_of}
use Rattle.machine.specs.InForce.{written}
use Rattle.machine.specs.Acts.{does}
use Rattle.machine.specs.After.{bay_after, bstr_own}
use Rattle.machine.specs.Remreq.{remreq, clears, remreq_after}
use Rattle.machine.specs.declared.Machine.{Machine}
use Rattle.machine.specs.declared.Act.{Act}
use Rattle.machine.specs.declared.Act.TheVariants.{Write, Read, Pins, Tick, Reset, Name}
use Rattle.machine.proofs.After.{bay_after_lem, of_write, three}
use Rattle.machine.proofs.Moves.{pins_keep}

write_remreq : (a v : ℕ) (m : Machine) (i : ℕ) → remreq (written a v m) i ≡ (remreq m i && not (clears m i a v))
unfolding bstr_written empty_bay
write_remreq a v m i =
    of_write a v m (λ (b : Bay). b.remreq_sts ≡ (remreq m i && not (clears m i a v))) i
    (λ e o. (bcer_stores (hides m) v (setting_of m) (bay_at m i)).flags_kept.0 ∙ rw (e, (three m.kind i).bcer_bstr, (three m.kind i).bcer_dbccr) (sym (and-true (remreq m i))))
    (λ e o. rw (e, eq-eqb (bstr_own m i) (bstr_own m i) refl, o, (three m.kind i).bstr_dbccr, or-false))
    (λ k l c. rw (c, or-true) (sym (and-false (remreq m i))))
    (λ k l c u. (bay_unlocks (bay_at m i)).flags_kept.0 ∙ rw (l, c) (sym (and-true (remreq m i))))
    (λ k l c u. rw (l, c) (sym (and-true (remreq m i))))

-- A closed bay is passed by, so that its button is as it was.
tick_remreq : (m : Machine) (i : ℕ) → remreq (does Tick m) i ≡ (remreq m i || press_over (hides m) (bay_at m i) (bay_at (does Tick m) i))
unfolding bay_after
tick_remreq m i =
    subst P (sym (bay_after_lem Tick m i))
    (pick P (is_open m i) (λ o. pressed_sets (hides m) (setting_of m) (bay_at m i)) (λ o. rw and-not_self (sym (or-false (remreq m i)))))
  where
    P : Bay → Type 0
    P b = b.remreq_sts ≡ (remreq m i || press_over (hides m) (bay_at m i) b)

pub remreq_after_lem : (a : Act) (m : Machine) (i : ℕ) → remreq (does a m) i ≡ remreq_after m i a
unfolding does remreq_after bay_after reset_bay
remreq_after_lem (Write a v) m i = write_remreq a v m i
remreq_after_lem (Read a) m i = refl
remreq_after_lem (Pins levels) m i = pins_keep (λ b. b.remreq_sts) (λ levels b. (sampled levels b).flags_kept.0) levels m i
remreq_after_lem Tick m i = tick_remreq m i
remreq_after_lem (Reset straps levels short) m i = ap (λ (b : Bay). b.remreq_sts) (bay_after_lem (Reset straps levels short) m i)
remreq_after_lem (Name k) m i = ap (λ (b : Bay). b.remreq_sts) (bay_after_lem (Name k) m i)

-- What moves a bay (document 01, "Bay moves" and "Registers"): a TICK while the bay is open, a write of its BCER while it is open, a
-- RESET, and for bay 1 the write that closes it. No sample, no reading and no other write does. From what becomes of the bay at each act.
-- Assumes nothing.
use Prim.Native.Nat.{ℕ, zero, suc, ◌<◌}
use native.Mathlib.Omega.{arith}
use mathlib.Core.Path.{◌≡◌, refl, sym, ap, ◌∙◌}
use mathlib.Core.Bool.{Bool, true, false, not, ◌&&◌, and-true, and-eq-true_iff, true≢false}
use lib.Dec.{eqb}
use borrow.Author.Tests.{eqb-true, eq-eqb, not-true}
use Rattle.bay.specs.declared.Bay.{Bay}
use Rattle.bay.specs.Record.{empty_bay, reset_bay}
use Rattle.bay.specs.Debounce.{sampled_bay}
use Rattle.bay.specs.Moves.{ticked_bay}
use Rattle.bay.specs.Registers.{control_of, controlled_bay}
use Rattle.bay.proofs.Taut.{pick, neither}
use Rattle.bay.proofs.Laws.{sampled}
use Rattle.bay.proofs.Named.{bstr_clears, bay_unlocks}
use Rattle.machine.specs.Record.{bay_at, is_open}
use Rattle.machine.specs.Setting.{hides, setting_of}
use Rattle.machine.specs.Registers.{bcer_write, count_written}
use Rattle.machine.specs.InForce.{written}
use Rattle.machine.specs.After.{bcer_address, closes, bay_written, bay_after, bcer_own}
use Rattle.machine.specs.Moves.{moves_bay}
use Rattle.machine.specs.Acts.{pins_to, does}
use Rattle.machine.specs.declared.Machine.{Machine}
use Rattle.machine.specs.declared.Act.{Act}
use Rattle.machine.specs.declared.Act.TheVariants.{Write, Read, Pins, Tick, Reset, Name}
use Rattle.machine.proofs.Choice.{chosen, passed}
use Rattle.machine.proofs.After.{bay_after_lem, of_write}
use Rattle.machine.proofs.Map.{closing}
use Rattle.kind.specs.declared.Kind.TheVariants.{First, Second}
use Rattle.kind.specs.declared.Kind.{Kind}
use Rattle.machine.specs.FirstKind.{first_writes, first_written}
use Rattle.machine.proofs.Addresses.{in_first, in_second}
use Rattle.machine.specs.SecondKind.{second_writes, second_written}

-- ---- what moves it, and to what: the tables of moves are about ticked_bay and controlled_bay

pub record Moves (m : Machine) (i : ℕ) : Type 0 where
  pub tick : is_open m i ≡ true → bay_at (does Tick m) i ≡ ticked_bay (hides m) (setting_of m) (bay_at m i)
  pub bcer : (v : ℕ) → is_open m i ≡ true → bay_at (does (Write (bcer_own m i) v) m) i ≡ controlled_bay (hides m) (control_of v) (setting_of m) (bay_at m i)
  pub closing : (v : ℕ) → closes m 1 0x0C v ≡ true → (bay_at (does (Write 0x0C v) m) 1).state ≡ 0
  pub reset : (straps levels : ℕ) (short : Bool) → (bay_at (does (Reset straps levels short) m) i).state ≡ 0

closed_empty : (v : ℕ) (m : Machine) → closes m 1 0x0C v ≡ true → (bay_at (written 0x0C v m) 1).state ≡ 0
unfolding empty_bay
closed_empty v m h =
    let both = (and-eq-true_iff (eqb (count_written m.kind v) 1) (not m.shared.dbccr_written)).0 (sym (and-true _) ∙ h) in
    ap (λ (b : Bay). b.state) ((closing v m (not-true _ both.1)).closed (eqb-true (count_written m.kind v) 1 both.0)).1

pub moves : (m : Machine) (i : ℕ) → Moves m i
unfolding does bay_after bay_written reset_bay
moves m i =
    record {
      tick = λ o. bay_after_lem Tick m i ∙ chosen o _ _;
      bcer = λ v o. bay_after_lem (Write (bcer_own m i) v) m i ∙ rw (eq-eqb (bcer_own m i) (bcer_own m i) refl) (chosen o _ _);
      closing = λ v h. closed_empty v m h;
      reset = λ straps levels short. ap (λ (b : Bay). b.state) (bay_after_lem (Reset straps levels short) m i);
    }

-- A write of BCER, by the bay's number.
pub bcer_write_lem : (i v : ℕ) (m : Machine) → i < 2 → written (bcer_own m i) v m ≡ bcer_write i v m
unfolding bcer_address first_written first_writes second_written second_writes
bcer_write_lem i v m l = go m.kind refl i l
  where
    go : (k : Kind) → m.kind ≡ k → (i : ℕ) → i < 2 → written (bcer_address k i) v m ≡ bcer_write i v m
    go First e zero l = in_first 0x14 v m e
    go First e (suc zero) l = in_first 0x1C v m e
    go First e (suc (suc i)) l = absurd (omega arith)
    go Second e zero l = in_second 0x10 v m e
    go Second e (suc zero) l = in_second 0x18 v m e
    go Second e (suc (suc i)) l = absurd (omega arith)

-- ---- nothing else moves a bay

-- PINS keeps each field of a bay that a sample keeps.
pub pins_keep :
    {A : Type 0} (field : Bay → A) → ((levels : ℕ) (b : Bay) → field (sampled_bay levels b) ≡ field b)
    → (levels : ℕ) (m : Machine) (i : ℕ) → field (bay_at (pins_to levels m) i) ≡ field (bay_at m i)
unfolding does bay_after
pins_keep field kept levels m i =
    ap field (bay_after_lem (Pins levels) m i) ∙ pick (λ (b : Bay). field b ≡ field (bay_at m i)) (is_open m i) (λ o. kept _ (bay_at m i)) (λ o. refl)

write_still : (a v : ℕ) (m : Machine) (i : ℕ) → moves_bay m i (Write a v) ≡ false → (bay_at (written a v m) i).state ≡ (bay_at m i).state
write_still a v m i h =
    of_write a v m (λ (b : Bay). b.state ≡ (bay_at m i).state) i
    (λ e o. absurd (true≢false (sym ((and-eq-true_iff _ _).1 (eq-eqb a (bcer_own m i) e, o)) ∙ parts.0)))
    (λ e o. (bstr_clears v (bay_at m i)).state_kept)
    (λ k l c. absurd (true≢false (sym c ∙ parts.1)))
    (λ k l n u. (bay_unlocks (bay_at m i)).state_kept)
    (λ k l n u. refl)
  where
    parts : ((eqb a (bcer_own m i) && is_open m i) ≡ false) × (closes m i a v ≡ false)
    parts = neither _ _ h

pub nothing_else_moves : (m : Machine) (i : ℕ) (a : Act) → moves_bay m i a ≡ false → (bay_at (does a m) i).state ≡ (bay_at m i).state
unfolding does bay_after
nothing_else_moves m i (Write a v) h = write_still a v m i h
nothing_else_moves m i (Read a) h = refl
nothing_else_moves m i (Pins levels) h = pins_keep (λ b. b.state) (λ levels b. (sampled levels b).state_kept) levels m i
nothing_else_moves m i Tick h = ap (λ (b : Bay). b.state) (bay_after_lem Tick m i ∙ passed h _ _)
nothing_else_moves m i (Reset straps levels short) h = absurd (true≢false h)
nothing_else_moves m i (Name k) h = ap (λ (b : Bay). b.state) (bay_after_lem (Name k) m i)

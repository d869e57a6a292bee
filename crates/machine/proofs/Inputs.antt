-- Each input of a bay after each act is what the table says, in every machine: from what becomes of the bay. Assumes nothing.
use Prim.Native.Nat.{ℕ, ◌<◌}
use mathlib.Core.Path.{◌≡◌, refl, ap, ◌∙◌}
use mathlib.Core.Bool.{Bool, true, false, cond}
use Rattle.bay.specs.declared.Bay.{Bay}
use Rattle.bay.specs.Debounced.{sees_all, rest_line}
use Rattle.bay.specs.Happens.{tick, pins, bstr, bcer, happens, line, unlock}
use Rattle.bay.proofs.Happens.{input_sees, reset_line_lem, empty_line}
use Rattle.machine.specs.Record.{bay_at, is_open}
use Rattle.machine.specs.Setting.{hides, setting_of}
use Rattle.machine.specs.InForce.{written}
use Rattle.machine.specs.Acts.{lock_after_reset, does}
use Rattle.machine.specs.After.{closes, own_levels, bay_after}
use Rattle.machine.specs.Inputs.{input_of, input_after}
use Rattle.machine.specs.declared.Machine.{Machine}
use Rattle.machine.specs.declared.Act.{Act}
use Rattle.machine.specs.declared.Act.TheVariants.{Write, Read, Pins, Tick, Reset, Name}
use Rattle.machine.proofs.After.{bay_after_lem, of_write, three}

-- An input of the bay that is picked.
of_picked : (k : ℕ) (o : Bool) (b c : Bay) → line (cond o b c) k ≡ cond o (line b k) (line c k)
of_picked k true b c = refl
of_picked k false b c = refl

module _ (k : ℕ) (l : k < 3) where
  -- No write of BSTR or BCER touches it.
  write_input : (a v : ℕ) (m : Machine) (i : ℕ) → input_of (written a v m) i k ≡ cond (closes m i a v) (rest_line true) (input_of m i k)
  unfolding happens sees_all
  write_input a v m i =
      of_write a v m (λ (b : Bay). line b k ≡ cond (closes m i a v) (rest_line true) (input_of m i k)) i
      (λ e o. input_sees (hides m) (bcer _ _) (bay_at m i) k l ∙ rw (e, (three m.kind i).bcer_dbccr))
      (λ e o. input_sees (hides m) (bstr v) (bay_at m i) k l ∙ rw (e, (three m.kind i).bstr_dbccr))
      (λ p q c. empty_line k l ∙ rw c) (λ p q c u. input_sees (hides m) unlock (bay_at m i) k l ∙ rw c) (λ p q c u. rw c)

  pub input_after_lem : (a : Act) (m : Machine) (i : ℕ) → input_of (does a m) i k ≡ input_after m i k a
  unfolding does input_after bay_after happens sees_all
  input_after_lem (Write a v) m i = write_input a v m i
  input_after_lem (Read a) m i = refl
  input_after_lem (Pins levels) m i =
      ap (λ (b : Bay). line b k) (bay_after_lem (Pins levels) m i) ∙ of_picked k (is_open m i) _ _
      ∙ ap (λ t. cond (is_open m i) t (input_of m i k)) (input_sees (hides m) (pins (own_levels i levels)) (bay_at m i) k l)
  input_after_lem Tick m i =
      ap (λ (b : Bay). line b k) (bay_after_lem Tick m i) ∙ of_picked k (is_open m i) _ _
      ∙ ap (λ t. cond (is_open m i) t (input_of m i k)) (input_sees (hides m) (tick (setting_of m)) (bay_at m i) k l)
  input_after_lem (Reset straps levels short) m i =
      ap (λ (b : Bay). line b k) (bay_after_lem (Reset straps levels short) m i) ∙ reset_line_lem (own_levels i levels) (lock_after_reset m.named straps) k l
  input_after_lem (Name x) m i = ap (λ (b : Bay). line b k) (bay_after_lem (Name x) m i)

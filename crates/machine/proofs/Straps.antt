-- What the lock straps do, written out for all sixteen (document 01, "Registers" and "Bay moves"): by computing. Assumes nothing.
use Prim.Native.Nat.{ℕ}
use mathlib.Core.Path.{◌≡◌, refl}
use mathlib.Core.Bool.{Bool, true, false}
use mathlib.Core.List.{[], ◌∷◌, map}
use Rattle.bits.specs.Straps.{lock_def, lock_mode}
use Rattle.bits.proofs.Named.{all_straps, whatever}
use Rattle.bay.specs.declared.Bay.{Bay}
use Rattle.bay.specs.Record.{reset_bay}
use Rattle.second.specs.Sfr.{pulsed}
use Rattle.bay.specs.Outputs.{lock_pin, green, yellow, bay_outputs, interrupts}
use Rattle.machine.specs.Record.{bay_at, bay_in, open_by}
use Rattle.machine.specs.Setting.{hides, setting_of, first_setting, is_lit, second_setting}
use Rattle.machine.specs.Outputs.{nibble, wants, outputs}
use Rattle.machine.specs.Acts.{reset_to, count_after_reset, letr_after_reset, lock_after_reset, reset_as}
use Rattle.kind.specs.declared.Kind.TheVariants.{First, Second}
use Rattle.machine.specs.declared.Machine.{Machine}
use lib.Dec.{eqb}
use Rattle.second.specs.Record.{reset}
use Rattle.bay.proofs.Taut.{pick}

pub record LockStraps (m : Machine) : Type 0 where
  -- RESET: LOCK_CTL is LOCK_DEF if LOCK_MODE is 0, and else 0.
  pub lock_ctl_0 : (levels : ℕ) (short : Bool) → map (λ s. (bay_at (reset_to s levels short m) 0).control.lock_ctl) all_straps ≡ whatever (false ∷ false ∷ true ∷ false ∷ [])
  pub lock_ctl_1 : (levels : ℕ) (short : Bool) → map (λ s. (bay_at (reset_to s levels short m) 1).control.lock_ctl) all_straps ≡ whatever (false ∷ false ∷ true ∷ false ∷ [])
  -- Of two empty bays the lock pins (bits 7 and 3) are then low only if both are 0: LOCK_MODE 1 with no pulse holds them high.
  pub lock_pins : (short : Bool) → map (λ s. outputs (reset_to s 0xFF short m)) all_straps ≡ whatever (0 ∷ 0x88 ∷ 0x88 ∷ 0x88 ∷ [])

pub lock_straps : (m : Machine) → m.named ≡ First → LockStraps m
unfolding reset_as lock_after_reset letr_after_reset count_after_reset bay_in hides setting_of first_setting is_lit reset_bay open_by lock_def lock_mode outputs nibble wants bay_outputs interrupts lock_pin green yellow
lock_straps m e = record { lock_ctl_0 = λ l short. rw e; lock_ctl_1 = λ l short. rw e; lock_pins = λ short. rw e }

-- In the second kind they do nothing: LOCK_CTL is 0 and the pins are low, whatever the straps.
pub record NoStraps (m : Machine) : Type 0 where
  pub lock_ctl : (straps levels : ℕ) (short : Bool) (i : ℕ) → (bay_at (reset_to straps levels short m) i).control.lock_ctl ≡ false
  pub lock_pins : (short : Bool) → map (λ s. outputs (reset_to s 0xFF short m)) all_straps ≡ whatever (0 ∷ 0 ∷ 0 ∷ 0 ∷ [])

pub no_straps : (m : Machine) → m.named ≡ Second → NoStraps m
unfolding reset_as lock_after_reset count_after_reset bay_in hides setting_of second_setting is_lit reset_bay reset pulsed open_by outputs nibble wants bay_outputs interrupts lock_pin green yellow
no_straps m e =
    record { lock_ctl = λ s l short i. rw e (pick (λ (b : Bay). b.control.lock_ctl ≡ false) (eqb i 0) (λ _. refl) (λ _. refl)); lock_pins = λ short. rw e }

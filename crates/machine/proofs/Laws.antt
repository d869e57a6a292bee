-- What the machine's rules come to (document 01): the theorems that others cite. Assumes nothing.
use Prim.Native.Nat.{ℕ}
use mathlib.Core.Path.{◌≡◌, refl, ◌∙◌, ap}
use mathlib.Core.Logic.{◌↔◌}
use mathlib.Core.Bool.{Bool, true, false, cond}
use Rattle.bits.specs.Bits.{bit}
use Rattle.bay.specs.declared.Bay.{Bay}
use Rattle.bay.specs.Record.{present, ENABLED}
use Rattle.bay.specs.Registers.{control_of}
use Rattle.bay.proofs.Taut.{pick}
use Rattle.bay.proofs.Laws.{power_needs_lock_and_device, enabled_keeps_power}
use Rattle.machine.specs.Record.{bay_at, bay_in, is_open, fits, fresh_machine}
use Rattle.machine.specs.Setting.{hides, setting_of}
use Rattle.machine.specs.Outputs.{nibble, wants, outputs}
use Rattle.machine.specs.Registers.{bstr_at, bcer_at, bstr_write, bcer_write}
use Rattle.machine.specs.InForce.{register, reading, written}
use Rattle.machine.specs.Acts.{sampled_at, ticked_at, pins_to, tick_to}
use Rattle.machine.specs.After.{bay_written, bcer_address, bcer_own, bstr_address, bstr_own}
use Rattle.machine.specs.declared.Machine.{Machine}
use Rattle.machine.proofs.Bays.{put_bay}
use Rattle.machine.proofs.Choice.{passed, chosen}
use Rattle.machine.proofs.After.{written_bay}
use Rattle.machine.proofs.Fit.{fresh_fit}
use Rattle.kind.specs.declared.Kind.TheVariants.{First, Second}
use Rattle.kind.specs.declared.Kind.{Kind}
use mathlib.Core.List.{List, [], ◌∷◌}
use Rattle.machine.specs.FirstKind.{first_register, first_registers, first_writes, first_written}
use Rattle.machine.specs.SecondKind.{form_factor_at, form_factor_write, second_register, second_registers, second_writes, second_written}
use Rattle.machine.proofs.Addresses.{in_first, in_second}
use Rattle.kind.specs.Kind.{is_second}

-- ---- a fresh machine: fit, not started, of the first kind and named so, outputs 000, every register 0

pub record Fresh (m : Machine) : Type 0 where
  pub fit : fits m ≡ true
  pub not_started : m.started ≡ false
  pub kinds : (m.kind ≡ First) × (m.named ≡ First)
  pub outputs_0 : outputs m ≡ 0
  pub registers_0 : (a : ℕ) → reading m a ≡ 0

pub fresh_is : Fresh fresh_machine
unfolding fresh_machine outputs reading
fresh_is = record { fit = fresh_fit; not_started = refl; kinds = (refl, refl); outputs_0 = refl; registers_0 = λ a. refl }

-- A state not started has outputs 000 and every register reads 0, fresh or not.
pub silent_before_reset : (m : Machine) → m.started ≡ false → (outputs m ≡ 0) × ((a : ℕ) → reading m a ≡ 0)
unfolding outputs reading
silent_before_reset m f = (passed f _ _, λ a. passed f _ _)

-- ---- a closed bay

-- PINS and TICK pass it by, its registers read 0 and take no write, its outputs are 0.
pub record PassedBy (m : Machine) : Type 0 where
  pub pins : (levels : ℕ) → bay_at (pins_to levels m) 1 ≡ bay_at m 1
  pub tick : bay_at (tick_to m) 1 ≡ bay_at m 1
  pub drives_0 : nibble m 1 ≡ 0
  pub wants_none : wants m 1 ≡ false

-- Its registers are 18h and 1Ch, or in the second kind 18h-1Bh and 20h-23h.
abbrev pub closed_addresses : Kind → List ℕ
closed_addresses First = 0x18 ∷ 0x1C ∷ []
closed_addresses Second = 0x18 ∷ 0x19 ∷ 0x1A ∷ 0x1B ∷ 0x20 ∷ 0x21 ∷ 0x22 ∷ 0x23 ∷ []

abbrev All : (ℕ → Type 0) → List ℕ → Type 0
All P [] = Unit {0}
All P (a ∷ rest) = P a × All P rest

pub record Unanswering (m : Machine) (a : ℕ) : Type 0 where
  pub reads : reading m a ≡ 0
  pub takes : (v : ℕ) → written a v m ≡ m

pub closed_bay : (m : Machine) → is_open m 1 ≡ false → PassedBy m
unfolding pins_to tick_to bay_in sampled_at ticked_at nibble wants
closed_bay m o = record { pins = λ levels. rw o; tick = rw o; drives_0 = rw o; wants_none = rw o }

pub closed_registers : (m : Machine) → is_open m 1 ≡ false → All (Unanswering m) (closed_addresses m.kind)
unfolding reading register first_register first_registers second_register second_registers bstr_at bcer_at form_factor_at first_written first_writes second_written second_writes bstr_write bcer_write form_factor_write
closed_registers m o = go m.kind refl
  where
    either : (b : Bool) → ◌≡◌ {A = ℕ} (cond b 0 0) 0
    either true = refl
    either false = refl

    of_first : (a : ℕ) → m.kind ≡ First → first_register m a ≡ 0 → ((v : ℕ) → first_written a v m ≡ m) → Unanswering m a
    of_first a e r w =
        record { reads = ap (λ n. cond m.started n 0) (passed (ap is_second e) _ _ ∙ r) ∙ either m.started; takes = λ v. in_first a v m e ∙ w v }

    of_second : (a : ℕ) → m.kind ≡ Second → second_register m a ≡ 0 → ((v : ℕ) → second_written a v m ≡ m) → Unanswering m a
    of_second a e r w =
        record { reads = ap (λ n. cond m.started n 0) (chosen (ap is_second e) _ _ ∙ r) ∙ either m.started; takes = λ v. in_second a v m e ∙ w v }

    go : (k : Kind) → m.kind ≡ k → All (Unanswering m) (closed_addresses k)
    go First e = (of_first 0x18 e (passed o _ _) (λ v. passed o _ _), (of_first 0x1C e (passed o _ _) (λ v. passed o _ _), tt))
    go Second e = (
      of_second 0x18 e (passed o _ _) (λ v. passed o _ _),
      (
        of_second 0x19 e refl (λ v. refl),
        (
          of_second 0x1A e refl (λ v. refl),
          (
            of_second 0x1B e refl (λ v. refl),
            (
              of_second 0x20 e (passed o _ _) (λ v. passed o _ _),
              (of_second 0x21 e (passed o _ _) (λ v. passed o _ _), (of_second 0x22 e refl (λ v. refl), (of_second 0x23 e refl (λ v. refl), tt))),
            ),
          ),
        ),
      ),
    )

-- ---- one bay's registers leave the other bay alone

pub record Apart (v : ℕ) (m : Machine) : Type 0 where
  pub bstr0 : bay_at (written (bstr_own m 0) v m) 1 ≡ bay_at m 1
  pub bcer0 : bay_at (written (bcer_own m 0) v m) 1 ≡ bay_at m 1
  pub bstr1 : bay_at (written (bstr_own m 1) v m) 0 ≡ bay_at m 0
  pub bcer1 : bay_at (written (bcer_own m 1) v m) 0 ≡ bay_at m 0

pub writes_apart : (v : ℕ) (m : Machine) → Apart v m
unfolding bay_written bstr_address bcer_address
writes_apart v m = record { bstr0 = go₀ m.kind refl; bcer0 = go₁ m.kind refl; bstr1 = go₂ m.kind refl; bcer1 = go₃ m.kind refl }
  where
    go₀ : (k : Kind) → m.kind ≡ k → bay_at (written (bstr_address k 0) v m) 1 ≡ bay_at m 1
    go₀ First e = written_bay 0x10 v m 1 ∙ rw e
    go₀ Second e = written_bay 0x14 v m 1 ∙ rw e

    go₁ : (k : Kind) → m.kind ≡ k → bay_at (written (bcer_address k 0) v m) 1 ≡ bay_at m 1
    go₁ First e = written_bay 0x14 v m 1 ∙ rw e
    go₁ Second e = written_bay 0x10 v m 1 ∙ rw e

    go₂ : (k : Kind) → m.kind ≡ k → bay_at (written (bstr_address k 1) v m) 0 ≡ bay_at m 0
    go₂ First e = written_bay 0x18 v m 0 ∙ rw e
    go₂ Second e = written_bay 0x20 v m 0 ∙ rw e

    go₃ : (k : Kind) → m.kind ≡ k → bay_at (written (bcer_address k 1) v m) 0 ≡ bay_at m 0
    go₃ First e = written_bay 0x1C v m 0 ∙ rw e
    go₃ Second e = written_bay 0x18 v m 0 ∙ rw e

-- ---- power after a write of BCER, in an open bay

pub bcer_power :
    (i v : ℕ) (m : Machine) → is_open m i ≡ true
    → ((bay_at (bcer_write i v m) i).control.pwr_ctl ≡ true) ↔ ((bit 0 v ≡ true) × (bit 7 v ≡ true) × (present (hides m) (bay_at m i) ≡ true))
unfolding bcer_write control_of
bcer_power i v m o = rw (o, put_bay i) (power_needs_lock_and_device (hides m) (control_of v) _ (bay_at m i))

-- ---- power over a tick

-- A powered bay that is Enabled after a TICK is powered after it.
pub enabled_stays_powered : (m : Machine) (i : ℕ) → (bay_at m i).control.pwr_ctl ≡ true → (ticked_at m i).state ≡ ENABLED → (ticked_at m i).control.pwr_ctl ≡ true
unfolding ticked_at
enabled_stays_powered m i p =
    pick (λ (b : Bay). b.state ≡ ENABLED → b.control.pwr_ctl ≡ true) (is_open m i) (λ o. enabled_keeps_power (hides m) (setting_of m) (bay_at m i) p) (λ o e. p)

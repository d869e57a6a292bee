-- The nine outputs by name, and how lamps flash (document 01, "Replies and refusal numbers" and "Bay moves"). Assumes nothing.
use Prim.Native.Nat.{ℕ, zero, suc, ◌+◌, ◌*◌, ◌/◌, ◌%◌, ◌<◌}
use native.Mathlib.Omega.{arith}
use mathlib.Core.Path.{◌≡◌, ◌∙◌, refl}
use mathlib.Core.Bool.{Bool, true, false, ◌||◌, ◌&&◌, cond}
use mathlib.Core.List.{[], ◌∷◌, map}
use lib.Dec.{ltb}
use lib.ListN.{get_or, replicate}
use borrow.Author.Tests.{eq-eqb, ne_eqb, ltb-true, ltb-false}
use Rattle.bits.specs.Bits.{bit, put}
use Rattle.bay.specs.Outputs.{lock_pin, bay_outputs}
use Rattle.bay.proofs.Taut.{pick}
use Rattle.bay.proofs.Named.{bay_drives, lamps}
use Rattle.machine.specs.Record.{bay_at, is_open}
use Rattle.machine.specs.Setting.{hides, setting_of, is_lit}
use Rattle.machine.specs.Outputs.{nibble, wants, outputs}
use Rattle.machine.specs.Acts.{next_phase, tick_to, does, does_all}
use Rattle.machine.specs.declared.Machine.{Machine}
use Rattle.machine.specs.declared.Act.TheVariants.{Tick}
use Rattle.machine.proofs.Choice.{chosen}
use Rattle.machine.proofs.Ranges.{nibble_small, bit_small}
use Rattle.kind.specs.declared.Kind.TheVariants.{First, Second}
use Rattle.kind.specs.declared.Kind.{Kind}
use Rattle.kind.specs.Kind.{is_second}

-- ---- which bit is which

-- Bits 8-5 are bay 0's, 4-1 bay 1's, and bit 0 is the interrupt, asserted for some open bay.
pub record Nine (m : Machine) (nine : ℕ) : Type 0 where
  pub bits_8_5 : nine / 32 ≡ nibble m 0
  pub bits_4_1 : nine / 2 % 16 ≡ nibble m 1
  pub bit_0 : bit 0 nine ≡ (wants m 0 || wants m 1)

pub nine_outputs : (m : Machine) → m.started ≡ true → Nine m (outputs m)
unfolding outputs
nine_outputs m t =
    rw (chosen t)
    (record {
      bits_8_5 = omega (arith, nibble_small m 1, bit_small (wants m 0 || wants m 1));
      bits_4_1 = omega (arith, nibble_small m 1, bit_small (wants m 0 || wants m 1));
      bit_0 = lowest (nibble m 0) (nibble m 1) (wants m 0 || wants m 1);
    })
  where
    lowest : (p q : ℕ) (on : Bool) → bit 0 (p * 32 + q * 2 + put 0 on) ≡ on
    lowest p q true = eq-eqb ((p * 32 + q * 2 + 1) / 1 % 2) 1 (omega arith)
    lowest p q false = ne_eqb ((p * 32 + q * 2 + 0) / 1 % 2) 1 (λ e. omega (arith, e))

-- Whether a flashing lamp is lit: in the first kind while the phase is below 100, in the second in the first half of each hundred.
abbrev pub lit : Machine → Bool
lit m = cond (is_second m.kind) (ltb (m.phase % 100) 50) (ltb m.phase 100)

lit_as : (m : Machine) → is_lit m.kind m.phase ≡ lit m
unfolding is_lit
lit_as m = go m.kind
  where
    go : (k : Kind) → is_lit k m.phase ≡ cond (is_second k) (ltb (m.phase % 100) 50) (ltb m.phase 100)
    go First = refl
    go Second = refl

-- A bay's four: power is PWR_CTL; the lamps in Empty, Inserted, Enabled, Removal Requested and Removal Allowed. In the second kind the green
-- one flashes in Empty for a device that seats, with DEVSTSCHG_EN.
pub record Four (m : Machine) (i : ℕ) (four : ℕ) : Type 0 where
  pub power : bit 3 four ≡ (bay_at m i).control.pwr_ctl
  pub lock_pin_lem : bit 2 four ≡ lock_pin (setting_of m) (bay_at m i)
  pub green :
      bit 1 four
      ≡ get_or ((is_second m.kind && ltb 0 (bay_at m i).wait && (bay_at m i).control.devstschg_en && lit m) ∷ lit m ∷ true ∷ false ∷ false ∷ []) (bay_at m i).state false
  pub yellow : bit 0 four ≡ get_or (false ∷ false ∷ false ∷ lit m ∷ false ∷ []) (bay_at m i).state false

pub four_outputs : (m : Machine) (i : ℕ) → is_open m i ≡ true → (bay_at m i).state < 5 → Four m i (nibble m i)
unfolding nibble hides
four_outputs m i o l = rw (chosen o, lit_as m) four
  where
    four : Four m i (bay_outputs (hides m) (setting_of m) (lit m) (bay_at m i))
    four =
        let d = bay_drives (hides m) (setting_of m) (lit m) (bay_at m i) in
        let lamp = lamps (hides m) (lit m) (bay_at m i) l in
        record { power = d.power; lock_pin_lem = d.lock; green = d.green ∙ lamp.0; yellow = d.yellow ∙ lamp.1 }

-- Over a phase's 200 ticks: lit below 100; and lit below 50, and from 100 below 150.
pub flashes :
    (map (is_lit First) (0 ∷ 49 ∷ 50 ∷ 99 ∷ 100 ∷ 149 ∷ 150 ∷ 199 ∷ []) ≡ true ∷ true ∷ true ∷ true ∷ false ∷ false ∷ false ∷ false ∷ [])
    × (map (is_lit Second) (0 ∷ 49 ∷ 50 ∷ 99 ∷ 100 ∷ 149 ∷ 150 ∷ 199 ∷ []) ≡ true ∷ true ∷ false ∷ false ∷ true ∷ true ∷ false ∷ false ∷ [])
unfolding is_lit
flashes = (refl, refl)

-- ---- the phase

next_phase_lem : (p : ℕ) → p < 200 → next_phase p ≡ (p + 1) % 200
unfolding next_phase
next_phase_lem p l = pick (λ n. n ≡ (p + 1) % 200) (ltb p 199) (λ h. omega (arith, ltb-true p 199 h)) (λ h. omega (arith, ltb-false p 199 h))

-- Ticks alone, from any phase.
pub phase_after : (k : ℕ) (m : Machine) → m.phase < 200 → (does_all (replicate k Tick) m).phase ≡ (m.phase + k) % 200
unfolding does_all does tick_to
phase_after zero m l = omega (arith, l)
phase_after (suc k) m l =
    let n = next_phase_lem m.phase l in phase_after k (tick_to m) (omega (arith, n)) ∙ omega (arith, n)

-- How long a pulse holds the lock pin at its level: through its ticks and no longer, whatever its length (document 01, "Bay moves"; document 03,
-- "Bay moves" and "Outputs"); so in the first kind low for 50 ticks after a RESET with LETR unwritten, or for 12 (document 02, request 4), and in
-- the second high for SFR's. Assumes nothing.
use Prim.Native.Nat.{ℕ, zero, suc, ◌-◌, ◌<◌, ◌%◌, ◌*◌, ◌/◌}
use native.Mathlib.Omega.{arith}
use mathlib.Core.Path.{◌≡◌, refl, ap, ◌∙◌, sym, subst}
use mathlib.Core.Logic.{◌↔◌}
use mathlib.Core.Bool.{Bool, true, false, cond, or-true}
use lib.ListN.{replicate}
use lib.Dec.{eqb, ltb}
use Rattle.bits.specs.Bits.{bit}
use Rattle.bits.specs.Straps.{lock_mode}
use Rattle.bay.specs.declared.Bay.{Bay}
use Rattle.bay.specs.declared.Setting.{Setting}
use Rattle.bay.specs.Outputs.{lock_pin}
use Rattle.bay.proofs.Named.{bcer_stores, pulse_falls, lock_pin_pulsed}
use Rattle.bay.proofs.Taut.{pick}
use Rattle.machine.specs.Record.{bay_at, is_open, open_by}
use Rattle.second.specs.Sfr.{pulsed, pulse_ticks_of}
use Rattle.machine.specs.Setting.{hides, pulse_ticks_of as letr_ticks, setting_of, first_setting, second_setting}
use Rattle.machine.specs.Registers.{bcer_write}
use Rattle.machine.specs.Acts.{reset_to, tick_to, does, does_all, count_after_reset, letr_after_reset, reset_as}
use Rattle.machine.specs.After.{bcer_address, bay_after, bcer_own}
use Rattle.machine.specs.declared.Machine.{Machine}
use Rattle.machine.specs.declared.Act.TheVariants.{Write, Tick}
use Rattle.machine.proofs.Choice.{chosen}
use Rattle.machine.proofs.Addresses.{write_steady}
use Rattle.machine.proofs.Map.{unlocking}
use Rattle.machine.proofs.After.{bay_after_lem}
use Rattle.machine.proofs.Moves.{moves, bcer_write_lem}
use Rattle.kind.specs.declared.Kind.TheVariants.{First, Second}
use Rattle.kind.specs.Kind.{is_second}

-- The machine after so many TICKs.
abbrev pub ticked : ℕ → Machine → Machine
ticked n m = does_all (replicate n Tick) m

pulse_left : (n : ℕ) (m : Machine) (i : ℕ) → is_open m i ≡ true → (bay_at (ticked n m) i).pulse ≡ (bay_at m i).pulse - n
unfolding does_all does tick_to bay_after
pulse_left zero m i o = omega arith
pulse_left (suc n) m i o =
    let one : (bay_at (tick_to m) i).pulse ≡ (bay_at m i).pulse - 1 = ap (λ (b : Bay). b.pulse) (bay_after_lem Tick m i ∙ chosen o _ _) ∙ pulse_falls (hides m) (setting_of m) (bay_at m i) in
    pulse_left n (tick_to m) i o ∙ rw one (omega arith)

-- TICKs leave what the registers make of a bay's rules.
setting_stays : (n : ℕ) (m : Machine) → setting_of (ticked n m) ≡ setting_of m
unfolding does_all does tick_to setting_of first_setting second_setting
setting_stays zero m = refl
setting_stays (suc n) m = setting_stays n (tick_to m)

-- The lock pin of a bay.
abbrev pub pin : Machine → ℕ → Bool
pin m i = lock_pin (setting_of m) (bay_at m i)

-- Where the lock is pulsed, the pin of an open bay is at the pulse's level exactly as long as it has ticks left.
pub pulse_lasts :
    (n : ℕ) (m : Machine) (i : ℕ) → is_open m i ≡ true → (setting_of m).pulsed ≡ true → (pin (ticked n m) i ≡ (setting_of m).pulse_high) ↔ (n < (bay_at m i).pulse)
pulse_lasts n m i o mode =
    let left = pulse_left n m i o in
    let at_level = rw (setting_stays n m) at (lock_pin_pulsed (setting_of (ticked n m)) (bay_at (ticked n m) i) (ap (λ (s : Setting). s.pulsed) (setting_stays n m) ∙ mode)) in
    (λ h. omega (arith, left, at_level.0 (sym (ap (λ s. lock_pin s (bay_at (ticked n m) i)) (setting_stays n m)) ∙ h)), λ h. ap (λ s. lock_pin s (bay_at (ticked n m) i)) (setting_stays n m) ∙ at_level.1 (omega (arith, left, h)))

-- ---- a pulse that a write of BCER starts

module _ (i v : ℕ) (m : Machine) (l : i < 2) where
  -- Such a write leaves the shared registers, and so what they make of a bay's rules.
  abbrev after : Machine
  after = does (Write (bcer_own m i) v) m

  bcer_setting : setting_of after ≡ setting_of m
  unfolding does bcer_write setting_of first_setting second_setting
  bcer_setting = ap setting_of (bcer_write_lem i v m l) ∙ pick (λ (n : Machine). setting_of n ≡ setting_of m) (is_open m i) (λ o. refl) (λ o. refl)

  bcer_open : is_open after i ≡ is_open m i
  unfolding does bcer_write
  bcer_open = ap (λ (n : Machine). is_open n i) (bcer_write_lem i v m l) ∙ pick (λ (n : Machine). is_open n i ≡ is_open m i) (is_open m i) (λ o. refl) (λ o. refl)

  -- LOCK_CTL from 1 to 0: the pin is at the pulse's level through its ticks less one, and not after the last.
  pub unlocking_pulse :
      is_open m i ≡ true → (setting_of m).pulsed ≡ true → (bay_at m i).control.lock_ctl ≡ true → bit 7 v ≡ false → (n : ℕ)
      → (pin (ticked n after) i ≡ (setting_of m).pulse_high) ↔ (n < (setting_of m).pulse_ticks)
  unfolding does
  unlocking_pulse o mode lock unlocks n =
      let pulse : (bay_at after i).pulse ≡ (setting_of m).pulse_ticks = ap (λ (x : Machine). (bay_at x i).pulse) (bcer_write_lem i v m l) ∙ unlocking i v m o mode lock unlocks in
      rw (pulse, bcer_setting) at (pulse_lasts n after i (bcer_open ∙ o) (ap (λ (s : Setting). s.pulsed) bcer_setting ∙ mode))

-- In the second kind it is high, for SOL x 5 ticks with SPD 0, and SOL x 80 with SPD 1.
pub pulsed_second :
    (m : Machine) → m.kind ≡ Second
    → ((setting_of m).pulsed ≡ ltb 0 (m.second.sfr / 2 % 16)) × ((setting_of m).pulse_high ≡ true)
    × ((setting_of m).pulse_ticks ≡ m.second.sfr / 2 % 16 * cond (bit 0 m.second.sfr) 80 5)
unfolding setting_of second_setting pulsed pulse_ticks_of
pulsed_second m e = rw (chosen (ap is_second e)) (refl, refl, refl)

-- ---- the first kind, after a RESET

start_ticks : (short : Bool) → letr_ticks (cond short 0 1) ≡ cond short 12 50
unfolding letr_ticks
start_ticks true = refl
start_ticks false = refl

reset_open : (straps levels : ℕ) (short : Bool) (m : Machine) → m.named ≡ First → (i : ℕ) → is_open (reset_to straps levels short m) i ≡ true
unfolding reset_as count_after_reset open_by
reset_open straps levels short m e i = rw e (or-true (eqb i 0))

-- LOCK_CTL written 1 and then 0 in a bay.
abbrev pub unlocked : ℕ → ℕ → ℕ → Machine → Machine
unlocked i v w m = does (Write (bcer_address First i) w) (does (Write (bcer_address First i) v) m)

module _
    (straps levels : ℕ) (short : Bool) (m : Machine) (e : m.named ≡ First) (i v w : ℕ) (mode : lock_mode straps ≡ true) (l : i < 2)
    (locks : bit 7 v ≡ true) (unlocks : bit 7 w ≡ false)
  where
    abbrev begun : Machine
    begun = reset_to straps levels short m

    setting_begun : ((setting_of begun).pulsed ≡ true) × ((setting_of begun).pulse_ticks ≡ cond short 12 50) × ((setting_of begun).pulse_high ≡ false)
    unfolding reset_as letr_after_reset setting_of first_setting
    setting_begun = rw e (mode, start_ticks short, refl)

    abbrev locked : Machine
    locked = does (Write (bcer_address First i) v) begun

    begun_kind : begun.kind ≡ First
    unfolding reset_as
    begun_kind = e

    locked_kind : locked.kind ≡ First
    unfolding does
    locked_kind = (write_steady _ v begun).kind ∙ begun_kind

    -- The address is that of the kind in force.
    own : locked ≡ does (Write (bcer_own begun i) v) begun
    own = ap (λ k. does (Write (bcer_address k i) v) begun) (sym begun_kind)

    lock_ctl : (bay_at locked i).control.lock_ctl ≡ true
    lock_ctl =
        ap (λ (n : Machine). (bay_at n i).control.lock_ctl) own
        ∙ ap (λ (b : Bay). b.control.lock_ctl) ((moves begun i).bcer v (reset_open straps levels short m e i))
        ∙ (bcer_stores (hides begun) v _ (bay_at begun i)).lock_ctl
        ∙ locks

    -- In LOCK_MODE 1, with LETR unwritten, the pin is low through 49 ticks and high after the 50th; with the short pulse through 11 and after
    -- the 12th.
    pub reset_pulse : (n : ℕ) → (pin (ticked n (unlocked i v w begun)) i ≡ false) ↔ (n < cond short 12 50)
    reset_pulse n =
        let same : setting_of locked ≡ setting_of begun = ap setting_of own ∙ bcer_setting i v begun l in
        let opened : is_open locked i ≡ true = ap (λ x. is_open x i) own ∙ bcer_open i v begun l ∙ reset_open straps levels short m e i in
        let both = unlocking_pulse i w locked l opened (ap (λ (s : Setting). s.pulsed) same ∙ setting_begun.0) lock_ctl unlocks n in
        let again : unlocked i v w begun ≡ does (Write (bcer_own locked i) w) locked = ap (λ k. does (Write (bcer_address k i) w) locked) (sym locked_kind) in
        let low : (setting_of locked).pulse_high ≡ false = ap (λ (s : Setting). s.pulse_high) same ∙ setting_begun.2 in
        let ticks : (setting_of locked).pulse_ticks ≡ cond short 12 50 = ap (λ (s : Setting). s.pulse_ticks) same ∙ setting_begun.1 in
        (λ h. subst (λ x. n < x) ticks (both.0 (ap (λ x. pin (ticked n x) i) (sym again) ∙ h ∙ sym low)), λ h. ap (λ x. pin (ticked n x) i) again ∙ both.1 (subst (λ x. n < x) (sym ticks) h) ∙ low)

-- What a wait promises over acts (document 02, request 6; document 03, "Bay moves"): the bay's own promise (bay/specs/Waits.antt), said of the machine that it is in.
use Rattle.std.specs.Prelude.{ℕ, suc, ◌+◌, ◌-◌, ◌/◌, ◌%◌, ◌<◌, ◌≡◌, Bool, true, false, not, ◌&&◌, ◌||◌, List, [], ◌∷◌, eqb}
use Rattle.bits.specs.Bits.{bit}
use Rattle.bay.specs.Record.{contact}
use Rattle.bay.specs.Table.{asks_nothing}
use Rattle.bay.specs.Waits.{Seating, Seated, Unseen}
use Rattle.bay.specs.declared.Bay.{Bay}
use Rattle.machine.specs.Record.{bay_at}
use Rattle.machine.specs.Setting.{hides}
use Rattle.machine.specs.Acts.{does, does_all}
use Rattle.machine.specs.After.{bcer_own, closes}
use Rattle.machine.specs.declared.Machine.{Machine}
use Rattle.machine.specs.declared.Act.{Act}
use Rattle.machine.specs.declared.Act.TheVariants.{Write, Read, Pins, Tick, Reset, Name}

-- A byte written to the bay's BCER: DEVSTSCHG_EN, bit 2, is written 0, or a state is asked for with a device present.
abbrev pub clears_or_asks : Machine → ℕ → ℕ → Bool
clears_or_asks m i v = not (bit 2 v) || not (asks_nothing (hides m) v (bay_at m i))

-- What ends a wait: such a write, where it doesn't hide the device; closing the bay, a TICK after which the device isn't there, and RESET. No
-- other act does, whatever it writes, 42h, SFR and the other bay's registers included.
unfoldable pub ends_wait : Machine → ℕ → Act → Bool
ends_wait m i (Write a v) = (not (hides m) && eqb a (bcer_own m i) && clears_or_asks m i v) || closes m i a v
ends_wait m i (Read a) = false
ends_wait m i (Pins levels) = false
ends_wait m i Tick = not (contact (bay_at (does Tick m) i))
ends_wait m i (Reset straps levels short) = true
ends_wait m i (Name k) = false

-- None of these acts does.
unfoldable pub undisturbed : Machine → ℕ → List Act → Bool
undisturbed m i [] = true
undisturbed m i (a ∷ acts) = not (ends_wait m i a) && undisturbed (does a m) i acts

-- How many TICKs there are among them.
abbrev pub one_tick : Act → ℕ
one_tick (Write a v) = 0
one_tick (Read a) = 0
one_tick (Pins levels) = 0
one_tick Tick = 1
one_tick (Reset straps levels short) = 0
one_tick (Name k) = 0

abbrev pub ticks_in : List Act → ℕ
ticks_in [] = 0
ticks_in (a ∷ acts) = one_tick a + ticks_in acts

-- No wait runs, in that state.
pub record Over (state : ℕ) (b : Bay) : Type 0 where
  pub none : b.wait ≡ 0
  pub stands : b.state ≡ state

-- Each of them ends one, and where the bay is then.
pub record BrokenOff (m : Machine) (i : ℕ) : Type 0 where
  -- Removal; of a device that is hidden no register tells.
  pub removal : contact (bay_at (does Tick m) i) ≡ false → Over 0 (bay_at (does Tick m) i)
  pub unseen : hides m ≡ true → contact (bay_at (does Tick m) i) ≡ false → Unseen (bay_at m i) (bay_at (does Tick m) i)
  -- DEVSTSCHG_EN, bit 2 of BCER, written 0, where the device isn't hidden.
  pub cleared : hides m ≡ false → (v : ℕ) → bit 2 v ≡ false → asks_nothing (hides m) v (bay_at m i) ≡ true → Over 0 (bay_at (does (Write (bcer_own m i) v) m) i)
  -- A driver's request, bits 6-4, likewise: the bay goes where it is asked to.
  pub asked : hides m ≡ false → (v : ℕ) → asks_nothing (hides m) v (bay_at m i) ≡ false → Over (v / 16 % 8) (bay_at (does (Write (bcer_own m i) v) m) i)
  -- Closing the bay.
  pub closed : (v : ℕ) → closes m i 0x0C v ≡ true → Over 0 (bay_at (does (Write 0x0C v) m) i)
  -- RESET.
  pub reset : (straps levels : ℕ) (short : Bool) → Over 0 (bay_at (does (Reset straps levels short) m) i)

-- The promise, of a wait of n ticks in bay i.
pub record Seats (n : ℕ) (m : Machine) (i : ℕ) : Type 0 where
  -- Until its last tick the device seats.
  pub goes_on : (acts : List Act) → undisturbed m i acts ≡ true → ticks_in acts < n → Seating (hides m) (n - ticks_in acts) (bay_at (does_all acts m) i)
  -- In its last tick it has seated, unless the device leaves.
  pub ends :
      (acts : List Act) → undisturbed m i acts ≡ true → suc (ticks_in acts) ≡ n → contact (bay_at (does Tick (does_all acts m)) i) ≡ true
      → Seated (hides m) (bay_at (does_all acts m) i) (bay_at (does Tick (does_all acts m)) i)
  -- In any of them it can be broken off.
  pub broken : (acts : List Act) → undisturbed m i acts ≡ true → ticks_in acts < n → BrokenOff (does_all acts m) i

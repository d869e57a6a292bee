-- What becomes of a bay's inputs at each act (document 01, "Bay moves" and "Registers"; document 02, request 5).
use Rattle.std.specs.Prelude.{ℕ, ◌-◌, Bool, true, cond}
use Rattle.bits.specs.Bits.{bit}
use Rattle.bay.specs.Record.{ticks_for}
use Rattle.bay.specs.Debounced.{Line, rest_line, Tick as SeesTick, Sample, sees}
use Rattle.bay.specs.Happens.{line}
use Rattle.machine.specs.Record.{bay_at, is_open}
use Rattle.machine.specs.After.{closes, own_levels}
use Rattle.machine.specs.declared.Machine.{Machine}
use Rattle.machine.specs.declared.Act.{Act}
use Rattle.machine.specs.declared.Act.TheVariants.{Write, Read, Pins, Tick, Reset, Name}

-- Input k of bay i: its level, its accepted level and its count.
abbrev pub input_of : Machine → ℕ → ℕ → Line
input_of m i k = line (bay_at m i) k

-- The level of input k among a bay's four: n1394, nUSB, nREMREQ from the highest down.
abbrev pub sample_of : ℕ → ℕ → ℕ → Bool
sample_of i k levels = bit (3 - k) (own_levels i levels)

-- In an open bay it sees every TICK, and its own level in each PINS; RESET leaves it at rest at the level given, and the closing of the
-- bay at 1; nothing else alters it.
unfoldable pub input_after : Machine → ℕ → ℕ → Act → Line
input_after m i k (Write a v) = cond (closes m i a v) (rest_line true) (input_of m i k)
input_after m i k (Read a) = input_of m i k
input_after m i k (Pins levels) = cond (is_open m i) (sees (ticks_for k) (Sample (sample_of i k levels)) (input_of m i k)) (input_of m i k)
input_after m i k Tick = cond (is_open m i) (sees (ticks_for k) SeesTick (input_of m i k)) (input_of m i k)
input_after m i k (Reset straps levels short) = rest_line (sample_of i k levels)
input_after m i k (Name x) = input_of m i k

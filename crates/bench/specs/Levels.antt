-- The levels at the dock's inputs, as they were last given to it (document 01, "Event words"): n1394, nUSB, nREMREQ, nSL of bay 0,
-- then of bay 1, bit 7 to 0; 0 is asserted.
use Rattle.std.specs.Prelude.{ℕ, ◌+◌, ◌*◌, ◌-◌, cond, List, eqb}
use Rattle.std.specs.Int.Bits.{bit_and, bit_or}
use Rattle.bits.specs.Bits.{put_weight}
use Rattle.bay.specs.Record.{N1394, NUSB, NREMREQ, level}
use Rattle.bay.specs.declared.Bay.{Bay}
use Rattle.machine.specs.Record.{bay0, bay1}
use Rattle.machine.specs.declared.Machine.{Machine}
use Rattle.event.specs.declared.Event.{Event}
use Rattle.event.specs.declared.Event.TheVariants.{Start, Stop, Byte, Take, Pins, Tick, Reset, Timeout}
use Rattle.chassis.specs.Numbers.{answer_refusal}
use Rattle.bench.specs.Docks.{levels_at, with_levels}
use Rattle.std.specs.Prelude.{Result, Ok, Err}
use Rattle.event.specs.declared.NoEvent.{NoEvent}
use Rattle.bus.specs.declared.Reply.{Reply}
use Rattle.chassis.specs.declared.Refusal.{Refusal}

-- Inputs, each by its weight, go to 0 or to 1; the others stay.
unfoldable pub pulled : ℕ → ℕ → ℕ
pulled l inputs = bit_and l (0xFF - inputs)

unfoldable pub raised : ℕ → ℕ → ℕ
raised l inputs = bit_or l inputs

-- A PINS and a RESET give levels.
unfoldable pub given_by : Event → ℕ → ℕ
given_by Start l = l
given_by Stop l = l
given_by (Byte b) l = l
given_by (Take ack) l = l
given_by (Pins p) l = p
given_by Tick l = l
given_by (Reset s p short) l = p
given_by Timeout l = l

-- .. to the dock with the number that stands beside the word.
abbrev pub given_in : Result Event NoEvent → ℕ → List ℕ → List ℕ
given_in (Ok e) d ls = with_levels d (given_by e (levels_at d ls)) ls
given_in (Err why) d ls = ls

-- A word that is refused gives none.
unfoldable pub levels_after : Result Reply Refusal → Result Event NoEvent → ℕ → List ℕ → List ℕ
levels_after a u d ls = cond (eqb (answer_refusal a) 0) (given_in u d ls) ls

-- The levels that a dock has stored, those of its last samples: what an image brings with it.
unfoldable pub bay_levels : Bay → ℕ
bay_levels b = put_weight 8 (level b N1394) + put_weight 4 (level b NUSB) + put_weight 2 (level b NREMREQ) + put_weight 1 b.n_sl

unfoldable pub levels_in : Machine → ℕ
levels_in m = bay_levels (bay0 m.bays) * 16 + bay_levels (bay1 m.bays)

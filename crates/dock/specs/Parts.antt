-- What becomes of a part of the machine at each event, by what becomes of it at each act: an act is decided by PINS, TICK and RESET, and
-- by the STOP of a whole write, or in the second kind by each of its data bytes; no other event alters the machine (document 01, "Bus
-- commands"; document 03, "Bus transfers").
use Rattle.event.specs.declared.Event.{Event}
use Rattle.event.specs.declared.Event.TheVariants.{Start, Stop, Byte, Take, Pins, Tick, Reset, Timeout}
use Rattle.machine.specs.declared.Machine.{Machine}
use Rattle.machine.specs.declared.Act.{Act}
use Rattle.dock.specs.Events.{at_stop, at_byte}
use Rattle.dock.specs.declared.Controller.{Controller}
use Rattle.bus.specs.Progress.{heard, known_to}
use Rattle.machine.specs.declared.Act.TheVariants as act

abbrev pub part_next : {A : Type 0} → (Machine → A) → (Machine → Act → A) → Controller → Event → A
part_next part after s Start = part s.machine
part_next part after s Stop = at_stop (after s.machine) (part s.machine) (known_to s.machine.kind s.progress)
part_next part after s (Byte b) = at_byte (after s.machine) (part s.machine) (heard s.machine.kind s.machine.straps b s.progress)
part_next part after s (Take ack) = part s.machine
part_next part after s (Pins levels) = after s.machine (act.Pins levels)
part_next part after s Tick = after s.machine act.Tick
part_next part after s (Reset straps levels short) = after s.machine (act.Reset straps levels short)
part_next part after s Timeout = part s.machine

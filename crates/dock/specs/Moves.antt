-- Which event can move a bay (document 01, "Bay moves"): a TICK while it is open, a RESET, and the STOP of a whole write that moves it, or in
-- the second kind its data byte.
-- No PINS, no other bus event and no TIMEOUT does.
use Rattle.std.specs.Prelude.{ℕ, Bool, true, false}
use Rattle.event.specs.declared.Event.{Event}
use Rattle.event.specs.declared.Event.TheVariants.{Start, Stop, Byte, Take, Pins, Tick, Reset, Timeout}
use Rattle.machine.specs.Record.{is_open}
use Rattle.machine.specs.Moves.{moves_bay}
use Rattle.dock.specs.Events.{at_stop, at_byte}
use Rattle.dock.specs.declared.Controller.{Controller}
use Rattle.bus.specs.Progress.{heard, known_to}

abbrev pub event_moves : Controller → ℕ → Event → Bool
event_moves s i Start = false
event_moves s i Stop = at_stop (moves_bay s.machine i) false (known_to s.machine.kind s.progress)
event_moves s i (Byte b) = at_byte (moves_bay s.machine i) false (heard s.machine.kind s.machine.straps b s.progress)
event_moves s i (Take ack) = false
event_moves s i (Pins levels) = false
event_moves s i Tick = is_open s.machine i
event_moves s i (Reset straps levels short) = true
event_moves s i Timeout = false

-- What each event comes to in a controller that is fit and may take it (document 01, "Bus commands"; document 03, "Bus transfers"): how far the
-- command has come then, what the machine does, and the reply.
use Rattle.std.specs.Prelude.{ℕ, Bool, true, cond, None, Option, Some}
use Rattle.event.specs.declared.Event.{Event}
use Rattle.event.specs.declared.Event.TheVariants.{Start, Stop, Byte, Take, Pins, Tick, Reset, Timeout}
use Rattle.bus.specs.Progress.{started, heard, holding, known_to, next_register}
use Rattle.bus.specs.declared.Progress.{Progress}
use Rattle.bus.specs.declared.Progress.TheVariants.{Idle, Opened, Addressed, Register, Data, Again, Reading, Sending, Writing}
use Rattle.bus.specs.declared.Heard.{Heard}
use Rattle.bus.specs.declared.Heard.TheVariants.{On, Write, Read, End}
use Rattle.bus.specs.declared.Reply.{Reply}
use Rattle.bus.specs.declared.Reply.TheVariants.{Nothing, Ack, NoAck, Driven, NotDriven}
use Rattle.machine.specs.InForce.{reading}
use Rattle.machine.specs.Acts.{does, keeps}
use Rattle.machine.specs.declared.Machine.{Machine}
use Rattle.machine.specs.declared.Act.{Act}
use Rattle.dock.specs.declared.Controller.{Controller}
use Rattle.dock.specs.declared.Turn.{Turn}
use Rattle.kind.specs.declared.Kind.{Kind}
use Rattle.machine.specs.declared.Act.TheVariants as act

abbrev pub turn : Progress → Option Act → Reply → Turn
turn p d r = record { progress = p; deed = d; reply = r }

-- A command ends, whatever it had come to.
abbrev pub ended : Reply → Turn
ended r = turn Idle None r

-- A START opens a command, goes on with one, or ends it.
abbrev pub start_at : Kind → Progress → Turn
start_at k p = turn (started k p) None Nothing

-- A STOP ends the command. In the first kind it decides the write after a data byte: this of the write, or else that. (A progress of the
-- other kind counts as none.)
abbrev pub at_stop : {A : Type 0} → (Act → A) → A → Progress → A
at_stop of other Idle = other
at_stop of other Opened = other
at_stop of other Addressed = other
at_stop of other (Register r) = other
at_stop of other (Data r v) = of (act.Write r v)
at_stop of other (Again r) = other
at_stop of other (Reading v) = other
at_stop of other (Writing r) = other
at_stop of other (Sending r v) = other

unfoldable pub stop_deed : Kind → Progress → Option Act
stop_deed k p = at_stop Some None (known_to k p)

abbrev pub stop_at : Kind → Progress → Turn
stop_at k p = turn Idle (stop_deed k p) Nothing

-- A whole read, of a controller of this kind whose registers read so: what the register reads now is held for the next TAKE.
unfoldable pub read_at : Kind → (ℕ → ℕ) → ℕ → Reply → Turn
read_at k reads r reply = turn (holding k r (reads r)) (Some (act.Read r)) reply

-- A BYTE that continues a command is ACKed; any other BYTE has reply 2. A read is decided at the own read byte; in the second kind a write
-- at each data byte, after which the number rises.
unfoldable pub byte_heard : Kind → (ℕ → ℕ) → Heard → Turn
byte_heard k reads (On p) = turn p None Ack
byte_heard k reads (Write r v) = turn (Writing (next_register r)) (Some (act.Write r v)) Ack
byte_heard k reads (Read r) = read_at k reads r Ack
byte_heard k reads End = ended NoAck

-- Of what a BYTE was heard as: this of a write that it decides, or else that.
abbrev pub at_byte : {A : Type 0} → (Act → A) → A → Heard → A
at_byte of other (On p) = other
at_byte of other (Write r v) = of (act.Write r v)
at_byte of other (Read r) = other
at_byte of other End = other

unfoldable pub byte_at : Machine → Progress → ℕ → Turn
byte_at m p b = byte_heard m.kind (reading m) (heard m.kind m.straps b p)

-- A TAKE gives the byte that was read before it. In the first kind it ends the command, ACKed or not. In the second one that the host ACKs
-- goes on: the number rises, and the register there is read and held. A TAKE where no byte is held ends the command with reply 4.
unfoldable pub take_known : Kind → (ℕ → ℕ) → Bool → Progress → Turn
take_known k reads ack Idle = ended NotDriven
take_known k reads ack Opened = ended NotDriven
take_known k reads ack Addressed = ended NotDriven
take_known k reads ack (Register r) = ended NotDriven
take_known k reads ack (Data r v) = ended NotDriven
take_known k reads ack (Again r) = ended NotDriven
take_known k reads ack (Reading v) = ended (Driven v)
take_known k reads ack (Writing r) = ended NotDriven
take_known k reads ack (Sending r v) = cond ack (read_at k reads (next_register r) (Driven v)) (ended (Driven v))

abbrev pub take_at : Machine → Bool → Progress → Turn
take_at m ack p = take_known m.kind (reading m) ack (known_to m.kind p)

-- PINS and TICK are passed over by an open command; TIMEOUT and RESET end it.
unfoldable pub turn_of : Controller → Event → Turn
turn_of s Start = start_at s.machine.kind s.progress
turn_of s Stop = stop_at s.machine.kind s.progress
turn_of s (Byte b) = byte_at s.machine s.progress b
turn_of s (Take ack) = take_at s.machine ack s.progress
turn_of s (Pins levels) = turn s.progress (Some (act.Pins levels)) Nothing
turn_of s Tick = turn s.progress (Some act.Tick) Nothing
turn_of s (Reset straps levels short) = turn Idle (Some (act.Reset straps levels short)) Nothing
turn_of s Timeout = ended Nothing

-- The controller that it leaves.
abbrev pub done : Option Act → Machine → Machine
done None m = m
done (Some a) m = does a m

abbrev pub taken : Turn → Machine → Controller
taken t m = record { machine = done t.deed m; progress = t.progress }

unfoldable pub next : Controller → Event → Controller
next s e = taken (turn_of s e) s.machine

-- It leaves the outputs as they were: no deed, or one of the acts that do.
abbrev pub kept : Option Act → Machine → Bool
kept None m = true
kept (Some a) m = keeps a m

-- The plain machine, which knows no bytes, beside a list of events and names: it does their acts (demand 3).
use Rattle.dock.specs.Step.{takes}
use Rattle.event.specs.declared.Event.TheVariants.{Start, Stop, Byte, Take, Pins, Tick, Reset, Timeout}
use Rattle.machine.specs.declared.Act.TheVariants as act
use Rattle.std.specs.Prelude.{ℕ, List, [], ◌++◌, ◌∷◌, cond, false}
use Rattle.bus.specs.declared.Reply.TheVariants.{Ack, Driven, NoAck, NotDriven, Nothing}
use Rattle.machine.specs.declared.Act.{Act}
use Rattle.demand.specs.Bus.{BYTE, TAKE}
use Rattle.dock.specs.Run.{Call}
use Rattle.event.specs.declared.Event.{Event}
use Rattle.demand.specs.Acts.{Happening, acts_of, event, line_after, silent, with_event, Line}
use Rattle.machine.specs.declared.Machine.{Machine}
use Rattle.bus.specs.declared.Reply.{Reply}
use Rattle.demand.specs.Words.{accepted}
use Rattle.machine.specs.Acts.{does, does_all}
use Rattle.machine.specs.Record.{fresh_machine}
use Rattle.demand.specs.Described.{is_going_on}
use Rattle.machine.specs.Outputs.{outputs}
use Rattle.machine.specs.InForce.{reading}
use Rattle.event.specs.Words.{unpacked}
use Rattle.std.specs.Prelude.{Result, Ok, Err}
use Rattle.event.specs.declared.NoEvent.{NoEvent}
use Rattle.dock.specs.Answers.{Answer, done_with}
use Rattle.dock.specs.declared.Refusal.TheVariants.{NotStarted, StrayBit}

-- The machine after events, from a fresh one: it has done each whole command at once at its deciding event.
unfoldable pub machine_after : List Happening → Machine
machine_after hs = does_all (acts_of silent hs) fresh_machine

-- The acts of calls that come after calls, from a fresh controller.
unfoldable pub acts_after : List Call → List Call → List Act
acts_after cs ds = acts_of (line_after silent (accepted false cs)) (accepted (machine_after (accepted false cs)).started ds)

-- What the last whole read among acts read when it was done (0: there was none yet).
abbrev pub answered : ℕ → Act → Machine → ℕ
answered v (act.Write a b) m = v
answered v (act.Read a) m = reading m a
answered v (act.Pins levels) m = v
answered v act.Tick m = v
answered v (act.Reset straps levels short) m = v
answered v (act.Name k) m = v

unfoldable pub last_read : ℕ → List Act → Machine → ℕ
last_read v [] m = v
last_read v (a ∷ l) m = last_read (answered v a m) l (does a m)

unfoldable pub read_by : List Happening → ℕ
read_by hs = last_read 0 (acts_of silent hs) fresh_machine

-- A BYTE that continues a command is ACKed, any other has reply 2. A TAKE that goes on with a read, or ends it, gives what was read last, at
-- its deciding event; any other has reply 4.
unfoldable pub reply_by : Line → ℕ → Event → Reply
reply_by l v Start = Nothing
reply_by l v Stop = Nothing
reply_by l v (Byte b) = cond (is_going_on l.kind l.straps (with_event l (BYTE b))) Ack NoAck
reply_by l v (Take ack) = cond (is_going_on l.kind l.straps (with_event l (TAKE ack))) (Driven v) NotDriven
reply_by l v (Pins levels) = Nothing
reply_by l v Tick = Nothing
reply_by l v (Reset straps levels short) = Nothing
reply_by l v Timeout = Nothing

-- The reply to an event that comes after others.
unfoldable pub reply_to : List Happening → Event → Reply
reply_to past e = reply_by (line_after silent past) (read_by past) e

-- The whole answer to a word that comes after accepted events: a word that is refused with 2 has the machine's outputs.
abbrev pub to_event : List Happening → Event → Answer
to_event past e = done_with (reply_to past e) (outputs (machine_after (past ++ (event e ∷ []))))

abbrev pub to_word : List Happening → Result Event NoEvent → Answer
to_word past (Err why) = Err (StrayBit (outputs (machine_after past)))
to_word past (Ok e) = cond (takes (machine_after past).started e) (to_event past e) (Err NotStarted)

-- The answer to a word that comes after calls, from a fresh controller.
unfoldable pub plain_answer : List Call → ℕ → Answer
plain_answer cs w = to_word (accepted false cs) (unpacked w)

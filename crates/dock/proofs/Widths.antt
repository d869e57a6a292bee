-- The byte and the outputs of an answer stand within the bits that a record has for them (document 01, "Replies and refusal numbers"): a byte that
-- is driven is the one that was held. By cases on the event and on what the command had come to. Assumes nothing.
use Prim.Native.Nat.{ℕ, ◌<◌}
use native.Mathlib.Omega.{arith}
use mathlib.Core.Bool.{Bool, true, false, cond}
use Rattle.event.specs.Words.{unpacked}
use Rattle.event.specs.declared.Event.{Event}
use Rattle.event.specs.declared.Event.TheVariants.{Start, Stop, Byte, Take, Pins, Tick, Reset, Timeout}
use Rattle.kind.specs.declared.Kind.{Kind}
use Rattle.bus.specs.Progress.{known_to, heard, held_known, held_by}
use Rattle.bus.specs.Reply.{reply_byte}
use Rattle.bus.specs.declared.Heard.{Heard}
use Rattle.bus.specs.declared.Heard.TheVariants.{On, Write, Read, End}
use Rattle.bus.specs.declared.Progress.{Progress}
use Rattle.bus.specs.declared.Progress.TheVariants.{Idle, Opened, Addressed, Register, Data, Again, Reading, Writing, Sending}
use Rattle.bay.proofs.Taut.{pick}
use Rattle.machine.specs.Record.{fits}
use Rattle.machine.specs.InForce.{reading}
use Rattle.machine.proofs.Ranges.{outputs_nine_bits}
use Rattle.dock.specs.Answers.{byte_of, outputs_of, Answer}
use Rattle.dock.specs.Events.{turn_of, byte_at, byte_heard, read_at, take_known}
use Rattle.dock.specs.Step.{takes, done_step, refused, step_fit, step_of}
use Rattle.dock.specs.Held.{held_value, as_held, held_fit}
use Rattle.dock.specs.declared.Controller.{Controller}
use Rattle.dock.specs.declared.Stepped.{Stepped}
use Rattle.std.specs.Prelude.{Result, Ok, Err, None}
use Rattle.event.specs.declared.NoEvent.{NoEvent}
use Rattle.dock.specs.declared.Refusal.TheVariants.{NotStarted}

to_byte : (k : Kind) (reads : ℕ → ℕ) (h : Heard) → reply_byte (byte_heard k reads h).reply < 256
unfolding byte_heard read_at
to_byte k reads (On p) = omega arith
to_byte k reads (Write r v) = omega arith
to_byte k reads (Read r) = omega arith
to_byte k reads End = omega arith

to_take : (k : Kind) (reads : ℕ → ℕ) (ack : Bool) (p : Progress) → held_value (as_held (held_known p)) < 512 → reply_byte (take_known k reads ack p).reply < 256
unfolding held_known take_known read_at
to_take k reads ack Idle h = omega arith
to_take k reads ack Opened h = omega arith
to_take k reads ack Addressed h = omega arith
to_take k reads ack (Register r) h = omega arith
to_take k reads ack (Data r v) h = omega arith
to_take k reads ack (Again r) h = omega arith
to_take k reads ack (Reading v) h = omega arith
to_take k reads ack (Writing n) h = omega arith
to_take k reads true (Sending n v) h = omega arith
to_take k reads false (Sending n v) h = omega arith

-- A byte.
abbrev Small : Stepped → Type 0
Small x = byte_of x.answer < 256

-- A word's answer.
abbrev answered : Controller → Event → Bool → Answer
answered s e started = (cond (takes started e) (done_step s e) (refused s (Err NotStarted))).answer

module _ (s : Controller) where
  of_take : (ack t : Bool) → held_value (cond t (as_held (held_by s.machine.kind s.progress)) (Ok None)) < 512 → byte_of (answered s (Take ack) t) < 256
  unfolding held_by takes turn_of
  of_take ack true h = to_take s.machine.kind (reading s.machine) ack (known_to s.machine.kind s.progress) h
  of_take ack false h = omega arith

  of_event : (e : Event) → held_value (held_fit s) < 512 → byte_of (answered s e s.machine.started) < 256
  unfolding held_fit turn_of byte_at
  of_event Start h = pick Small (takes s.machine.started Start) (λ _. omega arith) (λ _. omega arith)
  of_event Stop h = pick Small (takes s.machine.started Stop) (λ _. omega arith) (λ _. omega arith)
  of_event (Byte b) h =
      pick Small (takes s.machine.started (Byte b)) (λ _. to_byte s.machine.kind (reading s.machine) (heard s.machine.kind s.machine.straps b s.progress))
      (λ _. omega arith)
  of_event (Take ack) h = of_take ack s.machine.started h
  of_event (Pins levels) h = pick Small (takes s.machine.started (Pins levels)) (λ _. omega arith) (λ _. omega arith)
  of_event Tick h = pick Small (takes s.machine.started Tick) (λ _. omega arith) (λ _. omega arith)
  of_event (Reset straps levels short) h = pick Small (takes s.machine.started (Reset straps levels short)) (λ _. omega arith) (λ _. omega arith)
  of_event Timeout h = pick Small (takes s.machine.started Timeout) (λ _. omega arith) (λ _. omega arith)

-- The byte, where the one that is held is one.
pub byte_wide : (s : Controller) (w : ℕ) → held_value (held_fit s) < 512 → byte_of (step_of s w).answer < 256
unfolding step_of
byte_wide s w h = pick Small (fits s.machine) (λ _. of_word (unpacked w)) (λ _. omega arith)
  where
    of_word : (u : Result Event NoEvent) → Small (step_fit s u)
    of_word (Err why) = omega arith
    of_word (Ok e) = of_event s e h

-- The outputs, in every state.
pub outputs_wide : (s : Controller) (w : ℕ) → outputs_of (step_of s w).answer < 512
unfolding step_of
outputs_wide s w = pick Nine (fits s.machine) (λ _. of_word (unpacked w)) (λ _. omega arith)
  where
    Nine : Stepped → Type 0
    Nine x = outputs_of x.answer < 512

    of_word : (u : Result Event NoEvent) → Nine (step_fit s u)
    of_word (Err why) = outputs_nine_bits s.machine
    of_word (Ok e) = pick Nine (takes s.machine.started e) (λ _. outputs_nine_bits _) (λ _. omega arith)

-- The byte of an answer is one, where each that a record's open read holds is: it is some record's byte, 255 or 0. Assumes nothing.
use Prim.Native.Nat.{ℕ, suc, ◌<◌}
use native.Mathlib.Omega.{arith}
use mathlib.Core.List.{List, [], ◌∷◌}
use Rattle.event.specs.declared.Event.{Event}
use Rattle.event.specs.declared.Event.TheVariants.{Start, Stop, Byte, Take, Pins, Tick, Reset, Timeout}
use Rattle.bus.specs.Reply.{reply_byte}
use Rattle.bus.specs.declared.Reply.{Reply}
use Rattle.bus.specs.declared.Reply.TheVariants.{Nothing, Ack, NoAck, Driven, NotDriven}
use Rattle.bay.proofs.Taut.{pick}
use Rattle.dock.specs.Answers.{byte_of, reply_in, Answer}
use Rattle.dock.specs.Held.{held_value, held_fit}
use Rattle.dock.specs.Step.{step_of}
use Rattle.dock.specs.declared.Controller.{Controller}
use Rattle.dock.proofs.Widths.{byte_wide}
use Rattle.chassis.specs.Judge.{verdict_of}
use Rattle.chassis.specs.Chassis.{goes_to, reply_at, replies_from, unanswered, heard, told_by, told_of}
use Rattle.chassis.specs.Numbers.{answer_byte}
use Rattle.dock.specs.declared.Refusal.TheVariants.{NotStarted, StrayBit, Unfit}
use Rattle.std.specs.Prelude.{Err, Ok, Result}
use Rattle.chassis.specs.declared.Refusal.{Refusal}

-- Each byte that is held is one.
unfoldable pub Held : List Controller → Type 0
Held [] = Unit {0}
Held (c ∷ cs) = (held_value (held_fit c) < 512) × Held cs

said_wide : (a : Answer) → byte_of a < 256 → reply_byte (reply_in a) < 256
said_wide (Ok d) h = h
said_wide (Err Unfit) h = omega arith
said_wide (Err (StrayBit o)) h = omega arith
said_wide (Err NotStarted) h = omega arith

reply_wide : (e : Event) (n w place : ℕ) (c : Controller) → held_value (held_fit c) < 512 → reply_byte (reply_at e n w place c) < 256
unfolding reply_at
reply_wide e n w place c h =
    pick (λ (r : Reply). reply_byte r < 256) (goes_to e n place) (λ _. said_wide (step_of c w).answer (byte_wide c w h)) (λ _. omega arith)

-- One more reply.
more_wide : (other : Reply) (r : Reply) (rs : List Reply) → reply_byte r < 256 → reply_byte (heard other rs) < 256 → reply_byte (heard other (r ∷ rs)) < 256
unfolding heard
more_wide other Nothing rs h k = k
more_wide other Ack rs h k = h
more_wide other NoAck rs h k = k
more_wide other (Driven v) rs h k = h
more_wide other NotDriven rs h k = k

unanswered_wide : (e : Event) → reply_byte (unanswered e) < 256
unanswered_wide Start = omega arith
unanswered_wide Stop = omega arith
unanswered_wide (Byte b) = omega arith
unanswered_wide (Take ack) = omega arith
unanswered_wide (Pins levels) = omega arith
unanswered_wide Tick = omega arith
unanswered_wide (Reset straps levels short) = omega arith
unanswered_wide Timeout = omega arith

heard_wide : (e : Event) (n w place : ℕ) (cs : List Controller) → Held cs → reply_byte (heard (unanswered e) (replies_from e n w place cs)) < 256
unfolding replies_from heard Held
heard_wide e n w place [] h = unanswered_wide e
heard_wide e n w place (c ∷ cs) h =
    more_wide (unanswered e) (reply_at e n w place c) (replies_from e n w (suc place) cs) (reply_wide e n w place c h.0) (heard_wide e n w (suc place) cs h.1)

pub told_byte_wide : (cs : List Controller) (n w : ℕ) → Held cs → answer_byte (told_of cs n w).answer < 256
unfolding told_by
told_byte_wide cs n w h = by_verdict (verdict_of cs n w)
  where
    by_verdict : (v : Result Event Refusal) → answer_byte (told_by v n w cs).answer < 256
    by_verdict (Ok e) = heard_wide e n w 0 cs h
    by_verdict (Err x) = omega arith

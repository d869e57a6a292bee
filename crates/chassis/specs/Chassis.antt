-- What a call does (document 02, request 9): the records afterwards, the reply, and four sets of outputs.
use Rattle.std.specs.Prelude.{ℕ, suc, ◌≡◌, Bool, cond, not, ◌||◌, List, [], ◌∷◌, map, eqb, get_or}
use Rattle.std.specs.Prelude.{Result, Ok, Err}
use Rattle.event.specs.declared.Event.{Event}
use Rattle.event.specs.declared.Event.TheVariants.{Start, Stop, Byte, Take, Pins, Tick, Reset, Timeout}
use Rattle.bus.specs.declared.Reply.{Reply}
use Rattle.bus.specs.declared.Reply.TheVariants.{Nothing, Ack, NoAck, Driven, NotDriven}
use Rattle.dock.specs.Answers.{told_value, reply_in}
use Rattle.dock.specs.Step.{step_of, told_outputs}
use Rattle.dock.specs.declared.Controller.{Controller}
use Rattle.chassis.specs.declared.Told.{Told}
use Rattle.chassis.specs.Judge.{names, verdict_of}
use Rattle.chassis.specs.declared.Refusal.{Refusal}

-- Every bus event, TIMEOUT and TICK goes to all; PINS and RESET to the one that is named. (A record that isn't started refuses all but a RESET, and
-- stays as it is: it is passed over.)
abbrev pub goes_to : Event → ℕ → ℕ → Bool
goes_to e n place = not (names e) || eqb place n

-- The record at a place afterwards, and its reply: those of the single call, where it gets the event.
unfoldable pub record_at : Event → ℕ → ℕ → ℕ → Controller → Controller
record_at e n w place c = cond (goes_to e n place) (step_of c w).controller c

unfoldable pub reply_at : Event → ℕ → ℕ → ℕ → Controller → Reply
reply_at e n w place c = cond (goes_to e n place) (reply_in (step_of c w).answer) Nothing

-- Those of a list, from a place on.
unfoldable pub records_from : Event → ℕ → ℕ → ℕ → List Controller → List Controller
records_from e n w place [] = []
records_from e n w place (c ∷ cs) = record_at e n w place c ∷ records_from e n w (suc place) cs

unfoldable pub replies_from : Event → ℕ → ℕ → ℕ → List Controller → List Reply
replies_from e n w place [] = []
replies_from e n w place (c ∷ cs) = reply_at e n w place c ∷ replies_from e n w (suc place) cs

-- The reply where none ACKs and none drives.
abbrev pub unanswered : Event → Reply
unanswered Start = Nothing
unanswered Stop = Nothing
unanswered (Byte b) = NoAck
unanswered (Take ack) = NotDriven
unanswered (Pins levels) = Nothing
unanswered Tick = Nothing
unanswered (Reset straps levels short) = Nothing
unanswered Timeout = Nothing

-- A BYTE is ACKed if one ACKs, and a TAKE gives the byte of the one that drives, else what stands before.
unfoldable pub heard : Reply → List Reply → Reply
heard other [] = other
heard other (Nothing ∷ rs) = heard other rs
heard other (Ack ∷ rs) = Ack
heard other (NoAck ∷ rs) = heard other rs
heard other (Driven v ∷ rs) = Driven v
heard other (NotDriven ∷ rs) = heard other rs

-- Four sets of outputs, those of the records, 000 for a record that isn't there. (A state not started has outputs 000.)
abbrev pub shown : Controller → ℕ
shown c = told_value (told_outputs c)

abbrev pub four : List ℕ → List ℕ
four os = get_or os 0 0 ∷ get_or os 1 0 ∷ get_or os 2 0 ∷ get_or os 3 0 ∷ []

-- The records afterwards; a refusal returns every record unchanged.
unfoldable pub records_by : Result Event Refusal → ℕ → ℕ → List Controller → List Controller
records_by (Ok e) n w cs = records_from e n w 0 cs
records_by (Err x) n w cs = cs

-- The answer; with a refusal reply, byte and outputs are 0.
unfoldable pub told_by : Result Event Refusal → ℕ → ℕ → List Controller → Told
told_by (Ok e) n w cs =
    record { answer = Ok (heard (unanswered e) (replies_from e n w 0 cs)); outputs = four (map shown (records_from e n w 0 cs)) }
told_by (Err x) n w cs = record { answer = Err x; outputs = four [] }

-- Of a list of records, the number that stands beside the word, and the word.
abbrev pub records_of : List Controller → ℕ → ℕ → List Controller
records_of cs n w = records_by (verdict_of cs n w) n w cs

abbrev pub told_of : List Controller → ℕ → ℕ → Told
told_of cs n w = told_by (verdict_of cs n w) n w cs

-- The whole promise of the call: what it answers, and the list afterwards.
pub record Called (cs : List Controller) (n w : ℕ) (after : List Controller) (told : Told) : Type 0 where
  pub answers : told ≡ told_of cs n w
  pub leaves : after ≡ records_of cs n w

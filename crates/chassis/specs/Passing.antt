-- The records of a list get the event, one after the other: the code's own way to the records and the answer of Chassis.antt.
use Rattle.std.specs.Prelude.{ℕ, zero, suc, ◌+◌, Bool, true, false, cond, ◌≡◌, List, [], ◌∷◌, ltb, length, set}
use Rattle.std.specs.Prelude.{Result, Ok, Err}
use Rattle.bus.specs.declared.Reply.{Reply}
use Rattle.bus.specs.declared.Reply.TheVariants.{Nothing, Ack, NoAck, Driven, NotDriven}
use Rattle.dock.specs.Answers.{reply_in}
use Rattle.dock.specs.Step.{step_of}
use Rattle.dock.specs.declared.Controller.{Controller}
use Rattle.chassis.specs.declared.Errand.{Errand}
use Rattle.chassis.specs.declared.Passed.{Passed}
use Rattle.chassis.specs.declared.Round.{Round}
use Rattle.chassis.specs.declared.Told.{Told}
use Rattle.chassis.specs.Judge.{MOST, verdict_of}
use Rattle.chassis.specs.Chassis.{goes_to, unanswered, shown}
use Rattle.chassis.specs.declared.Refusal.{Refusal}
use Rattle.event.specs.declared.Event.{Event}

-- Of two replies the one that counts: an ACK or a driven byte, the first of them; the first where neither is.
abbrev pub spoken : Reply → Reply → Reply
spoken first Nothing = first
spoken first Ack = Ack
spoken first NoAck = first
spoken first (Driven v) = Driven v
spoken first NotDriven = first

abbrev pub louder : Reply → Reply → Reply
louder Nothing second = spoken Nothing second
louder Ack second = Ack
louder NoAck second = spoken NoAck second
louder (Driven v) second = Driven v
louder NotDriven second = spoken NotDriven second

-- A call, judged.
abbrev pub errand_of : List Controller → ℕ → ℕ → Errand
errand_of cs n w = record { verdict = verdict_of cs n w; named = n; word = w }

-- Before the first record.
abbrev pub reply_before : Result Event Refusal → Reply
reply_before (Ok e) = unanswered e
reply_before (Err x) = Nothing

abbrev pub set_out_of : Errand → Round
set_out_of r = record { reply = reply_before r.verdict; outputs = 0 ∷ 0 ∷ 0 ∷ 0 ∷ []; place = 0 }

-- One record more has replied so, and drives these outputs.
abbrev pub gathered : Round → Reply → ℕ → Round
gathered y reply o = cond (ltb y.place MOST) (record { reply = louder y.reply reply; outputs = set y.outputs y.place o; place = y.place + 1 }) y

-- Whether the record at a place gets the event.
abbrev pub reaches_by : Result Event Refusal → ℕ → ℕ → Bool
reaches_by (Ok e) n place = goes_to e n place
reaches_by (Err x) n place = false

-- A record is passed: it gets the event, or it is left as it is.
unfoldable pub passed_by : Bool → Errand → Round → Controller → Passed
passed_by true r y c = record { controller = (step_of c r.word).controller; round = gathered y (reply_in (step_of c r.word).answer) (shown (step_of c r.word).controller) }
passed_by false r y c = record { controller = c; round = gathered y Nothing (shown c) }

unfoldable pub passed_of : Errand → Round → Controller → Passed
passed_of r y c = passed_by (reaches_by r.verdict r.named y.place) r y c

-- How many of so many records are passed: with a refusal none.
abbrev pub places_by : Result Event Refusal → ℕ → ℕ
places_by (Ok e) n = n
places_by (Err x) n = 0

-- The list with its first so many records passed, and what has been gathered then.
unfoldable pub records_to : Errand → Round → ℕ → List Controller → List Controller
records_to r y zero cs = cs
records_to r y (suc i) [] = []
records_to r y (suc i) (c ∷ cs) = (passed_of r y c).controller ∷ records_to r (passed_of r y c).round i cs

unfoldable pub round_to : Errand → Round → ℕ → List Controller → Round
round_to r y zero cs = y
round_to r y (suc i) [] = y
round_to r y (suc i) (c ∷ cs) = round_to r (passed_of r y c).round i cs

-- What passing a list leaves of it, and what it gathers.
pub record PassedAll (r : Errand) (cs left : List Controller) (y : Round) : Type 0 where
  pub gathers : y ≡ round_to r (set_out_of r) (places_by r.verdict (length cs)) cs
  pub leaves : left ≡ records_to r (set_out_of r) (places_by r.verdict (length cs)) cs

-- The answer after the round.
abbrev pub told_after : Result Event Refusal → Round → Told
told_after (Ok e) y = record { answer = Ok y.reply; outputs = y.outputs }
told_after (Err x) y = record { answer = Err x; outputs = 0 ∷ 0 ∷ 0 ∷ 0 ∷ [] }

-- Demand 3 on a chassis (document 02, request 9): so many fresh controllers on one bus, a plain machine beside each, which knows no bytes and does the
-- acts of the calls that reach its own controller; and the chassis's answer, made of what the plain machines answer.
use Rattle.std.specs.Prelude.{ℕ, zero, suc, cond, false, List, [], ◌∷◌, ◌++◌, replicate, Ok}
use Rattle.event.specs.declared.Event.{Event}
use Rattle.bus.specs.declared.Reply.{Reply}
use Rattle.bus.specs.declared.Reply.TheVariants.{Nothing}
use Rattle.machine.specs.Outputs.{outputs}
use Rattle.machine.specs.declared.Machine.{Machine}
use Rattle.dock.specs.Answers.{reply_in}
use Rattle.dock.specs.Record.{fresh_controller}
use Rattle.dock.specs.Run.{Call}
use Rattle.dock.specs.declared.Controller.{Controller}
use Rattle.chassis.specs.Chassis.{goes_to, unanswered, heard, four}
use Rattle.chassis.specs.Run.{ChassisCall, word, after_calls, own_calls}
use Rattle.chassis.specs.declared.Told.{Told}
use Rattle.demand.specs.Words.{accepted}
use Rattle.demand.specs.Acts.{Happening}
use Rattle.demand.specs.Plain.{machine_after, plain_answer}

-- So many fresh controllers, and the records after calls on them.
abbrev pub begun : ℕ → List Controller
begun k = replicate k fresh_controller

abbrev pub reached : ℕ → List ChassisCall → List Controller
reached k calls = after_calls (begun k) calls

-- Of the one at a place: the calls that reached it, what was accepted of them, and its plain machine.
abbrev pub own : ℕ → List ChassisCall → ℕ → List Call
own k calls i = own_calls i (begun k) calls

abbrev pub heard_at : ℕ → List ChassisCall → ℕ → List Happening
heard_at k calls i = accepted false (own k calls i)

abbrev pub plain_at : ℕ → List ChassisCall → ℕ → Machine
plain_at k calls i = machine_after (heard_at k calls i)

-- What the plain machine at a place replies to a word that comes next: nothing where the event does not go there.
abbrev pub reply_of_plain : ℕ → List ChassisCall → ℕ → ℕ → Reply
reply_of_plain k calls w i = reply_in (plain_answer (own k calls i) w)

abbrev pub plain_reply : ℕ → List ChassisCall → Event → ℕ → ℕ → ℕ → Reply
plain_reply k calls e n w i = cond (goes_to e n i) (reply_of_plain k calls w i) Nothing

-- One for each place, so many from a place on.
unfoldable pub each : {A : Type 0} → ℕ → ℕ → (ℕ → A) → List A
each zero place f = []
each (suc k) place f = f place ∷ each k (suc place) f

-- The whole answer to a word of an event that is accepted: the reply of the one that ACKs or drives, and the outputs of the plain machines after it.
unfoldable pub plain_told : ℕ → List ChassisCall → Event → ℕ → ℕ → Told
plain_told k calls e n w =
    record {
      answer = Ok (heard (unanswered e) (each k 0 (plain_reply k calls e n w)));
      outputs = four (each k 0 (λ i. outputs (plain_at k (calls ++ (word n w ∷ [])) i)));
    }

-- One event word at a time (document 01, "Replies and refusal numbers").
use Rattle.std.specs.Prelude.{ℕ, Bool, cond, ◌||◌}
use Rattle.event.specs.Words.{unpacked, is_reset, is_reset_word}
use Rattle.event.specs.declared.Event.{Event}
use Rattle.machine.specs.Record.{fits}
use Rattle.machine.specs.Outputs.{outputs}
use Rattle.machine.specs.InForce.{reading}
use Rattle.machine.specs.declared.Machine.{Machine}
use Rattle.dock.specs.Events.{turn_of, next, kept}
use Rattle.dock.specs.declared.Controller.{Controller}
use Rattle.dock.specs.declared.Stepped.{Stepped}
use Rattle.dock.specs.declared.Went.{Went}
use Rattle.std.specs.Prelude.{Result, Ok, Err}
use Rattle.event.specs.declared.NoEvent.{NoEvent}
use Rattle.dock.specs.declared.Refusal.TheVariants.{Unfit, NotStarted, StrayBit}
use Rattle.dock.specs.declared.Refusal.{Refusal}
use Rattle.dock.specs.Answers.{Answer, done_with}

-- No RESET yet and this isn't one: not taken.
unfoldable pub takes : Bool → Event → Bool
takes started e = started || is_reset e

-- On a refusal the state comes back as given.
abbrev pub refused : Controller → Answer → Stepped
refused s a = record { controller = s; answer = a }

-- The next state, its reply and its outputs.
abbrev pub done_step : Controller → Event → Stepped
done_step s e = record { controller = next s e; answer = done_with (turn_of s e).reply (outputs (next s e).machine) }

-- Order for an event: 1, 2, 3.
abbrev pub step_fit : Controller → Result Event NoEvent → Stepped
step_fit s (Err why) = refused s (Err (StrayBit (outputs s.machine)))
step_fit s (Ok e) = cond (takes s.machine.started e) (done_step s e) (refused s (Err NotStarted))

unfoldable pub step_of : Controller → ℕ → Stepped
step_of s w = cond (fits s.machine) (step_fit s (unpacked w)) (refused s (Err Unfit))

-- The machine after a word; where the word is refused, the machine as it was.
abbrev pub after_word : Controller → ℕ → Machine
after_word s w = (step_of s w).controller.machine

-- ---- the same for a caller that has seen that the state is fit, and knows its outputs

-- The word of an event that is taken, by its kind.
abbrev pub takes_word : Bool → ℕ → Bool
takes_word started w = started || is_reset_word w

-- What is answered to a word that isn't taken.
abbrev pub untaken : ℕ → Result Event NoEvent → Answer
untaken o (Err why) = Err (StrayBit o)
untaken o (Ok e) = Err NotStarted

abbrev pub stays : Controller → Answer → ℕ → Went
stays s a o = record { controller = s; answer = a; outputs = o }

-- The outputs after an event: as they were, where it is one that leaves them so.
unfoldable pub outputs_after : Controller → ℕ → Event → ℕ
outputs_after s o e = cond (kept (turn_of s e).deed s.machine) o (outputs (next s e).machine)

abbrev pub went : Controller → ℕ → Event → Went
went s o e = record { controller = next s e; answer = done_with (turn_of s e).reply (outputs_after s o e); outputs = outputs_after s o e }

abbrev pub went_by : Controller → ℕ → Result Event NoEvent → Went
went_by s o (Err why) = stays s (Err (StrayBit o)) o
went_by s o (Ok e) = cond (takes s.machine.started e) (went s o e) (stays s (Err NotStarted) o)

unfoldable pub went_of : Controller → ℕ → ℕ → Went
went_of s o w = went_by s o (unpacked w)

-- ---- what is asked of a state

-- Asking a state for one register's reading or for its outputs, outside the bus.
unfoldable pub told_reading : Controller → ℕ → Result ℕ Refusal
told_reading s a = cond (fits s.machine) (Ok (reading s.machine a)) (Err Unfit)

unfoldable pub told_outputs : Controller → Result ℕ Refusal
told_outputs s = cond (fits s.machine) (Ok (outputs s.machine)) (Err Unfit)

-- A list of words, one single call after the other.
use Rattle.std.specs.Prelude.{ℕ, ◌≡◌, List, [], ◌∷◌}
use Rattle.dock.specs.Record.{fresh_controller}
use Rattle.dock.specs.Step.{step_of}
use Rattle.dock.specs.declared.Controller.{Controller}
use Rattle.dock.specs.Name.{name_of}
use Rattle.dock.specs.Answers.{Answer}

-- The state afterwards.
unfoldable pub after : Controller → List ℕ → Controller
after s [] = s
after s (w ∷ ws) = after (step_of s w).controller ws

-- The answers, in order.
unfoldable pub answers_to : Controller → List ℕ → List Answer
answers_to s [] = []
answers_to s (w ∷ ws) = (step_of s w).answer ∷ answers_to (step_of s w).controller ws

-- A call that may alter the state: a word, or a number that names a kind (document 03, "Naming the kind").
pub data Call : Type 0 where
  word : ℕ → Call
  naming : ℕ → Call

abbrev pub after_call : Controller → Call → Controller
after_call s (word w) = (step_of s w).controller
after_call s (naming n) = (name_of s n).controller

-- The state after such calls, one after the other.
unfoldable pub after_calls : Controller → List Call → Controller
after_calls s [] = s
after_calls s (c ∷ cs) = after_calls (after_call s c) cs

-- A state that some list of calls reaches from a fresh controller.
pub record Reached (s : Controller) : Type 0 where
  pub calls : List Call
  pub by : after_calls fresh_controller calls ≡ s

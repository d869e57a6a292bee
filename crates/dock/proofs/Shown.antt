-- The outputs that a single call answers with are those that its state is then asked for: whatever the state, and whatever the word. With a refusal
-- both are 0, or those that the state has and keeps; else the state is fit after the event. Assumes nothing.
use Prim.Native.Nat.{ℕ}
use mathlib.Core.Path.{◌≡◌, refl, sym}
use mathlib.Core.Bool.{Bool, true, false}
use Rattle.event.specs.Words.{unpacked}
use Rattle.event.specs.declared.Event.{Event}
use Rattle.bay.proofs.Taut.{pick, neither}
use Rattle.machine.specs.Record.{fits}
use Rattle.machine.specs.Outputs.{outputs}
use Rattle.machine.proofs.Laws.{silent_before_reset}
use Rattle.dock.specs.Answers.{outputs_of, told_value}
use Rattle.dock.specs.Step.{takes, step_fit, step_of, told_outputs}
use Rattle.dock.specs.declared.Controller.{Controller}
use Rattle.dock.specs.declared.Stepped.{Stepped}
use Rattle.dock.proofs.Laws.{step_fit_lem}
use Rattle.std.specs.Prelude.{Result, Ok, Err}
use Rattle.event.specs.declared.NoEvent.{NoEvent}

-- A fit state is asked for the outputs that it has, and an unfit one answers 0.
fit_shown : (s : Controller) → fits s.machine ≡ true → told_value (told_outputs s) ≡ outputs s.machine
unfolding told_outputs
fit_shown s f = rw f

unfit_shown : (s : Controller) → fits s.machine ≡ false → told_value (told_outputs s) ≡ 0
unfolding told_outputs
unfit_shown s f = rw f

-- No RESET yet, and the event isn't one: the state has no outputs.
silent : (s : Controller) (e : Event) → takes s.machine.started e ≡ false → outputs s.machine ≡ 0
unfolding takes
silent s e f = (silent_before_reset s.machine (neither _ _ f).0).0

-- From a fit state the answer has the outputs of the state that is left.
abbrev Same : Stepped → Type 0
Same r = outputs_of r.answer ≡ outputs r.controller.machine

from_fit : (s : Controller) (u : Result Event NoEvent) → Same (step_fit s u)
from_fit s (Err why) = refl
from_fit s (Ok e) = pick Same (takes s.machine.started e) (λ t. refl) (λ f. sym (silent s e f))

pub shown_after : (s : Controller) (w : ℕ) → outputs_of (step_of s w).answer ≡ told_value (told_outputs (step_of s w).controller)
unfolding step_of
shown_after s w = go (fits s.machine) refl
  where
    go : (t : Bool) → fits s.machine ≡ t → outputs_of (step_of s w).answer ≡ told_value (told_outputs (step_of s w).controller)
    go true f = rw (fit_shown (step_of s w).controller (step_fit_lem s w f), f) (from_fit s (unpacked w))
    go false f = rw (unfit_shown (step_of s w).controller (rw f f), f)

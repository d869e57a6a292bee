-- Each input of a bay over events, in every controller. Assumes nothing.
use Prim.Native.Nat.{ℕ, ◌<◌}
use mathlib.Core.Path.{◌≡◌}
use Rattle.event.specs.declared.Event.{Event}
use Rattle.machine.specs.Inputs.{input_of, input_after}
use Rattle.machine.proofs.Inputs.{input_after_lem}
use Rattle.dock.specs.Events.{next}
use Rattle.dock.specs.Inputs.{input_next}
use Rattle.dock.specs.declared.Controller.{Controller}
use Rattle.dock.proofs.Parts.{part_next_lem}

pub input_next_lem : (i k : ℕ) → k < 3 → (s : Controller) (e : Event) → input_of (next s e).machine i k ≡ input_next s i k e
unfolding input_next
input_next_lem i k l = part_next_lem (λ m. input_of m i k) (λ m a. input_after m i k a) (λ a m. input_after_lem k l a m i)

-- What becomes of a bay's inputs at each event (document 01, "Bay moves" and "Registers"; document 02, request 5): a TICK, a PINS and a
-- RESET may alter them, and the STOP of the write that closes the bay; no other event does.
use Rattle.std.specs.Prelude.{ℕ}
use Rattle.event.specs.declared.Event.{Event}
use Rattle.bay.specs.Debounced.{Line}
use Rattle.machine.specs.Inputs.{input_of, input_after}
use Rattle.dock.specs.Parts.{part_next}
use Rattle.dock.specs.declared.Controller.{Controller}

unfoldable pub input_next : Controller → ℕ → ℕ → Event → Line
input_next s i k e = part_next (λ m. input_of m i k) (λ m a. input_after m i k a) s e

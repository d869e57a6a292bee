-- What becomes of 42h and of a bay's wait at each event (document 02, request 6): a RESET and the STOP of a whole write of 42h may alter the
-- one; a TICK, a RESET and the STOP of a whole write of the bay's BCER, or of the one that closes the bay, may alter the other.
use Rattle.std.specs.Prelude.{ℕ}
use Rattle.event.specs.declared.Event.{Event}
use Rattle.machine.specs.Wait.{wait_time, wait_time_after, wait_of, wait_after}
use Rattle.dock.specs.Parts.{part_next}
use Rattle.dock.specs.declared.Controller.{Controller}

unfoldable pub wait_time_next : Controller → Event → ℕ
wait_time_next s e = part_next wait_time wait_time_after s e

unfoldable pub wait_next : Controller → ℕ → Event → ℕ
wait_next s i e = part_next (λ m. wait_of m i) (λ m a. wait_after m i a) s e

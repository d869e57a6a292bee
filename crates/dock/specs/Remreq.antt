-- What becomes of a bay's REMREQ_STS at each event (document 01, "Registers" and "Bay moves"; document 02, request 1): a TICK may set
-- it, a RESET and the STOP of a whole write may clear it, and no other event alters it.
use Rattle.std.specs.Prelude.{ℕ, Bool}
use Rattle.event.specs.declared.Event.{Event}
use Rattle.machine.specs.Remreq.{remreq, remreq_after}
use Rattle.machine.specs.declared.Machine.{Machine}
use Rattle.dock.specs.Step.{after_word}
use Rattle.dock.specs.Parts.{part_next}
use Rattle.dock.specs.declared.Controller.{Controller}

unfoldable pub remreq_next : Controller → ℕ → Event → Bool
remreq_next s i e = part_next (λ m. remreq m i) (λ m a. remreq_after m i a) s e

-- The machine after the word of a TICK, which is refused in a state that is not started.
abbrev pub after_tick : Controller → Machine
after_tick s = after_word s 0xA000

-- What becomes of LETR at each event (document 01, "Registers"; document 02, request 4): a RESET and the STOP of a whole write of 40h may
-- alter it, and no other event.
use Rattle.std.specs.Prelude.{ℕ}
use Rattle.event.specs.declared.Event.{Event}
use Rattle.machine.specs.Letr.{letr, letr_after}
use Rattle.dock.specs.Parts.{part_next}
use Rattle.dock.specs.declared.Controller.{Controller}

unfoldable pub letr_next : Controller → Event → ℕ
letr_next s e = part_next letr letr_after s e

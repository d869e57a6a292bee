-- What has been seen is what the records looked at come to.
use Rattle.std.proofs.Common.{◌≡◌, length}
use lib.ListN.{take}
use Rattle.chassis.specs.Looking.{begun, looked_at, seen_to}
use Rattle.chassis.proofs.looking.look.Given as goal

abbrev pub invariant-loop-controller : goal.invariant-loop-controller
invariant-loop-controller l = l.seen ≡ seen_to begun l.controller-index (take (looked_at (length l.list)) l.list)

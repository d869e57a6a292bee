-- No more lines were wrong than were read.
use Rattle.std.proofs.Common.{◌<◌}
use Rattle.bench.proofs.main.Given as goal

abbrev pub invariant-loop-number : goal.invariant-loop-number
invariant-loop-number l = l.wrong < l.number

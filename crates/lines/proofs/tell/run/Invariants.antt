-- The invariant is `Running`, with room in the count for the reads that are left.
use Rattle.std.proofs.Common.{length, ◌*◌, ◌-◌}
use Rattle.lines.proofs.Running.{Running}
use Rattle.lines.proofs.tell.run.Given as goal

abbrev pub invariant-loop-n : goal.invariant-loop-n
invariant-loop-n g l =
    Running g.T.Telling.laws l.fn.teller l.fn.page.items (g.R.Read.remaining l.fn.input) (g.W.Write.contents l.fn.out) ((l.reads - l.n) * length l.piece) l.teller l.page.items (g.R.Read.remaining l.input) (g.W.Write.contents l.out)

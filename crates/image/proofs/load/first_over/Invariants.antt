-- None of the bytes passed is above 1.
use Rattle.image.proofs.Flags.{Passed}
use Rattle.image.proofs.load.first_over.Given as goal

abbrev pub invariant-loop-i : goal.invariant-loop-i
invariant-loop-i l = Passed l.flags l.i

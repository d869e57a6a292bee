-- The words of the bytes passed, and behind them the words as they came.
use Rattle.queue_image.proofs.Loops.{Read}
use Rattle.queue_image.proofs.ring.read.Given as goal

abbrev pub invariant-loop-i : goal.invariant-loop-i
invariant-loop-i l = Read l.bytes l.initial.words l.i l.words

-- The state and the records of the words passed, the rest of the buffer as it came, a state that is fit and its outputs.
use Rattle.batch.proofs.Loop.{Going}
use Rattle.batch.proofs.run.Given as goal

abbrev pub invariant-loop-i : goal.invariant-loop-i
invariant-loop-i l = Going l.initial.state l.words l.initial.records l.i l.state l.shown l.records

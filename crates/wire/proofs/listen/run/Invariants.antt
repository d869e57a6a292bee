-- After so many samples the held state, the words and the places are those of these samples.
use Rattle.wire.proofs.Loop.{Taken}
use Rattle.wire.proofs.listen.run.Given as goal

abbrev pub invariant-loop-sample : goal.invariant-loop-sample
invariant-loop-sample l = Taken l.initial.state l.samples l.initial.words l.sample-index l.state l.count l.words

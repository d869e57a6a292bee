-- The parts passed got the event in their place.
use Rattle.link.proofs.Parts.{Passing}
use Rattle.link.proofs.lists.pass.Given as goal

abbrev pub invariant-loop-i : goal.invariant-loop-i
invariant-loop-i l = Passing l.initial.states l.places l.errand l.i l.states l.round

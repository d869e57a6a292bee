-- The parts passed are images, and have been looked at.
use Rattle.link.proofs.Parts.{Looking}
use Rattle.link.proofs.lists.look.Given as goal

abbrev pub invariant-loop-i : goal.invariant-loop-i
invariant-loop-i l = Looking l.states l.count l.i l.seen

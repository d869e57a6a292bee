-- The line of the word that is whole now.
use Rattle.trace.specs.Cut.{word_told}
use Rattle.trace.proofs.pieces.TraceTelling.hear.Goals as goal

pub returns-clause-written : goal.returns-clause-written
returns-clause-written c =
    rw (word_told c.args.self.now _ c.args.byte c.in-Some.is, ← c.wide-word.ensures, ← c.step-stepped.ensures, ← c.line.ensures) c.put.ensures

-- A byte above 1 is the first one, and where none is, all were passed.
use Rattle.std.proofs.Common.{sym}
use borrow.Author.Tests.{le-leb, lt-leb}
use Rattle.image.proofs.Flags.{pass_next, found, all_passed}
use Rattle.image.proofs.load.first_over.Goals as goal

pub returns-then-flag-gt1-clause-value : goal.returns-then-flag-gt1-clause-value
returns-then-flag-gt1-clause-value c = sym (found _ _ c.loop-i.invariant c.loop-i-test.true (lt-leb _ 1 c.if-flag-gt1.true))

pub loop-i-preserved : goal.loop-i-preserved
loop-i-preserved c = pass_next _ _ c.loop-i.invariant c.loop-i-test.true (le-leb _ 1 c.if-flag-gt1.false)

pub returns-clause-value : goal.returns-clause-value
returns-clause-value c = sym (all_passed _ _ c.loop-i.invariant c.loop-i-test.false)

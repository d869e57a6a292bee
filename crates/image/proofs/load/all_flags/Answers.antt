-- One more byte, and all of them.
use Rattle.std.proofs.Common.{ap, ◌∙◌}
use lib.Seq.{take_all}
use Rattle.image.specs.Load.{all_flags}
use Rattle.image.proofs.Flags.{all_next}
use Rattle.image.proofs.load.all_flags.Goals as goal

pub loop-flag-preserved : goal.loop-flag-preserved
loop-flag-preserved c = rw (all_next _ _ c.loop-flag-test.true, ← c.loop-flag.invariant)

pub returns : goal.returns
returns c = c.loop-flag.invariant ∙ ap all_flags (take_all _ _ c.loop-flag-test.false)

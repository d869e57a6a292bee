-- A word more is two bytes more.
use Rattle.queue_image.proofs.Loops.{none_begun, writing_more}
use Rattle.queue_image.proofs.ring.write.Goals as goal

pub loop-word-init : goal.loop-word-init
loop-word-init c = none_begun _ _

pub loop-word-preserved : goal.loop-word-preserved
loop-word-preserved c = rw c.two_bytes.ensures (writing_more _ _ _ _ _ c.loop-word.invariant c.requires c.loop-word-test.true)

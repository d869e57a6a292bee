-- Two bytes more are a word more.
use Rattle.queue_image.proofs.Loops.{none_read, read_more}
use Rattle.queue_image.proofs.ring.read.Goals as goal

pub loop-i-init : goal.loop-i-init
loop-i-init c = none_read _ _

pub loop-i-preserved : goal.loop-i-preserved
loop-i-preserved c = rw c.wide.ensures (read_more _ _ _ _ c.loop-i.invariant c.requires c.loop-i-test.true)

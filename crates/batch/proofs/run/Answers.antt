-- The invariant holds of no words, and of one more: its record stands at its own place.
use native.Mathlib.Nat.{add-sub_cancel_left}
use Rattle.batch.proofs.Loop.{none_gone, goes_on}
use Rattle.batch.proofs.run.Goals as goal

pub loop-i-init : goal.loop-i-init
loop-i-init c = rw c.outputs-shown.ensures (none_gone _ _ _ c.requires.machine_value)

pub loop-i-preserved : goal.loop-i-preserved
loop-i-preserved c =
    rw (add-sub_cancel_left, c.write_record.ensures, c.goes-answer.ensures) (goes_on _ _ _ _ _ _ _ c.loop-i.invariant c.loop-i-test.true)

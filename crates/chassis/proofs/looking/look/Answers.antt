-- None has been looked at before the loop, and a turn looks at one record more.
use Rattle.std.proofs.Common.{◌≡◌, ◌≤◌, length, arith, sym, ◌∙◌}
use lib.ListN.{take}
use lib.Seq.{length-take-le}
use Rattle.chassis.specs.Looking.{begun}
use Rattle.chassis.proofs.Loops.{looked_within, seen_none, seen_next, seen_take}
use Rattle.chassis.proofs.looking.look.Goals as goal

pub loop-controller-init : goal.loop-controller-init
loop-controller-init c = c.begun-seen.ensures ∙ sym (seen_none _ _)

pub loop-controller-preserved : goal.loop-controller-preserved
loop-controller-preserved c = rw (c.with-seen.ensures, c.loop-controller.invariant, ← c.looked_at.ensures) (seen_next _ _ _ _ c.loop-controller-test.true)

pub returns : goal.returns
returns c =
    let n = c.looked_at.result in
    let within : n ≤ length c.args.list.now = rw c.looked_at.ensures (looked_within _) in
    let whole : length (take n c.args.list.now) ≡ n = length-take-le n c.args.list.now within in
    let all : c.loop-controller.controller-index ≡ n = omega (arith, whole, c.loop-controller-test.false, c.loop-controller.auto.controller-index-end) in
    rw (c.loop-controller.invariant, all, ← c.looked_at.ensures) (seen_take begun n c.args.list.now)

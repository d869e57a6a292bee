-- None is passed before the loop, and a turn passes one record more.
use Rattle.std.proofs.Common.{◌≡◌, ◌≤◌, length, arith, sym}
use lib.ListN.{take}
use lib.Seq.{length-take-le}
use Rattle.chassis.proofs.Loops.{places_within, records_none, round_none, records_next, round_next, records_take, round_take}
use Rattle.chassis.proofs.passing.pass.Goals as goal

pub loop-record-init : goal.loop-record-init
loop-record-init c = (sym (records_none _ _ _), sym (round_none _ _ _))

pub loop-record-preserved : goal.loop-record-preserved
loop-record-preserved c = (
  rw (c.passed-passed.ensures, c.loop-record.invariant.0, c.loop-record.invariant.1) (records_next _ _ _ _ _ c.loop-record-test.true),
  rw (c.passed-passed.ensures, c.loop-record.invariant.0, c.loop-record.invariant.1) (round_next _ _ _ _ _ c.loop-record-test.true),
)

pub returns : goal.returns
returns c =
    let n = c.places-places.result in
    let within : n ≤ length c.args.list.now = rw c.places-places.ensures (places_within _ _) in
    let whole : length (take n c.args.list.now) ≡ n = length-take-le n c.args.list.now within in
    let all : c.loop-record.record-index ≡ n = omega (arith, whole, c.loop-record-test.false, c.loop-record.auto.record-index-end) in
    record {
      gathers = rw (c.loop-record.invariant.1, all, c.set_out-round.ensures, ← c.places-places.ensures) (round_take _ _ n c.args.list.now);
      leaves = rw (c.loop-record.invariant.0, all, c.set_out-round.ensures, ← c.places-places.ensures) (records_take _ _ n c.args.list.now);
    }

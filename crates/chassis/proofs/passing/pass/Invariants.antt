-- The records passed got the event, the others are as they came, and what was answered is gathered.
use Rattle.std.proofs.Common.{◌≡◌}
use Rattle.chassis.specs.Passing.{records_to, round_to}
use Rattle.chassis.proofs.passing.pass.Given as goal

abbrev pub invariant-loop-record : goal.invariant-loop-record
invariant-loop-record l =
    (l.record-items ≡ records_to l.errand l.initial.round l.record-index l.initial.record-items)
    × (l.round ≡ round_to l.errand l.initial.round l.record-index l.initial.record-items)

-- The opening, the text of all samples, and nothing at their end.
use Rattle.std.proofs.Common.{ap, length, arith}
use Rattle.std.proofs.lemmas.Result.{on_ok_weaker}
use Rattle.lines.proofs.Running.{tells_same}
use Rattle.capture.specs.Pieces.{begun_of, capture_given}
use Rattle.capture.specs.declared.pieces.Capture.{Capture}
use Rattle.capture.specs.Cut.{opening_short, whole_opened, whole_text}
use Rattle.capture.proofs.captured.Goals as goal

pub begin-capture-requires : goal.begin-capture-requires
begin-capture-requires g c = omega (arith, ap length c.new-page.ensures, opening_short c.args.form c.args.reset)

pub run-requires-clause-countable : goal.run-requires-clause-countable
unfolding begun_of capture_given
run-requires-clause-countable g c = omega (arith, ap (λ (k : Capture). k.count) c.begin-capture.ensures.value)

pub returns-clause-told : goal.returns-clause-told
returns-clause-told g c =
    on_ok_weaker c.run.result
    (tells_same (λ bytes. rw (c.begin-capture.ensures.value, c.begin-capture.ensures.written, c.new-page.ensures) (whole_text c.args.form c.args.reset bytes)))
    c.run.ensures.told

pub returns-clause-unread : goal.returns-clause-unread
returns-clause-unread g c =
    λ is. tells_same (λ bytes. rw (c.begin-capture.ensures.value, c.begin-capture.ensures.written, c.new-page.ensures) (whole_opened c.args.form c.args.reset bytes)) (c.run.ensures.unread is)

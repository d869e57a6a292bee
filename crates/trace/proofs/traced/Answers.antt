-- The header, the lines of the whole input and what its end adds.
use Rattle.std.proofs.lemmas.Result.{on_ok_weaker}
use Rattle.lines.proofs.Running.{tells_same}
use Rattle.trace.specs.Cut.{whole_text, lines_so_far}
use Rattle.trace.proofs.traced.Goals as goal

pub returns-clause-told : goal.returns-clause-told
returns-clause-told g c =
    on_ok_weaker c.run.result
    (tells_same (λ bytes. rw (c.begin-trace.ensures.value, c.begin-trace.ensures.written, c.new-page.ensures) (whole_text bytes)))
    c.run.ensures.told

pub returns-clause-unread : goal.returns-clause-unread
returns-clause-unread g c =
    λ is. tells_same (λ bytes. rw (c.begin-trace.ensures.value, c.begin-trace.ensures.written, c.new-page.ensures) (lines_so_far bytes)) (c.run.ensures.unread is)

-- The invariant is `Heard`: the state and the text of the bytes passed.
use Rattle.lines.proofs.Telling.{Heard}
use Rattle.lines.proofs.tell.feed.Given as goal

abbrev pub invariant-loop-byte : goal.invariant-loop-byte
invariant-loop-byte g l =
    Heard g.T.Telling.laws l.fn.teller l.input l.fn.page.items l.byte-index l.teller l.page.items

use Rattle.lines.specs.Text.{PAGE}
use Rattle.lines.proofs.Telling.{one_fits}
use Rattle.lines.proofs.tell.feed.Goals as goal

pub hear-requires-clause-room : goal.hear-requires-clause-room
hear-requires-clause-room g c = one_fits g.T.Telling.laws _ _ _ _ _ _ c.loop-byte.invariant c.loop-byte-test.true PAGE c.requires.room

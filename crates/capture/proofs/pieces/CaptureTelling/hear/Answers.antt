-- The event's text, and the TICK's behind it.
use Rattle.std.proofs.Common.{sym, ◌∙◌, append_assoc}
use Rattle.lines.specs.Text.{PAGE}
use Rattle.capture.specs.Pieces.{capture_given}
use Rattle.capture.specs.Cut.{tick_fits, one_text, one_capture}
use Rattle.capture.proofs.pieces.CaptureTelling.hear.Goals as goal

pub give_tick-requires : goal.give_tick-requires
unfolding capture_given
give_tick-requires c =
    rw (c.give_event.ensures.written, c.give_event.ensures.state, c.hear-heard.ensures)
    (tick_fits c.args.self.now c.args.byte PAGE c.args.page.now.items c.requires.room)

pub returns-clause-state : goal.returns-clause-state
unfolding capture_given
returns-clause-state c =
    c.give_tick.ensures.state ∙ rw (c.give_event.ensures.state, c.hear-heard.ensures) (sym (one_capture c.args.self.now c.args.byte))

pub returns-clause-written : goal.returns-clause-written
unfolding capture_given
returns-clause-written c =
    c.give_tick.ensures.written
    ∙ rw (c.give_event.ensures.written, c.give_event.ensures.state, c.hear-heard.ensures, one_text c.args.self.now c.args.byte, append_assoc)

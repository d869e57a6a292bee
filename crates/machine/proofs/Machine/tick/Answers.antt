-- Where both bays rest only the phase moves: each bay is as a TICK would leave it. Assumes nothing.
use Rattle.std.proofs.Common.{sym, ◌∙◌}
use Rattle.machine.specs.Record.{bay_in}
use Rattle.machine.specs.Setting.{hides, setting_of}
use Rattle.machine.specs.Acts.{tick_to, does, keeps}
use Rattle.machine.proofs.Keeps.{unmoved}
use Rattle.machine.proofs.Machine.tick.Goals as goal

pub returns-then-rest : goal.returns-then-rest
unfolding does keeps tick_to bay_in
returns-then-rest c =
    let m = c.args.self in
    let still = c.rest.ensures.i_value c.if-rest.true (hides m) (setting_of m) in
    rw (
      c.is_lit.ensures,
      c.is_lit-then-rest.ensures,
      c.next_phase-phase.ensures,
      unmoved m 0 (still 0),
      unmoved m 1 (still 1),
      ← c.rest.ensures.two,
      sym c.rest.ensures.value ∙ c.if-rest.true,
    )

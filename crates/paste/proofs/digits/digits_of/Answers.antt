-- A byte's two digits more, and all of them.
use Rattle.std.proofs.Common.{rules, ◌≡◌, length}
use Rattle.image.specs.Layout.{BYTES}
use Rattle.paste.proofs.Passing.{written_on, written_end}
use Rattle.paste.proofs.digits.digits_of.Goals as goal

pub loop-i-preserved : goal.loop-i-preserved
loop-i-preserved c =
    let size : length c.args.bytes ≡ BYTES = search rules in
    rw (c.digit.ensures, c.digit-in-loop-i.ensures, c.from.ensures, c.from-in-loop-i.ensures) (written_on _ _ _ c.loop-i.invariant size c.loop-i-test.true)

pub returns : goal.returns
returns c =
    let size : length c.args.bytes ≡ BYTES = search rules in
    written_end _ _ _ c.loop-i.invariant size c.loop-i-test.false

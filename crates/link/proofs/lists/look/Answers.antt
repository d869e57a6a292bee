-- None is seen before the loop, a turn looks at one part more, and after it all are seen.
use Rattle.std.proofs.Common.{◌∙◌, sym}
use Rattle.image.proofs.Whole.{no_value, no_image, is_image_lem}
use Rattle.link.proofs.Parts.{none_seen, looks_on, looks_no_further, all_seen}
use Rattle.link.proofs.lists.look.Goals as goal

pub loop-i-init : goal.loop-i-init
loop-i-init c = none_seen _ _ _ c.begun-seen.ensures

pub returns-in_err-state_at : goal.returns-in_err-state_at
returns-in_err-state_at c =
    let other = no_image _ c.state_at.result c.state_at.ensures (λ s o. no_value (sym o ∙ c.in_err-state_at.was)) in
    c.from_residual.ensures ∙ looks_no_further _ _ _ _ c.loop-i.invariant c.loop-i-test.true other

pub loop-i-preserved : goal.loop-i-preserved
loop-i-preserved c =
    let is = is_image_lem _ c.state_at.result c.state_at.ensures _ c.in_ok-state_at.was in
    looks_on _ _ _ _ c.loop-i.invariant c.loop-i-test.true is.0 _ is.1 c.with-seen.result c.with-seen.ensures

pub returns : goal.returns
returns c = all_seen _ _ _ _ c.loop-i.invariant c.loop-i-test.false

-- What the state of the image becomes, saved again where the name is stored.
use Rattle.std.proofs.Common.{◌∙◌, ap, sym, arith}
use Rattle.dock.specs.Name.{name_of}
use Rattle.image.specs.Shape.{Octets}
use Rattle.image.proofs.RoundTrip.{parts}
use Rattle.image.proofs.Whole.{no_image, is_image_lem, image_whole}
use Rattle.link.proofs.Refusing.{handed_on}
use Rattle.link.proofs.Named.{names_nothing, names, names_refused}
use Rattle.link.proofs.held.name.Goals as goal

pub returns-in_default : goal.returns-in_default
returns-in_default c =
    let n = no_image c.args.state.now c.state_of.result c.state_of.ensures c.in_default.not-Some in
    let t = names_nothing c.args.state.now c.args.kind n in
    record { value = t.0; state_after = t.1 }

pub returns-in_err-naming : goal.returns-in_err-naming
returns-in_err-naming c =
    let a = c.args in
    let r = c.name-naming in
    let w = is_image_lem a.state.now c.state_of.result c.state_of.ensures _ c.in-Some.is in
    let o : Octets a.state.now = λ i. omega (arith, c.slice_known-1.given i) in
    let t = names_refused a.state.now a.kind w.0 r.result (r.ensures ∙ ap (λ s. name_of s a.kind) w.1) o _ c.in_err-naming.was in
    record { value = handed_on c.from_residual.result _ c.from_residual.ensures.1 ∙ t.0; state_after = t.1 }

pub put-requires : goal.put-requires
put-requires c =
    let w = is_image_lem c.args.state.now c.state_of.result c.state_of.ensures _ c.in-Some.is in
    (omega arith, (parts c.args.state.now (image_whole c.args.state.now w.0)).long)

pub returns : goal.returns
returns c =
    let a = c.args in
    let r = c.name-naming in
    let w = is_image_lem a.state.now c.state_of.result c.state_of.ensures _ c.in-Some.is in
    let t = names a.state.now a.kind w.0 r.result (r.ensures ∙ ap (λ s. name_of s a.kind) w.1) in
    record { value = sym c.in_ok-naming.was ∙ t.0; state_after = c.put.ensures ∙ c.save.ensures ∙ t.1 }

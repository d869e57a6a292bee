-- A batch from the state of the image, saved again where it was accepted.
use Rattle.std.proofs.Common.{◌∙◌, ap, sym, length, arith}
use Rattle.batch.specs.Batch.{batch_of, buffer_after}
use Rattle.image.specs.Shape.{Octets}
use Rattle.image.proofs.RoundTrip.{parts}
use Rattle.image.proofs.Whole.{no_image, is_image_lem, image_whole}
use Rattle.link.proofs.Refusing.{handed_on}
use Rattle.link.proofs.Ran.{ran_nothing, ran, ran_refused}
use Rattle.link.proofs.held.run.Goals as goal

pub returns-in_default : goal.returns-in_default
returns-in_default c =
    let n = no_image c.args.state.now c.state_of.result c.state_of.ensures c.in_default.not-Some in
    let t = ran_nothing c.args.state.now c.args.words.now c.args.records.now n in
    record { value = t.0; state_after = t.1; records_after = t.2 }

pub returns-in_err-count : goal.returns-in_err-count
returns-in_err-count c =
    let a = c.args in
    let b = c.batch-outcome in
    let w = is_image_lem a.state.now c.state_of.result c.state_of.ensures _ c.in-Some.is in
    let o : Octets a.state.now = λ i. omega (arith, c.slice_known-1.given i) in
    let r = b.ensures.value ∙ ap (λ s. batch_of s a.words.now (length a.records.now)) w.1 in
    let t = ran_refused a.state.now a.words.now a.records.now w.0 b.result r o _ c.in_err-count.was in
    record {
      value = handed_on c.from_residual.result _ c.from_residual.ensures.1 ∙ t.0;
      state_after = t.1;
      records_after = b.ensures.records_after ∙ ap (λ s. buffer_after s a.words.now a.records.now) w.1 ∙ t.2;
    }

pub put-requires : goal.put-requires
put-requires c =
    let w = is_image_lem c.args.state.now c.state_of.result c.state_of.ensures _ c.in-Some.is in
    (omega arith, (parts c.args.state.now (image_whole c.args.state.now w.0)).long)

pub returns : goal.returns
returns c =
    let a = c.args in
    let b = c.batch-outcome in
    let w = is_image_lem a.state.now c.state_of.result c.state_of.ensures _ c.in-Some.is in
    let t = ran a.state.now a.words.now a.records.now w.0 b.result (b.ensures.value ∙ ap (λ s. batch_of s a.words.now (length a.records.now)) w.1) in
    record {
      value = sym c.in_ok-count.was ∙ t.0;
      state_after = c.put.ensures ∙ c.save.ensures ∙ t.1;
      records_after = b.ensures.records_after ∙ ap (λ s. buffer_after s a.words.now a.records.now) w.1 ∙ t.2;
    }

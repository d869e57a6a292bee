-- Each return has the tests that led there.
use Rattle.std.proofs.Common.{◌∙◌, sym, arith, length}
use Rattle.link.proofs.Parts.{seen_where_images, unseen_where_none}
use Rattle.image.specs.Shape.{Octets}
use Rattle.link.proofs.RanList.{unlisted, count_none, counted, no_list, no_image, images_passed, steps}
use Rattle.link.proofs.lists.run.Goals as goal

pub returns-in_default : goal.returns-in_default
returns-in_default c =
    let a = c.args in
    let t = no_list a.states.now a.named a.word (count_none (length a.states.now) (unlisted (length a.states.now) c.images_in.result c.images_in.ensures c.in_default.not-Some)) in
    record { value = c.refused.ensures ∙ t.0; states_after = t.1 }

pub returns-in_default-look : goal.returns-in_default-look
returns-in_default-look c =
    let a = c.args in
    let known = counted (length a.states.now) _ (sym c.images_in.ensures ∙ c.in-Some.is) in
    let t = no_image a.states.now a.named a.word known.a_list (unseen_where_none a.states.now _ c.look.result (rw known.count_is at c.look.ensures) c.in_default-look.not-Some) in
    record { value = c.refused-in_default-look.ensures ∙ t.0; states_after = t.1 }

pub pass-round-requires-clause-states_value : goal.pass-round-requires-clause-states_value
pass-round-requires-clause-states_value c =
    rw (c.places.ensures) (images_passed c.errand-errand.result.verdict _ c.args.states.now (seen_where_images c.args.states.now _ _ (sym c.look.ensures ∙ c.in-Some-look.is)).0)

pub returns : goal.returns
returns c =
    let a = c.args in
    let known = counted (length a.states.now) _ (sym c.images_in.ensures ∙ c.in-Some.is) in
    let seen = seen_where_images a.states.now _ _ (sym c.look.ensures ∙ c.in-Some-look.is) in
    let octets : Octets a.states.now = λ i. omega (arith, c.slice_known-1.given i) in
    let t = steps a.states.now a.named a.word known.a_list (rw known.count_is at seen.0) octets _ known _ seen.1 c.errand-errand.result c.errand-errand.ensures in
    record {
      value = c.told.ensures ∙ rw (c.pass-round.ensures.value, c.places.ensures) t.0;
      states_after = c.pass-round.ensures.states_after ∙ rw c.places.ensures t.1;
    }

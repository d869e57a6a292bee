-- A refused call leaves the bytes and the places as they came; one that is not is written.
use Rattle.std.proofs.Common.{◌∙◌, sym, ap, arith}
use Rattle.std.specs.Prelude.{Err}
use Rattle.std.specs.Option.{ok_or}
use Rattle.std.specs.Result.{result_err}
use Rattle.std.proofs.lemmas.Option.{same_Some}
use Rattle.calls.specs.declared.Refusal.TheVariants.{Unfit}
use Rattle.wire.proofs.Bytes.{held_image, no_image, parts}
use Rattle.link.proofs.Refusing.{handed_on}
use Rattle.link.proofs.Wired.{heard_nothing, heard_refused, heard}
use Rattle.link.proofs.wires.hear.Goals as goal

pub returns-in_err-wire : goal.returns-in_err-wire
returns-in_err-wire c =
    let a = c.args in
    let none = c.in_err-wire.ensures.ok_part in
    let left = heard_nothing a.held.now a.samples.now a.words.now (no_image a.held.now (sym none ∙ c.load.ensures)) in
    let unfit = ap result_err (c.in_err-wire.ensures.value ∙ ap (λ o. ok_or o Unfit) none) in
    record { value = handed_on c.from_residual.result _ c.from_residual.ensures.1 ∙ ap Err (same_Some _ _ unfit) ∙ left.outcome; held_after = left.held; words_after = left.words }

pub returns-in_err-count : goal.returns-in_err-count
returns-in_err-count c =
    let a = c.args in
    let i = held_image a.held.now _ (sym c.in_ok-wire.ensures.ok_part ∙ c.load.ensures) in
    let l = c.listen-outcome in
    let left = heard_refused a.held.now a.samples.now a.words.now _ i.0 i.1 l.result l.ensures.value _ _ l.ensures.words_after c.in_err-count.was in
    let r = c.from_residual-in_err-count in
    record { value = handed_on r.result _ r.ensures.1 ∙ left.outcome; held_after = left.held; words_after = left.words }

pub put-requires : goal.put-requires
put-requires c = (omega arith, (parts c.args.held.now (held_image c.args.held.now _ (sym c.in_ok-wire.ensures.ok_part ∙ c.load.ensures)).0).long)

pub returns : goal.returns
returns c =
    let a = c.args in
    let i = held_image a.held.now _ (sym c.in_ok-wire.ensures.ok_part ∙ c.load.ensures) in
    let l = c.listen-outcome in
    let left = heard a.held.now a.samples.now a.words.now _ i.0 i.1 l.result l.ensures.value _ _ l.ensures.words_after c.in_ok-count.was in
    record { value = left.outcome; held_after = c.put.ensures ∙ c.save.ensures ∙ left.held; words_after = left.words }

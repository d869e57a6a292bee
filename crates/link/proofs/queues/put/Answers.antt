-- A refused put leaves the bytes as they came; one that is not is written.
use Rattle.std.proofs.Common.{ℕ, ◌<◌, get_or, rules, ◌∙◌, ap}
use Rattle.queue.specs.Run.{put, no_word}
use Rattle.link.proofs.Refusing.{handed_on}
use Rattle.link.proofs.Turns.{left_alone, put_refused, put_done}
use Rattle.link.proofs.queues.put.Goals as goal

pub returns-in_err-held : goal.returns-in_err-held
returns-in_err-held c =
    let left = left_alone c.args.image.now (put c.args.word) _ c.in_err-held.ensures in
    record { value = ap no_word (handed_on c.from_residual.result _ c.from_residual.ensures.1) ∙ left.value; image_after = left.image }

pub returns-in_err-answer : goal.returns-in_err-answer
returns-in_err-answer c =
    let left = put_refused c.args.image.now _ c.in_ok-held.ensures c.args.word c.put-answer.result c.put-answer.ensures _ c.in_err-answer.was in
    let r = c.from_residual-in_err-answer in
    record { value = ap no_word (handed_on r.result _ r.ensures.1) ∙ left.value; image_after = left.image }

pub returns : goal.returns
returns c =
    let octets : (k : ℕ) → get_or c.args.image.now k 0 < 256 = search rules in
    let left = put_done c.args.image.now _ c.in_ok-held.ensures c.args.word c.put-answer.result c.put-answer.ensures _ c.in_ok-answer.was octets in
    record { value = left.value; image_after = c.save_put.ensures ∙ left.image }

-- A refused take leaves the bytes as they came; one that is not is written.
use Rattle.std.proofs.Common.{ℕ, ◌<◌, get_or, rules, ◌∙◌}
use Rattle.queue.specs.Run.{take}
use Rattle.link.proofs.Refusing.{handed_on}
use Rattle.link.proofs.Turns.{left_alone, take_refused, take_done}
use Rattle.link.proofs.queues.take.Goals as goal

pub returns-in_err-held : goal.returns-in_err-held
returns-in_err-held c =
    let left = left_alone c.args.image.now take _ c.in_err-held.ensures in
    record { value = handed_on c.from_residual.result _ c.from_residual.ensures.1 ∙ left.value; image_after = left.image }

pub returns-in_err-word : goal.returns-in_err-word
returns-in_err-word c =
    let left = take_refused c.args.image.now _ c.in_ok-held.ensures c.take-answer.result c.take-answer.ensures _ c.in_err-word.was in
    let r = c.from_residual-in_err-word in
    record { value = handed_on r.result _ r.ensures.1 ∙ left.value; image_after = left.image }

pub returns : goal.returns
returns c =
    let octets : (k : ℕ) → get_or c.args.image.now k 0 < 256 = search rules in
    let left = take_done c.args.image.now _ c.in_ok-held.ensures c.take-answer.result c.take-answer.ensures _ c.in_ok-word.was octets in
    record { value = left.value; image_after = c.save_take.ensures ∙ left.image }

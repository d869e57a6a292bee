-- Of as many bytes as an image has each is written once: the version, start and count behind it, and the ring behind these.
use Rattle.std.proofs.Common.{◌≡◌, [], ◌∷◌, ◌++◌, length, drop, refl, ◌∙◌}
use borrow.Author.Tests.{eq-eqb}
use Rattle.pairs.specs.Pairs.{bytes_of}
use Rattle.pairs.proofs.Pairs.{bytes_length}
use Rattle.queue_image.specs.Save.{saved, saved_in}
use Rattle.queue_image.proofs.Assembled.{numbers_put, ring_put}
use Rattle.queue_image.proofs.save.save.Goals as goal

pub returns : goal.returns
unfolding saved_in saved bytes_of
returns c =
    let image = c.args.image.now in
    let queue = c.args.queue in
    let two = bytes_of (queue.start ∷ queue.count ∷ []) in
    let long : length image ≡ 261 = c.if-image-ne-BYTES.false in
    let is : c.numbers.new.image ≡ 1 ∷ (two ++ drop 5 image) = c.numbers.ensures ∙ numbers_put image queue.start queue.count long in
    let put = ring_put c.numbers.new.image two (drop 5 image) c.write.new.bytes is (bytes_length (queue.start ∷ queue.count ∷ [])) in
    rw (eq-eqb (length image) 261 long) (put ∙ rw c.write.ensures refl)

-- Bytes that are as many as an image has, and whose parts are an image's.
use Rattle.wire.proofs.Bytes.{loaded}
use Rattle.wire.proofs.image.load.Goals as goal

pub returns : goal.returns
returns c =
    loaded c.args.image.now _ _ c.if-image-ne-BYTES.false c.if-image-ne-LAYOUT.false c.if-image-gt1.false
    (rw (← c.try_from.ensures) c.in_ok-listening.ensures.value) c.wide.ensures

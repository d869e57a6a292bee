-- The bytes of the words passed, and behind them the bytes as they came; the next word's bytes have the place behind these.
use Rattle.queue_image.proofs.Loops.{Writing}
use Rattle.queue_image.proofs.ring.write.Given as goal

abbrev pub invariant-loop-word : goal.invariant-loop-word
invariant-loop-word l = Writing l.words l.initial.bytes l.word-index l.at l.bytes

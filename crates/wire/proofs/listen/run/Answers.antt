-- While there are samples left there is a place for a word, since a sample gives at most one; the word goes to the first place that is left.
use Rattle.std.proofs.Common.{arith}
use Rattle.wire.proofs.Loop.{none_taken, word_fits, nothing_given, one_given}
use Rattle.wire.proofs.listen.run.Goals as goal
use Rattle.wire.proofs.listen.run.Goals.{in-Some, in_default}

pub loop-sample-init : goal.loop-sample-init
loop-sample-init c = none_taken _ _ _

pub bounds-words-count : goal.bounds-words-count
bounds-words-count c = (word_fits _ _ _ _ _ _ _ c.loop-sample.invariant c.requires c.loop-sample-test.true).0

pub offset_bounds-words-count : goal.offset_bounds-words-count
offset_bounds-words-count c = let f = word_fits _ _ _ _ _ _ _ c.loop-sample.invariant c.requires c.loop-sample-test.true in omega (arith, f.0, f.1)

pub overflow_add-count : goal.overflow_add-count
overflow_add-count c = let f = word_fits _ _ _ _ _ _ _ c.loop-sample.invariant c.requires c.loop-sample-test.true in omega (arith, f.0, f.1)

pub loop-sample-preserved : goal.loop-sample-preserved
loop-sample-preserved c =
    let h = c.loop-sample.invariant in
    elim c.match-heard.branch [
      | in-Some w ↦ rw (w.count-is, w.words-is, w.packed_word.ensures) (one_given _ _ _ _ _ _ _ h c.requires c.hear-heard.result c.hear-heard.ensures c.loop-sample-test.true _ w.in-Some.is)
      | in_default w ↦ rw (w.count-is, w.words-is) (nothing_given _ _ _ _ _ _ _ h c.requires c.hear-heard.result c.hear-heard.ensures c.loop-sample-test.true w.in_default.not-Some)
    ]

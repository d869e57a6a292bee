-- The bench is the one after i TICKs.
use Rattle.std.proofs.Common.{◌≡◌}
use Rattle.std.specs.Prelude.{replicate}
use Rattle.event.specs.declared.Event.TheVariants.{Tick}
use Rattle.bench.specs.Orders.{word_for, after_words}
use Rattle.bench.proofs.orders.ticks.Given as goal

abbrev pub invariant-loop-i : goal.invariant-loop-i
invariant-loop-i l = (l.word ≡ word_for Tick) × (l.state ≡ after_words l.fn.bench (replicate l.i (word_for Tick)))

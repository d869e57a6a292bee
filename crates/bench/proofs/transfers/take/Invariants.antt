-- The bench is the one after so many ACKed TAKEs.
use Rattle.std.proofs.Common.{◌≡◌, true}
use Rattle.std.specs.Prelude.{replicate}
use Rattle.event.specs.declared.Event.TheVariants.{Take}
use Rattle.bench.specs.Orders.{word_for, after_words}
use Rattle.bench.proofs.transfers.take.Given as goal

abbrev pub invariant-loop : goal.invariant-loop
invariant-loop l = l.state ≡ after_words l.fn.bench (replicate l.counter (word_for (Take true)))

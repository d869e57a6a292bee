-- The bench is the one after i of the values.
use Rattle.std.proofs.Common.{◌≡◌, map}
use Rattle.script.specs.Arguments.{further_values}
use Rattle.bench.specs.Orders.{byte_word, after_words}
use Rattle.bench.proofs.transfers.give.Given as goal

abbrev pub invariant-loop-i : goal.invariant-loop-i
invariant-loop-i l = l.state ≡ after_words l.fn.bench (map byte_word (further_values l.text l.i))

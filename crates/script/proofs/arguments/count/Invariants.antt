-- The number and what is left make the count.
use Rattle.std.proofs.Common.{◌≡◌, drop}
use Rattle.script.specs.Arguments.{count_of, count_from}
use Rattle.script.proofs.arguments.count.Given as goal

abbrev pub invariant-loop-c : goal.invariant-loop-c
invariant-loop-c l = count_of l.text ≡ count_from l.n (drop l.c-index l.text)

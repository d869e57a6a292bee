-- The bytes written are those of the digits passed.
use Rattle.paste.proofs.Passing.{Paired}
use Rattle.paste.proofs.digits.bytes_in.Given as goal

abbrev pub invariant-loop-i : goal.invariant-loop-i
invariant-loop-i l = Paired l.text l.bytes l.i

-- The digits of the bytes passed stand in front.
use Rattle.paste.proofs.Passing.{Written}
use Rattle.paste.proofs.digits.digits_of.Given as goal

abbrev pub invariant-loop-i : goal.invariant-loop-i
invariant-loop-i l = Written l.fn.bytes l.text l.i

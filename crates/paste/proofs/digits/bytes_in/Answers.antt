-- Two digits are a byte, one byte more is written, and all of them.
use Rattle.paste.proofs.Passing.{paired_on, paired_end}
use Rattle.paste.proofs.digits.bytes_in.Goals as goal

pub loop-i-preserved : goal.loop-i-preserved
loop-i-preserved c = rw c.octet_at.ensures (paired_on _ _ _ c.loop-i.invariant c.requires.text_len c.loop-i-test.true)

pub returns : goal.returns
returns c = paired_end _ _ _ c.loop-i.invariant c.requires.text_len c.loop-i-test.false

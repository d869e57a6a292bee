-- The arm of a BYTE says which kind it is.
use Rattle.event.proofs.event_of.Goals as goal

pub returns-in-2 : goal.returns-in-2
returns-in-2 c = rw c.in-2.is

-- Of replies that are gathered one after the other the one that counts is the one that the rule hears: by induction over the replies, from a reply
-- that is neither an ACK nor a driven byte. Assumes nothing.
use Prim.Native.Nat.{ℕ}
use mathlib.Core.Path.{◌≡◌, refl}
use mathlib.Core.List.{List, [], ◌∷◌}
use Rattle.event.specs.declared.Event.{Event}
use Rattle.event.specs.declared.Event.TheVariants.{Start, Stop, Byte, Take, Pins, Tick, Reset, Timeout}
use Rattle.bus.specs.declared.Reply.{Reply}
use Rattle.bus.specs.declared.Reply.TheVariants.{Nothing, Ack, NoAck, Driven, NotDriven}
use Rattle.chassis.specs.Chassis.{unanswered, heard}
use Rattle.chassis.specs.Passing.{spoken, louder}

-- The one that counts of a reply and those after it.
abbrev pub loudest : Reply → List Reply → Reply
loudest a [] = a
loudest a (b ∷ bs) = loudest (louder a b) bs

acked : (bs : List Reply) → loudest Ack bs ≡ Ack
acked [] = refl
acked (b ∷ bs) = acked bs

driven : (v : ℕ) (bs : List Reply) → loudest (Driven v) bs ≡ Driven v
driven v [] = refl
driven v (b ∷ bs) = driven v bs

-- After a reply that is neither an ACK nor a driven byte.
pub loudest_heard : (a : Reply) → ((b : Reply) → louder a b ≡ spoken a b) → (bs : List Reply) → loudest a bs ≡ heard a bs
unfolding heard
loudest_heard a quiet [] = refl
loudest_heard a quiet (Nothing ∷ bs) = rw (quiet Nothing) (loudest_heard a quiet bs)
loudest_heard a quiet (Ack ∷ bs) = rw (quiet Ack) (acked bs)
loudest_heard a quiet (NoAck ∷ bs) = rw (quiet NoAck) (loudest_heard a quiet bs)
loudest_heard a quiet (Driven v ∷ bs) = rw (quiet (Driven v)) (driven v bs)
loudest_heard a quiet (NotDriven ∷ bs) = rw (quiet NotDriven) (loudest_heard a quiet bs)

pub unanswered_quiet : (e : Event) (b : Reply) → louder (unanswered e) b ≡ spoken (unanswered e) b
unanswered_quiet Start b = refl
unanswered_quiet Stop b = refl
unanswered_quiet (Byte v) b = refl
unanswered_quiet (Take ack) b = refl
unanswered_quiet (Pins levels) b = refl
unanswered_quiet Tick b = refl
unanswered_quiet (Reset straps levels short) b = refl
unanswered_quiet Timeout b = refl

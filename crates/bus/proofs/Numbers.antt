-- The replies in the paper's numbers (document 01, "Replies and refusal numbers"). Assumes nothing.
use Prim.Native.Nat.{ℕ}
use mathlib.Core.Path.{◌≡◌, refl}
use mathlib.Core.List.{List, [], ◌∷◌, map}
use Rattle.bus.specs.Reply.{reply_number, reply_byte}
use Rattle.bus.specs.declared.Reply.{Reply}
use Rattle.bus.specs.declared.Reply.TheVariants.{Nothing, Ack, NoAck, Driven, NotDriven}

-- None, ACK, no ACK, a byte driven, none driven.
abbrev pub all_replies : ℕ → List Reply
all_replies v = Nothing ∷ Ack ∷ NoAck ∷ Driven v ∷ NotDriven ∷ []

-- 0, then 1 ACK or 2 no ACK, 3 byte driven or 4 not driven; the byte is 0 except with 3 (the value) and 4 (255).
pub numbered : (v : ℕ) → (map reply_number (all_replies v) ≡ 0 ∷ 1 ∷ 2 ∷ 3 ∷ 4 ∷ []) × (map reply_byte (all_replies v) ≡ 0 ∷ 0 ∷ 0 ∷ v ∷ 255 ∷ [])
numbered v = (refl, refl)

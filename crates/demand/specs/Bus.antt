-- Bus events, and what a form of command has at a place (document 01, "Bus commands"; document 03, "Bus transfers").
use Rattle.std.specs.Prelude.{ℕ, Bool, true, false, not, ◌&&◌, List, [], ◌∷◌, eqb}

-- Bus events are START, STOP, BYTE and TAKE, which the host ACKs or not.
pub data Bus : Type 0 where
  START STOP : Bus
  BYTE : ℕ → Bus
  TAKE : Bool → Bus

-- ---- what a form has at a place

abbrev pub Slot : Type 0
Slot = Bus → Bool

abbrev pub start : Slot
start START = true
start STOP = false
start (BYTE b) = false
start (TAKE ack) = false

abbrev pub stop : Slot
stop START = false
stop STOP = true
stop (BYTE b) = false
stop (TAKE ack) = false

-- A certain byte; and a register byte or a data byte, which is any.
abbrev pub byte_is : ℕ → Slot
byte_is n START = false
byte_is n STOP = false
byte_is n (BYTE b) = eqb b n
byte_is n (TAKE ack) = false

abbrev pub any_byte : Slot
any_byte START = false
any_byte STOP = false
any_byte (BYTE b) = true
any_byte (TAKE ack) = false

-- A TAKE, ACKed or not; and one that the host ACKs, or doesn't.
abbrev pub take : Slot
take START = false
take STOP = false
take (BYTE b) = false
take (TAKE ack) = true

abbrev pub take_acked : Slot
take_acked START = false
take_acked STOP = false
take_acked (BYTE b) = false
take_acked (TAKE ack) = ack

abbrev pub take_nacked : Slot
take_nacked START = false
take_nacked STOP = false
take_nacked (BYTE b) = false
take_nacked (TAKE ack) = not ack

-- ---- bus events against slots

-- Each is the next one of these slots ..
abbrev pub begins : List Slot → List Bus → Bool
begins slots [] = true
begins [] (e ∷ es) = false
begins (slot ∷ slots) (e ∷ es) = slot e && begins slots es

-- .. up to the last slot.
abbrev pub fills : List Slot → List Bus → Bool
fills [] [] = true
fills [] (e ∷ es) = false
fills (slot ∷ slots) [] = false
fills (slot ∷ slots) (e ∷ es) = slot e && fills slots es

abbrev pub bytes_in : List Bus → List ℕ
bytes_in [] = []
bytes_in (START ∷ es) = bytes_in es
bytes_in (STOP ∷ es) = bytes_in es
bytes_in (BYTE b ∷ es) = b ∷ bytes_in es
bytes_in (TAKE ack ∷ es) = bytes_in es

-- Document 01, "Event words". An event is one kind with its own data; packed, it is 16 bits, most significant field first.
use Rattle.std.specs.Prelude.{ℕ, ◌+◌, ◌*◌, ◌/◌, ◌%◌, ◌^◌, ◌≤◌, ◌<◌, ◌≡◌, List, [], ◌∷◌, Bool, true, false, get_or, ltb, eqb}
use Rattle.bits.specs.Bits.{bit, put}
use Rattle.bits.specs.Straps.{MOST_STRAPS}
use Rattle.event.specs.declared.Event.{Event}
use Rattle.event.specs.declared.Event.TheVariants.{Start, Stop, Byte, Take, Pins, Tick, Reset, Timeout}
use Rattle.std.specs.Prelude.{Result, Ok, Err}
use Rattle.event.specs.declared.NoEvent.{NoEvent}
use Rattle.event.specs.declared.NoWord.{NoWord}

-- A row of the table: how many bits the data of the kind has, from bit 0 up, and the event that the data make.
pub record Row : Type 0 where
  pub bits : ℕ
  pub event : ℕ → Event

abbrev row : ℕ → (ℕ → Event) → Row
row n f = record { bits = n; event = f }

-- RESET: bit 12 asks for the short pulse (document 02, request 4), bits 11-8 are the straps, bits 7-0 the levels.
abbrev pub reset : ℕ → Event
reset d = Reset (d / 256 % 16) (d % 256) (bit 12 d)

-- The table, from kind 0 on.
abbrev pub table : List Row
table =
    row 0 (λ d. Start)
    ∷ row 0 (λ d. Stop)
    ∷ row 8 Byte
    ∷ row 1 (λ d. Take (eqb d 1))
    ∷ row 8 Pins
    ∷ row 0 (λ d. Tick)
    ∷ row 13 reset
    ∷ row 0 (λ d. Timeout)
    ∷ []

abbrev pub row_of : ℕ → Row
row_of k = get_or table k (row 0 (λ d. Timeout))

abbrev pub bits_of : ℕ → ℕ
bits_of k = (row_of k).bits

abbrev pub event_of : ℕ → ℕ → Event
event_of k d = (row_of k).event d

-- Bits 15-13 of a word are the kind: one more of it counts so much.
abbrev pub KIND : ℕ
KIND = 8192

abbrev pub kind_of : ℕ → ℕ
kind_of w = w / KIND

-- The bits below the kind.
abbrev pub field_of : ℕ → ℕ
field_of w = w % KIND

-- Whether it is the kind of a RESET.
abbrev pub is_reset_word : ℕ → Bool
is_reset_word w = eqb (kind_of w) 6

abbrev pub no_event : NoEvent
no_event = record {}

abbrev pub no_word : NoWord
no_word = record {}

abbrev pub accept : Bool → Event → Result Event NoEvent
accept true e = Ok e
accept false e = (Err no_event)

-- All bits but the kind and its data are 0; a word that has one set is refused and gives no event.
unfoldable pub unpacked : ℕ → Result Event NoEvent
unpacked w = accept (ltb (field_of w) (2 ^ bits_of (kind_of w))) (event_of (kind_of w) (field_of w))

abbrev word : ℕ → ℕ → ℕ
word k d = k * KIND + d

-- The data of a RESET.
abbrev pub reset_data : ℕ → ℕ → Bool → ℕ
reset_data straps levels short = put 12 short + (straps * 256 + levels)

-- The word of an event, most significant field first.
unfoldable pub word_of : Event → ℕ
word_of Start = word 0 0
word_of Stop = word 1 0
word_of (Byte b) = word 2 b
word_of (Take ack) = word 3 (put 0 ack)
word_of (Pins p) = word 4 p
word_of Tick = word 5 0
word_of (Reset s l short) = word 6 (reset_data s l short)
word_of Timeout = word 7 0

abbrev pub is_reset : Event → Bool
is_reset Start = false
is_reset Stop = false
is_reset (Byte b) = false
is_reset (Take ack) = false
is_reset (Pins p) = false
is_reset Tick = false
is_reset (Reset s l short) = true
is_reset Timeout = false

-- The straps of an event, 0 where it has none.
unfoldable pub straps_of : Event → ℕ
straps_of Start = 0
straps_of Stop = 0
straps_of (Byte b) = 0
straps_of (Take ack) = 0
straps_of (Pins p) = 0
straps_of Tick = 0
straps_of (Reset s l short) = s
straps_of Timeout = 0

abbrev pub word_unless : Bool → ℕ → Result ℕ NoWord
word_unless true w = (Err no_word)
word_unless false w = Ok w

-- Packing an event whose straps exceed 15 is refused.
unfoldable pub packed : Event → Result ℕ NoWord
packed e = word_unless (ltb MOST_STRAPS (straps_of e)) (word_of e)

-- The paper's number for each answer, and the word that comes back.
abbrev pub unpack_refusal : Result Event NoEvent → ℕ
unpack_refusal (Ok e) = 0
unpack_refusal (Err why) = 2

abbrev pub pack_refusal : Result ℕ NoWord → ℕ
pack_refusal (Ok w) = 0
pack_refusal (Err why) = 6

abbrev pub pack_word : Result ℕ NoWord → ℕ
pack_word (Ok w) = w
pack_word (Err why) = 0

-- A bit that must be 0 is set: one of those below the kind, above the kind's data.
abbrev pub StrayBitSet : ℕ → Type 0
StrayBitSet w = (i : ℕ) × (bits_of (kind_of w) ≤ i) × (field_of w / 2 ^ i % 2 ≡ 1)

-- The numbers of an event are bytes, as its type in the code has them.
unfoldable pub Bytes : Event → Type 0
Bytes Start = Unit {0}
Bytes Stop = Unit {0}
Bytes (Byte b) = b < 256
Bytes (Take ack) = Unit {0}
Bytes (Pins p) = p < 256
Bytes Tick = Unit {0}
Bytes (Reset s l short) = (s < 256) × (l < 256)
Bytes Timeout = Unit {0}

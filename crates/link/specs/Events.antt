-- Events as numbers: a kind, and the two numbers that it may have beside it (document 01, "Event words").
use Rattle.std.specs.Prelude.{ℕ, ◌+◌, ◌*◌, ◌/◌, ◌%◌, ◌^◌, Bool, not, cond, ◌&&◌, [], ◌∷◌, eqb, leb, ltb, get_or, None, Option, Some}
use Rattle.event.specs.Words.{unpacked, packed, pack_refusal, pack_word}
use Rattle.event.specs.declared.Event.{Event}
use Rattle.event.specs.declared.Event.TheVariants.{Start, Stop, Byte, Take, Pins, Tick, Reset, Timeout}
use Rattle.link.specs.Answer.{both}
use Rattle.std.specs.Prelude.{Result, Ok, Err}
use Rattle.event.specs.declared.NoEvent.{NoEvent}

-- Two numbers side by side, in bits 15-8 and 7-0. What the first has above its low byte stands in bits 31-24, above the refusal, so
-- that a program that knows of no more than two bytes takes such an answer for a refusal.
abbrev pub pair : ℕ → ℕ → ℕ
pair first second = first / 256 * 2 ^ 24 + first % 256 * 256 + second

-- The first number of a RESET: its straps, and 256 more if the short pulse is asked for (document 02, request 4).
abbrev pub reset_first : ℕ → Bool → ℕ
reset_first straps short = cond short 256 0 + straps

unfoldable pub numbers_of : Event → ℕ
numbers_of Start = pair 0 0
numbers_of Stop = pair 0 0
numbers_of (Byte b) = pair b 0
numbers_of (Take ack) = pair (cond ack 1 0) 0
numbers_of (Pins levels) = pair levels 0
numbers_of Tick = pair 0 0
numbers_of (Reset straps levels short) = pair (reset_first straps short) levels
numbers_of Timeout = pair 0 0

-- Unpacking: the event's two numbers, or refusal 2. Its kind is bits 15-13 of the word itself.
abbrev pub as_numbers : Result Event NoEvent → ℕ
as_numbers (Ok e) = numbers_of e
as_numbers (Err why) = both 2 0

unfoldable pub unpacked_as : ℕ → ℕ
unpacked_as w = as_numbers (unpacked w)

-- Such an answer taken apart, as dock_refusal, dock_first and dock_second of the header do.
abbrev pub refusal_in : ℕ → ℕ
refusal_in answer = answer / 2 ^ 16 % 256

abbrev pub first_in : ℕ → ℕ
first_in answer = answer / 2 ^ 24 * 256 + answer / 256 % 256

abbrev pub second_in : ℕ → ℕ
second_in answer = answer % 256

-- Three numbers are an event's where the kind is one of the table's and no number is set that it doesn't have.
abbrev given : Bool → Event → Option Event
given proper e = cond proper (Some e) None

abbrev pub is_byte : ℕ → Bool
is_byte n = leb n 255

abbrev bare : ℕ → ℕ → Bool
bare first second = eqb first 0 && eqb second 0

unfoldable pub meant_by : ℕ → ℕ → ℕ → Option Event
meant_by kind first second =
    get_or
    (given (bare first second) Start
    ∷ given (bare first second) Stop
    ∷ given (is_byte first && eqb second 0) (Byte (first % 256))
    ∷ given (leb first 1 && eqb second 0) (Take (eqb first 1))
    ∷ given (is_byte first && eqb second 0) (Pins (first % 256))
    ∷ given (bare first second) Tick
    ∷ given (ltb first 512) (Reset (first % 256) second (not (is_byte first)))
    ∷ given (bare first second) Timeout
    ∷ [])
    kind
    None

-- Packing: refusal 2 where they are no event's, else as packing answers.
abbrev pub packs : Option Event → ℕ
packs (Some e) = both (pack_refusal (packed e)) (pack_word (packed e))
packs None = both 2 0

unfoldable pub packed_as : ℕ → ℕ → ℕ → ℕ
packed_as kind first second = packs (meant_by kind first second)

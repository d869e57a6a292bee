-- The held state as bytes: the layout's version, SDAT, what is listened for, the bits that have come, their value, and the low run, high
-- byte first.
use Rattle.std.specs.Prelude.{ℕ, ◌/◌, ◌%◌, Bool, cond, ◌&&◌, Option, Some, None, Result, Ok, Err, List, [], ◌∷◌, eqb, leb, length, get_or}
use Rattle.pairs.specs.Pairs.{wide}
use Rattle.bits.specs.Bits.{put}
use Rattle.wire.specs.declared.Wire.{Wire}
use Rattle.wire.specs.declared.Listening.{Listening}
use Rattle.wire.specs.declared.Listening.TheVariants.{Nothing, FirstByte, Bytes, Takes}
use Rattle.wire.specs.declared.image.UnknownListening.{UnknownListening}

abbrev pub LAYOUT : ℕ
LAYOUT = 1

abbrev pub BYTES : ℕ
BYTES = 7

-- What is listened for: 0 nothing, 1 a START's first byte, 2 bytes from the host, 3 bytes that the host clocks in.
abbrev pub listening_number : Listening → ℕ
listening_number Nothing = 0
listening_number FirstByte = 1
listening_number Bytes = 2
listening_number Takes = 3

abbrev pub listening_by : ℕ → Listening
listening_by n = get_or (Nothing ∷ FirstByte ∷ Bytes ∷ Takes ∷ []) n Nothing

-- .. and no other number is one of these.
abbrev pub listening_in : ℕ → Result Listening UnknownListening
listening_in n = cond (leb n 3) (Ok (listening_by n)) (Err (record {}))

unfoldable pub saved : Wire → List ℕ
saved w =
    LAYOUT
    ∷ put 0 w.lines.sdat
    ∷ listening_number w.ear.listening
    ∷ w.ear.bits
    ∷ w.ear.value
    ∷ w.lines.low / 256
    ∷ w.lines.low % 256
    ∷ []

abbrev byte_at : List ℕ → ℕ → ℕ
byte_at bytes i = get_or bytes i 0

-- Not an image: a wrong length, an unknown version, an SDAT that is neither 0 nor 1, nothing that is listened for.
unfoldable pub is_image : List ℕ → Bool
is_image bytes = eqb (length bytes) BYTES && ((eqb (byte_at bytes 0) LAYOUT && leb (byte_at bytes 1) 1) && leb (byte_at bytes 2) 3)

unfoldable pub wire_in : List ℕ → Wire
wire_in bytes =
    record {
      lines = record { sdat = eqb (byte_at bytes 1) 1; low = wide (byte_at bytes 5) (byte_at bytes 6) };
      ear = record { listening = listening_by (byte_at bytes 2); bits = byte_at bytes 3; value = byte_at bytes 4 };
    }

-- Every byte string is answered.
unfoldable pub load_of : List ℕ → Option Wire
load_of bytes = cond (is_image bytes) (Some (wire_in bytes)) None

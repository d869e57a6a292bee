-- A text as bytes in hex, two digits to a byte.
use Rattle.std.specs.Prelude.{ℕ, ◌+◌, ◌*◌, ◌/◌, List, [], ◌∷◌, get_or, unwrap_or}
use Rattle.std.specs.List.{prefix_len}
use Rattle.std.specs.Option.{is_some}
use Rattle.hexes.specs.Digit.{digit_for}
use Rattle.script.specs.Arguments.{digit_of}

-- Bytes as digits, the high one of each first.
unfoldable pub hex_of : List ℕ → List ℕ
hex_of [] = []
hex_of (b ∷ bs) = digit_for (b / 16) ∷ digit_for b ∷ hex_of bs

-- How many hex digits stand in front.
abbrev pub leading_digits : List ℕ → ℕ
leading_digits t = prefix_len (λ c. is_some (digit_of c)) t

-- The bytes of digits, two to each. One that is left over makes none.
abbrev pub value_of : ℕ → ℕ
value_of c = unwrap_or (digit_of c) 0

abbrev pub octet_at : List ℕ → ℕ → ℕ
octet_at t i = value_of (get_or t (2 * i) 0) * 16 + value_of (get_or t (2 * i + 1) 0)

unfoldable pub bytes_of : List ℕ → List ℕ
bytes_of [] = []
bytes_of (h ∷ []) = []
bytes_of (h ∷ l ∷ t) = (value_of h * 16 + value_of l) ∷ bytes_of t

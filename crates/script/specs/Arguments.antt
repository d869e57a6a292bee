-- What a person types after a verb: bytes and words in hex, counts in decimal.
use Rattle.std.specs.Prelude.{ℕ, zero, suc, ◌+◌, ◌*◌, ◌-◌, Bool, cond, ◌&&◌, List, [], ◌∷◌, ◌++◌, length, get_or, take, drop, eqb, leb, Option, Some, None, option_and_then, unwrap_or}
use Prim.Native.Char.{Char, code}
use Rattle.std.specs.List.{list_all, range_with_len}
use Rattle.std.specs.Option.{is_some}

-- A character from one to another, in the order of their numbers.
abbrev pub from : Char → Char → ℕ → Bool
from a z c = leb (code a) c && leb c (code z)

-- The value of a hex digit, in either case.
unfoldable pub digit_of : ℕ → Option ℕ
digit_of c =
    cond (from "0" "9" c) (Some (c - code "0"))
    (cond (from "A" "F" c) (Some (c - code "A" + 10))
    (cond (from "a" "f" c) (Some (c - code "a" + 10))
    None))

-- Two numbers, where both are there: in base b as one, or as a pair.
abbrev pub joined : ℕ → Option ℕ → Option ℕ → Option ℕ
joined b None l = None
joined b (Some h) None = None
joined b (Some h) (Some l) = Some (h * b + l)

abbrev pub both : Option ℕ → Option ℕ → Option (ℕ × ℕ)
both None l = None
both (Some h) None = None
both (Some h) (Some l) = Some (h, l)

-- Two hex digits.
unfoldable pub octet_of : List ℕ → Option ℕ
octet_of t = cond (eqb (length t) 2) (joined 16 (digit_of (get_or t 0 0)) (digit_of (get_or t 1 0))) None

-- Four hex digits.
unfoldable pub word_of : List ℕ → Option ℕ
word_of t = cond (eqb (length t) 4) (joined 256 (octet_of (take 2 t)) (octet_of (drop 2 t))) None

-- Two bytes with a sign between them.
unfoldable pub pair_of : ℕ → List ℕ → Option (ℕ × ℕ)
pair_of sign t = cond (eqb (length t) 5 && eqb (get_or t 2 0) sign) (both (octet_of (take 2 t)) (octet_of (drop 3 t))) None

-- The values of a write after its first, each after a comma: value n, and whether it is there.
unfoldable pub further_of : List ℕ → ℕ → Option ℕ
further_of t n = octet_of (take 2 (drop (3 * n + 6) t))

unfoldable pub follows_at : List ℕ → ℕ → Bool
follows_at t n = eqb (get_or t (3 * n + 5) 0) (code ",") && is_some (further_of t n)

-- So many of them are there, and what they are.
unfoldable pub all_further : List ℕ → ℕ → Bool
all_further t n = list_all (follows_at t) (range_with_len 0 n)

unfoldable pub further_values : List ℕ → ℕ → List ℕ
further_values t zero = []
further_values t (suc n) = further_values t n ++ (unwrap_or (further_of t n) 0 ∷ [])

-- Decimal digits, 65,535 at most: one digit more, and all of them.
abbrev pub count_on : ℕ → Option ℕ → Option ℕ
count_on n None = None
count_on n (Some d) = cond (leb d 9 && leb (n * 10 + d) 65535) (Some (n * 10 + d)) None

unfoldable pub count_from : ℕ → List ℕ → Option ℕ
count_from n [] = Some n
count_from n (c ∷ cs) = option_and_then (λ m. count_from m cs) (count_on n (digit_of c))

unfoldable pub count_of : List ℕ → Option ℕ
count_of t = count_from 0 t

-- A count, or nothing for 1.
unfoldable pub ticks_of : List ℕ → Option ℕ
ticks_of t = cond (eqb (length t) 0) (Some 1) (count_of t)

-- A count that is a byte, as the number of a kind is.
abbrev pub as_small : Option ℕ → Option ℕ
as_small None = None
as_small (Some n) = cond (leb n 255) (Some n) None

unfoldable pub small_of : List ℕ → Option ℕ
small_of t = cond (eqb (length t) 0) None (as_small (count_of t))

-- A number as decimal digits without leading zeros, by their ASCII numbers.
use Rattle.std.specs.Prelude.{ℕ, zero, suc, ◌+◌, ◌/◌, ◌%◌, cond, List, [], ◌∷◌, ◌++◌, ltb}
use Prim.Native.Char.{code}

abbrev pub last_digit : ℕ → ℕ
last_digit n = code "0" + n % 10

-- The last digit, after those of the tenth part: up to so many more.
unfoldable pub decimal_in : ℕ → ℕ → List ℕ
decimal_in zero n = last_digit n ∷ []
decimal_in (suc k) n = cond (ltb n 10) (last_digit n ∷ []) (decimal_in k (n / 10) ++ (last_digit n ∷ []))

-- 64 bits have 20 digits at most.
unfoldable pub decimal_of : ℕ → List ℕ
decimal_of n = decimal_in 19 n

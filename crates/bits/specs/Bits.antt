-- Bits of a number, counted from 0.
use Rattle.std.specs.Prelude.{ℕ, ◌/◌, ◌%◌, ◌^◌, Bool, cond, eqb}

-- The bit of a weight is 1; bit i has the weight 2 ^ i. No bit has the weight 0.
abbrev pub has_weight : ℕ → ℕ → Bool
has_weight weight n = eqb (n / weight % 2) 1

abbrev pub bit : ℕ → ℕ → Bool
bit i n = has_weight (2 ^ i) n

-- What a bit adds to a number.
abbrev pub put_weight : ℕ → Bool → ℕ
put_weight weight on = cond on weight 0

abbrev pub put : ℕ → Bool → ℕ
put i on = put_weight (2 ^ i) on

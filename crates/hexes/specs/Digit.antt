-- Numbers as texts.
use Rattle.std.specs.Prelude.{ℕ, ◌+◌, ◌-◌, ◌%◌, cond, ltb}
use Prim.Native.Char.{code}

-- The character of the lowest hex digit of a number: 0 to 9, A to F.
unfoldable pub digit_for : ℕ → ℕ
digit_for n = cond (ltb (n % 16) 10) (code "0" + n % 16) (code "A" - 10 + n % 16)

-- A number is at least 2 ^ n exactly when one of its bits from bit n up is set. Assumes nothing.
use Prim.Native.Nat.{ℕ, zero, suc, ◌*◌, ◌/◌, ◌%◌, ◌^◌, ◌≤◌, ◌<◌}
use native.Mathlib.Nat.{div-eq_of_lt-le, div-eq_of_lt, lt_of_lt_of_le}
use native.Mathlib.Decide.{dec_lt}
use native.Mathlib.Omega.{arith}
use mathlib.Core.Path.{◌≡◌}
use lib.Pow.{pow_pos, pow_mono}

abbrev HighBit : ℕ → ℕ → Type 0
HighBit n x = (i : ℕ) × (n ≤ i) × (x / 2 ^ i % 2 ≡ 1)

at_top : (p x : ℕ) → p ≤ x → x < 2 * p → x / p % 2 ≡ 1
at_top p x h l = rw (div-eq_of_lt-le {k = 1} p {m = x} (omega arith) (omega arith))

below_top : (m n x : ℕ) → 2 ^ n ≤ x → x < 2 ^ suc m → n ≤ m
below_top m n x h l = go (dec_lt m n)
  where
    go : Dec (m < n) → n ≤ m
    go (yes p) = omega (arith, pow_mono p)
    go (no q) = omega arith

-- the highest bit that is set, sought from bit m down
pub high_bit : (m n x : ℕ) → 2 ^ n ≤ x → x < 2 ^ m → HighBit n x
high_bit zero n x h l = absurd (omega (arith, pow_pos n))
high_bit (suc m) n x h l = go (dec_lt x (2 ^ m)) (high_bit m n x h)
  where
    go : Dec (x < 2 ^ m) → (x < 2 ^ m → HighBit n x) → HighBit n x
    go (yes p) further = further p
    go (no q) further = (m, below_top m n x h l, at_top (2 ^ m) x (omega arith) (omega arith))

pub no_high_bit : (n x : ℕ) → x < 2 ^ n → HighBit n x → ⊥
no_high_bit n x l (i, h, e) = omega (arith, rw (div-eq_of_lt (lt_of_lt_of_le l (pow_mono h))) at e)

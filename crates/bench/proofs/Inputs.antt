-- Levels after a change, input by input: one that was named is at its new level, and any other is where it was. Assumes nothing.
use Prim.Native.Nat.{ℕ, zero, suc, ◌-◌, ◌/◌, ◌%◌, ◌^◌, ◌<◌}
use native.Mathlib.Omega.{arith}
use mathlib.Core.Path.{◌≡◌, ◌∙◌}
use lib.Bits.{bit_and, bit_or, and_shr, and_mod, and_mask, and_zero_r, or_shr, or_mod, or_zero_r, or_add_and}
use Rattle.bench.specs.Levels.{pulled, raised}

-- Bit i of a number.
abbrev level : ℕ → ℕ → ℕ
level i n = n / 2 ^ i % 2

and_level : (i a b : ℕ) → level i (bit_and a b) ≡ bit_and (level i a) (level i b)
and_level i a b = rw (and_shr a b i) (and_mod (a / 2 ^ i) (b / 2 ^ i) 1)

or_level : (i a b : ℕ) → level i (bit_or a b) ≡ bit_or (level i a) (level i b)
or_level i a b = rw (or_shr a b i) (or_mod (a / 2 ^ i) (b / 2 ^ i) 1)

-- Among eight bits, the ones that are not named.
others : (i m : ℕ) → i < 8 → m < 256 → level i (0xFF - m) ≡ 1 - level i m
others zero m l h = omega arith
others (suc zero) m l h = omega arith
others (suc (suc zero)) m l h = omega arith
others (suc (suc (suc zero))) m l h = omega arith
others (suc (suc (suc (suc zero)))) m l h = omega arith
others (suc (suc (suc (suc (suc zero))))) m l h = omega arith
others (suc (suc (suc (suc (suc (suc zero)))))) m l h = omega arith
others (suc (suc (suc (suc (suc (suc (suc zero))))))) m l h = omega arith
others (suc (suc (suc (suc (suc (suc (suc (suc i)))))))) m l h = absurd (omega arith)

and_one : (x : ℕ) → bit_and (x % 2) 1 ≡ x % 2
and_one x = and_mask (x % 2) 1 ∙ omega arith

or_one : (x : ℕ) → bit_or (x % 2) 1 ≡ 1
or_one x = omega (arith, or_add_and (x % 2) 1, and_one x)

module _ (l m i : ℕ) (place : i < 8) (byte : m < 256) where
  pub pulled_named : level i m ≡ 1 → level i (pulled l m) ≡ 0
  unfolding pulled
  pulled_named e = rw (and_level i l (0xFF - m), others i m place byte, e) (and_zero_r (level i l))

  pub pulled_other : level i m ≡ 0 → level i (pulled l m) ≡ level i l
  unfolding pulled
  pulled_other e = rw (and_level i l (0xFF - m), others i m place byte, e) (and_one (l / 2 ^ i))

  pub raised_named : level i m ≡ 1 → level i (raised l m) ≡ 1
  unfolding raised
  raised_named e = rw (or_level i l m, e) (or_one (l / 2 ^ i))

  pub raised_other : level i m ≡ 0 → level i (raised l m) ≡ level i l
  unfolding raised
  raised_other e = rw (or_level i l m, e) (or_zero_r (level i l))

-- Decimal digits: those that the library writes of a number are those of the definition; read again they give the number, and the first
-- of them is 0 only for 0. Assumes nothing.
use Prim.Native.Nat.{ℕ, zero, suc, ◌+◌, ◌-◌, ◌*◌, ◌/◌, ◌%◌, ◌^◌, ◌<◌}
use Prim.Native.Char.{code}
use native.Mathlib.Omega.{arith}
use native.Mathlib.Nat.{pow-suc}
use mathlib.Core.Path.{◌≡◌, refl, ap, ◌∙◌}
use mathlib.Core.Bool.{Bool, true, false, cond}
use mathlib.Core.List.{List, [], ◌∷◌, ◌++◌}
use lib.ListN.{get_or}
use lib.Dec.{ltb}
use borrow.Author.Tests.{ltb-true, ltb-false}
use Rattle.std.specs.Fmt.{decimal}
use Rattle.std.proofs.lemmas.Fmt.{decimal_digit, decimal_step}
use Rattle.capture.specs.Number.{last_digit, decimal_in, decimal_of}

-- ---- the digits of the library

-- Its text goes on digit by digit as the definition does: one digit, or those of the tenth part and one more.
one_more : (n : ℕ) (ds : List ℕ) (b : Bool) → n < 2 ^ 64 → ltb n 10 ≡ b → decimal (n / 10) ≡ ds → decimal n ≡ cond b (last_digit n ∷ []) (ds ++ (last_digit n ∷ []))
one_more n ds true w e r =
    let h : n < 10 = ltb-true n 10 e in
    let same : n ≡ n % 10 = omega (arith, h) in
    decimal_digit n h ∙ ap (λ d. (48 + d) ∷ []) same
one_more n ds false w e r = decimal_step n (ltb-false n 10 e) w ∙ ap (λ ds. ds ++ (last_digit n ∷ [])) r

digits_in : (k n : ℕ) → n < 10 ^ suc k → n < 2 ^ 64 → decimal n ≡ decimal_in k n
unfolding decimal_in
digits_in zero n l w =
    let h : n < 10 = omega (arith, l, pow-suc 10 0) in
    let same : n ≡ n % 10 = omega (arith, h) in
    decimal_digit n h ∙ ap (λ d. (48 + d) ∷ []) same
digits_in (suc k) n l w =
    one_more n (decimal_in k (n / 10)) (ltb n 10) w refl
    (digits_in k (n / 10) (omega (arith, l, pow-suc 10 (suc k))) (omega (arith, w)))

pub same_decimal : (n : ℕ) → n < 2 ^ 64 → decimal n ≡ decimal_of n
unfolding decimal_of
same_decimal n l = digits_in 19 n (omega arith) l

-- ---- what they say

-- Digits read as a person reads them, after a number that stands in front.
unfoldable pub read_from : ℕ → List ℕ → ℕ
read_from v [] = v
read_from v (d ∷ ds) = read_from (v * 10 + (d - code "0")) ds

read_last : (v : ℕ) (ds : List ℕ) (d : ℕ) → read_from v (ds ++ (d ∷ [])) ≡ read_from v ds * 10 + (d - code "0")
unfolding read_from
read_last v [] d = refl
read_last v (e ∷ ds) d = read_last (v * 10 + (e - code "0")) ds d

-- One digit, or the tenth part's and one more.
read_either : (n : ℕ) (b : Bool) (ds : List ℕ) → ltb n 10 ≡ b → read_from 0 ds ≡ n / 10 → read_from 0 (cond b (last_digit n ∷ []) (ds ++ (last_digit n ∷ []))) ≡ n
unfolding read_from
read_either n true ds e r = omega (arith, ltb-true n 10 e)
read_either n false ds e r = omega (arith, read_last 0 ds (last_digit n))

in_value : (k n : ℕ) → n < 10 ^ suc k → read_from 0 (decimal_in k n) ≡ n
unfolding decimal_in read_from
in_value zero n l = omega (arith, pow-suc 10 0)
in_value (suc k) n l = read_either n (ltb n 10) (decimal_in k (n / 10)) refl (in_value k (n / 10) (omega (arith, pow-suc 10 (suc k))))

pub decimal_value : (n : ℕ) → n < 2 ^ 64 → read_from 0 (decimal_of n) ≡ n
unfolding decimal_of
decimal_value n l = in_value 19 n (omega arith)

-- No leading zero.
first_either : (n : ℕ) (b : Bool) (ds : List ℕ) → ltb n 10 ≡ b → 0 < n → (0 < n / 10 → code "0" < get_or ds 0 0) → code "0" < get_or (cond b (last_digit n ∷ []) (ds ++ (last_digit n ∷ []))) 0 0
first_either n true ds e p r = omega (arith, ltb-true n 10 e)
first_either n false [] e p r = omega (arith, r (omega (arith, ltb-false n 10 e)))
first_either n false (d ∷ ds) e p r = r (omega (arith, ltb-false n 10 e))

in_first : (k n : ℕ) → n < 10 ^ suc k → 0 < n → code "0" < get_or (decimal_in k n) 0 0
unfolding decimal_in
in_first zero n l p = omega (arith, pow-suc 10 0)
in_first (suc k) n l p = first_either n (ltb n 10) (decimal_in k (n / 10)) refl p (in_first k (n / 10) (omega (arith, pow-suc 10 (suc k))))

pub no_leading_zero : (n : ℕ) → n < 2 ^ 64 → 0 < n → code "0" < get_or (decimal_of n) 0 0
unfolding decimal_of
no_leading_zero n l p = in_first 19 n (omega arith) p

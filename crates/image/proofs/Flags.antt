-- The loops over flags, one byte further. Assumes nothing.
use Prim.Native.Nat.{ℕ, zero, suc, ◌+◌, ◌<◌, ◌≤◌}
use native.Mathlib.Omega.{arith}
use native.Mathlib.Numerals.{add-one}
use mathlib.Core.Path.{◌≡◌, refl, ap, ◌∙◌}
use mathlib.Core.Bool.{Bool, true, false, ◌&&◌}
use mathlib.Core.List.{List, [], ◌∷◌}
use lib.Dec.{leb}
use lib.ListN.{length, get_or, take, drop}
use lib.Seq.{drop-cons, drop-length}
use Rattle.image.specs.Load.{all_flags, first_over}

and_true : (b : Bool) → (b && true) ≡ b
and_true true = refl
and_true false = refl

and_assoc : (a b c : Bool) → (a && (b && c)) ≡ ((a && b) && c)
and_assoc true b c = refl
and_assoc false b c = refl

pub all_next : (xs : List ℕ) (i : ℕ) → i < length xs → all_flags (take (i + 1) xs) ≡ (all_flags (take i xs) && leb (get_or xs i 0) 1)
all_next xs i h = rw (add-one i) (go xs i h)
  where
    go : (xs : List ℕ) (i : ℕ) → i < length xs → all_flags (take (suc i) xs) ≡ (all_flags (take i xs) && leb (get_or xs i 0) 1)
    go [] i h = absurd (omega (arith, h))
    go (x ∷ xs) zero h = and_true (leb x 1)
    go (x ∷ xs) (suc i) h = ap (λ b. leb x 1 && b) (go xs i (omega (arith, h))) ∙ and_assoc (leb x 1) (all_flags (take i xs)) (leb (get_or xs i 0) 1)

-- So many bytes have been passed, none above 1.
abbrev pub Passed : List ℕ → ℕ → Type 0
Passed xs i = (i ≤ length xs) × (first_over xs ≡ i + first_over (drop i xs))

pub none_passed : (xs : List ℕ) → Passed xs 0
none_passed xs = omega arith

module _ (xs : List ℕ) (i : ℕ) (p : Passed xs i) where
  pub pass_next : i < length xs → leb (get_or xs i 0) 1 ≡ true → Passed xs (i + 1)
  unfolding first_over
  pass_next h e =
      (omega (arith, h), p.1 ∙ ap (λ n. i + n) here ∙ omega arith)
    where
      here : first_over (drop i xs) ≡ 1 + first_over (drop (i + 1) xs)
      here = rw (drop-cons xs i 0 h, e, add-one i)

  pub found : i < length xs → leb (get_or xs i 0) 1 ≡ false → first_over xs ≡ i
  unfolding first_over
  found h e = p.1 ∙ ap (λ n. i + n) here ∙ omega arith
    where
      here : first_over (drop i xs) ≡ 0
      here = rw (drop-cons xs i 0 h, e)

  pub all_passed : length xs ≤ i → first_over xs ≡ length xs
  unfolding first_over
  all_passed h = p.1 ∙ ap (λ n. i + n) here ∙ omega (arith, end)
    where
      end : i ≡ length xs
      end = omega (arith, h, p.0)

      here : first_over (drop i xs) ≡ 0
      here = rw (end, drop-length xs)

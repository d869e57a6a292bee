-- A list of known length is its elements, so that what holds of every such list of elements holds of it. Assumes nothing.
use Prim.Native.Nat.{ℕ, zero, suc}
use mathlib.Core.Path.{◌≡◌, refl, ap}
use mathlib.Core.List.{List, [], ◌∷◌}
use lib.ListN.{length, get_or}

module _ {A : Type 0} where
  abbrev pub spelled : ℕ → (ℕ → A) → List A
  spelled zero f = []
  spelled (suc n) f = f zero ∷ spelled n (λ i. f (suc i))

  is_spelled : (d : A) (xs : List A) → spelled (length xs) (λ i. get_or xs i d) ≡ xs
  is_spelled d [] = refl
  is_spelled d (x ∷ xs) = ap (λ l. x ∷ l) (is_spelled d xs)

  pub by_elements : (d : A) (n : ℕ) (P : List A → Type 0) → ((f : ℕ → A) → P (spelled n f)) → (xs : List A) → length xs ≡ n → P xs
  by_elements d n P h xs e = rw (← is_spelled d xs, e) (h (λ i. get_or xs i d))

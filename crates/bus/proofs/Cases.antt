-- The other cases of a `let .. else` or of a `_`: what is known there is that the value's tag is one of some numbers. At each
-- constructor the tag is a numeral, so that antt finds by computing whether it is among them. Assumes nothing.
use Prim.Native.Nat.{ℕ}
use mathlib.Core.Path.{◌≡◌, subst}
use mathlib.Core.Bool.{Bool, true, false, ◌||◌}
use mathlib.Core.Logic.{inl, inr}
use mathlib.Core.List.{List, [], ◌∷◌}
use lib.Dec.{T, eqb, eqb_refl}
use types.Run.{OneOf}

abbrev pub among : ℕ → List ℕ → Bool
among t [] = false
among t (k ∷ ks) = eqb t k || among t ks

here : (a b : Bool) → T a → T (a || b)
here true b t = tt
here false b t = absurd t

further : (a b : Bool) → T b → T (a || b)
further true b t = tt
further false b t = t

at : (t k : ℕ) → t ≡ k → T (eqb t k)
at t k e = subst (λ (n : ℕ). T (eqb t n)) e (eqb_refl t)

pub found : (ks : List ℕ) (t : ℕ) → OneOf ks t → T (among t ks)
found [] t h = absurd h
found (k ∷ []) t h = here (eqb t k) false (at t k h)
found (k ∷ (j ∷ ks)) t (inl e) = here (eqb t k) (among t (j ∷ ks)) (at t k e)
found (k ∷ (j ∷ ks)) t (inr h) = further (eqb t k) (among t (j ∷ ks)) (found (j ∷ ks) t h)

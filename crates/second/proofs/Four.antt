-- A list of four is its elements, one by one. Assumes nothing.
use Prim.Native.Nat.{zero, suc}
use native.Mathlib.Omega.{arith}
use Rattle.std.proofs.Common.{◌≡◌, List, [], ◌∷◌, length, slice_index_or}

pub four :
    {A : Type 0} (ys : List A) (a b c d : A) → length ys ≡ 4
    → slice_index_or ys 0 a ≡ a → slice_index_or ys 1 b ≡ b → slice_index_or ys 2 c ≡ c → slice_index_or ys 3 d ≡ d
    → ys ≡ a ∷ b ∷ c ∷ d ∷ []
four [] a b c d e p q r s = let n : zero ≡ suc (suc (suc (suc zero))) = e in absurd (omega arith)
four (w ∷ []) a b c d e p q r s = let n : suc zero ≡ suc (suc (suc (suc zero))) = e in absurd (omega arith)
four (w ∷ x ∷ []) a b c d e p q r s = let n : suc (suc zero) ≡ suc (suc (suc (suc zero))) = e in absurd (omega arith)
four (w ∷ x ∷ y ∷ []) a b c d e p q r s = let n : suc (suc (suc zero)) ≡ suc (suc (suc (suc zero))) = e in absurd (omega arith)
four (w ∷ x ∷ y ∷ z ∷ []) a b c d e p q r s = rw (p, q, r, s)
four (w ∷ x ∷ y ∷ z ∷ v ∷ ys) a b c d e p q r s = let n : suc (suc (suc (suc (suc (length ys))))) ≡ suc (suc (suc (suc zero))) = e in absurd (omega arith)

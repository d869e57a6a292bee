-- Reasoning by cases on Bools: what holds of both answers of a test holds of the answer picked, and a statement over n Bools that
-- computes to true at every assignment holds at each. Assumes nothing.
use Prim.Native.Nat.{ℕ, zero, suc, ◌<◌}
use native.Mathlib.Omega.{arith}
use mathlib.Core.Path.{◌≡◌, refl}
use mathlib.Core.Bool.{Bool, true, false, cond, ◌&&◌, ◌||◌, beq, and-eq-true_iff, false≢true, true≢false}

-- What holds of the first answer where the test passes, and of the second where it fails, holds of the answer picked.
pub pick : {A : Type 0} (P : A → Type 0) {m n : A} (t : Bool) → (t ≡ true → P m) → (t ≡ false → P n) → P (cond t m n)
pick P true p q = p refl
pick P false p q = q refl

-- An answer that is the same either way is that answer.
pub either_way : {A : Type 0} (x : A) (t : Bool) → cond t x x ≡ x
either_way x true = refl
either_way x false = refl

-- Where one of two tests would do and none does, neither holds.
pub neither : (p q : Bool) → (p || q) ≡ false → (p ≡ false) × (q ≡ false)
neither true q h = absurd (true≢false h)
neither false q h = (refl, h)

-- A statement over n Bools: it computes to true at every assignment; it holds at each.
abbrev pub Fun : ℕ → Type 0
Fun zero = Bool
Fun (suc n) = Bool → Fun n

abbrev pub All : (n : ℕ) → Fun n → Bool
All zero p = p
All (suc n) f = All n (f true) && All n (f false)

abbrev pub Holds : (n : ℕ) → Fun n → Type 0
Holds zero p = p ≡ true
Holds (suc n) f = (x : Bool) → Holds n (f x)

pub taut : (n : ℕ) (f : Fun n) → All n f ≡ true → Holds n f
taut zero p h = h
taut (suc n) f h =
    let both = (and-eq-true_iff (All n (f true)) (All n (f false))).0 h in
    elim [ true ↦ taut n (f true) both.0 | false ↦ taut n (f false) both.1 ]

-- Implication between tests, how it is shown and how it is used.
abbrev pub implies : Bool → Bool → Bool
implies true q = q
implies false q = true

pub suppose : (p q : Bool) → (p ≡ true → q ≡ true) → implies p q ≡ true
suppose true q f = f refl
suppose false q f = refl

pub apply : (p q : Bool) → implies p q ≡ true → p ≡ true → q ≡ true
apply true q h t = h
apply false q h t = absurd (false≢true t)

-- A test that computes to true at every number below n holds at each.
abbrev pub Below : ℕ → (ℕ → Bool) → Bool
Below zero f = true
Below (suc n) f = f zero && Below n (λ k. f (suc k))

pub below : (n : ℕ) (f : ℕ → Bool) → Below n f ≡ true → (k : ℕ) → k < n → f k ≡ true
below zero f h k l = absurd (omega arith)
below (suc n) f h zero l = ((and-eq-true_iff (f zero) (Below n (λ k. f (suc k)))).0 h).0
below (suc n) f h (suc k) l = below n (λ k. f (suc k)) ((and-eq-true_iff (f zero) (Below n (λ k. f (suc k)))).0 h).1 k (omega arith)

-- .. and a statement over m Bools too.
pub below_taut : (n m : ℕ) (f : ℕ → Fun m) → Below n (λ k. All m (f k)) ≡ true → (k : ℕ) → k < n → Holds m (f k)
below_taut n m f h k l = taut m (f k) (below n (λ k. All m (f k)) h k l)

-- Two tests that are equal as a test are equal.
pub same : (p q : Bool) → beq p q ≡ true → p ≡ q
same true true h = refl
same true false h = absurd (false≢true h)
same false true h = absurd (false≢true h)
same false false h = refl

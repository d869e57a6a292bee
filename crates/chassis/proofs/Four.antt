-- What is asked of a list of standings, for a list of four, place by place: each list of four is its four elements, and what is left is a statement
-- over Bools. Assumes nothing.
use Prim.Native.Nat.{ℕ, zero, suc, ◌<◌}
use native.Mathlib.Omega.{arith}
use mathlib.Core.Path.{◌≡◌, refl}
use mathlib.Core.Bool.{Bool, false, not, ◌&&◌, ◌||◌, beq, or_assoc, or-false}
use mathlib.Core.List.{List, [], ◌∷◌}
use lib.Dec.{eqb}
use lib.ListN.{length, get_or}
use borrow.Author.Tests.{ne_eqb}
use Rattle.bay.proofs.Taut.{taut, same}
use Rattle.dock.specs.declared.Standing.{Standing}
use Rattle.chassis.specs.Judge.{some, clash, faulty, neighbours}
use Rattle.chassis.proofs.Nobody.{no_neighbour}

-- Asked of the four places (`o` for one that isn't there) as of the list.
abbrev OfFour : (Standing → Standing → Standing → Standing → Bool) → (List Standing → Bool) → Type 0
OfFour f g = (o : Standing) (ss : List Standing) → length ss ≡ 4 → f (get_or ss 0 o) (get_or ss 1 o) (get_or ss 2 o) (get_or ss 3 o) ≡ g ss

of_four :
    (f : Standing → Standing → Standing → Standing → Bool) (g : List Standing → Bool)
    → ((a b c d : Standing) → f a b c d ≡ g (a ∷ b ∷ c ∷ d ∷ [])) → OfFour f g
of_four f g e o [] h = absurd (omega arith)
of_four f g e o (a ∷ []) h = absurd (omega arith)
of_four f g e o (a ∷ (b ∷ [])) h = absurd (omega arith)
of_four f g e o (a ∷ (b ∷ (c ∷ []))) h = absurd (omega arith)
of_four f g e o (a ∷ (b ∷ (c ∷ (d ∷ [])))) h = e a b c d
of_four f g e o (a ∷ (b ∷ (c ∷ (d ∷ (x ∷ ss))))) h = absurd (omega arith)

-- ---- some of the four

or_four : (a b c d : Bool) → (((a || b) || c) || d) ≡ (a || (b || (c || (d || false))))
or_four a b c d = simp (or_assoc, or-false)

pub some_four : (p : Standing → Bool) → OfFour (λ a b c d. ((p a || p b) || p c) || p d) (some p)
some_four p = of_four _ (some p) (λ a b c d. or_four (p a) (p b) (p c) (p d))

-- ---- some of the four but for one

abbrev but_one : (Standing → Bool) → ℕ → Standing → Standing → Standing → Standing → Bool
but_one p n a b c d = (((not (eqb n 0) && p a) || (not (eqb n 1) && p b)) || (not (eqb n 2) && p c)) || (not (eqb n 3) && p d)

-- A place past the fourth is none of the four.
past : (n k : ℕ) → k < 4 → eqb (suc (suc (suc (suc n)))) k ≡ false
past n k h = ne_eqb (suc (suc (suc (suc n)))) k (λ e. omega arith)

but_one_lem : (p : Standing → Bool) (n : ℕ) (a b c d : Standing) → but_one p n a b c d ≡ some p (neighbours n (a ∷ b ∷ c ∷ d ∷ []))
but_one_lem p zero a b c d = simp (or_assoc, or-false)
but_one_lem p (suc zero) a b c d = simp (or_assoc, or-false)
but_one_lem p (suc (suc zero)) a b c d = simp (or_assoc, or-false)
but_one_lem p (suc (suc (suc zero))) a b c d = simp or_assoc
but_one_lem p (suc (suc (suc (suc n)))) a b c d =
    rw (past n 0 (omega arith), past n 1 (omega arith), past n 2 (omega arith), past n 3 (omega arith), no_neighbour p n) (or_four (p a) (p b) (p c) (p d))

pub neighbours_four : (p : Standing → Bool) (n : ℕ) → OfFour (but_one p n) (λ ss. some p (neighbours n ss))
neighbours_four p n = of_four (but_one p n) (λ ss. some p (neighbours n ss)) (but_one_lem p n)

-- ---- one of the four that isn't fit, or a pair that clashes

-- As the code asks, and as the rule does, of what is known of the four and of their six pairs.
abbrev asked : Bool → Bool → Bool → Bool → Bool → Bool → Bool → Bool → Bool → Bool → Bool
asked a b c d ab ac ad bc bd cd = (not (((a && b) && c) && d) || ((ab || ac) || ad)) || ((bc || bd) || cd)

abbrev ruled : Bool → Bool → Bool → Bool → Bool → Bool → Bool → Bool → Bool → Bool → Bool
ruled a b c d ab ac ad bc bd cd =
    not a || ((ab || (ac || (ad || false))) || (not b || ((bc || (bd || false)) || (not c || ((cd || false) || (not d || (false || false)))))))

asked_as_ruled : (a b c d ab ac ad bc bd cd : Bool) → asked a b c d ab ac ad bc bd cd ≡ ruled a b c d ab ac ad bc bd cd
asked_as_ruled a b c d ab ac ad bc bd cd =
    same _ _
    (taut 10 (λ a b c d ab ac ad bc bd cd. beq (asked a b c d ab ac ad bc bd cd) (ruled a b c d ab ac ad bc bd cd)) refl a b c d ab ac ad bc bd cd)

abbrev wrong : Standing → Standing → Standing → Standing → Bool
wrong a b c d = asked a.fit b.fit c.fit d.fit (clash a b) (clash a c) (clash a d) (clash b c) (clash b d) (clash c d)

pub faulty_four : OfFour wrong faulty
unfolding faulty
faulty_four =
    of_four wrong faulty
    (λ a b c d. asked_as_ruled a.fit b.fit c.fit d.fit (clash a b) (clash a c) (clash a d) (clash b c) (clash b d) (clash c d))

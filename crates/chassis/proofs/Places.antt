-- What the tests of specs/Judge.antt say over the places of a list: some element passes a test, some neighbour does, a list is faulty. By induction
-- along the list. Assumes nothing.
use Prim.Native.Nat.{ℕ, zero, suc, ◌<◌}
use native.Mathlib.Omega.{arith}
use mathlib.Core.Path.{◌≡◌, refl, sym, ap, ◌∙◌}
use mathlib.Core.Logic.{◌≢◌, ◌⊎◌, inl, inr, ⊎_elim}
use mathlib.Core.Bool.{Bool, true, false, not, ◌&&◌, ◌||◌, false≢true, true≢false}
use mathlib.Core.List.{List, [], ◌∷◌, ◌++◌}
use lib.Dec.{eqb, ltb}
use lib.ListN.{length, get_or, take, drop}
use borrow.Author.Tests.{eqb-true, eqb-false, ltb-true, ltb-false}
use Rattle.dock.specs.declared.Standing.{Standing}
use Rattle.chassis.specs.Judge.{some, clash, faulty, nobody}
use Rattle.chassis.specs.Refusals.{Clash}

-- A test tells whether something holds.
pub record Says (t : Bool) (C : Type 0) : Type 0 where
  pub yes : t ≡ true → C
  pub no : t ≡ false → C → ⊥

-- ---- tests of tests

pub says_iff : {t : Bool} {A B : Type 0} → (A → B) → (B → A) → Says t A → Says t B
says_iff f g s = record { yes = λ e. f (s.yes e); no = λ e b. s.no e (g b) }

pub says_or : (t u : Bool) {A B : Type 0} → Says t A → Says u B → Says (t || u) (A ⊎ B)
says_or true u s z = record { yes = λ e. inl (s.yes refl); no = λ e. absurd (true≢false e) }
says_or false u s z = record { yes = λ e. inr (z.yes e); no = λ e. ⊎_elim (s.no refl) (z.no e) }

pub says_and : (t u : Bool) {A B : Type 0} → Says t A → Says u B → Says (t && u) (A × B)
says_and true u s z = record { yes = λ e. (s.yes refl, z.yes e); no = λ e p. z.no e p.1 }
says_and false u s z = record { yes = λ e. absurd (false≢true e); no = λ e p. s.no refl p.0 }

pub says_not : (t : Bool) {A : Type 0} → Says t A → Says (not t) (A → ⊥)
says_not true s = record { yes = λ e. absurd (false≢true e); no = λ e f. f (s.yes refl) }
says_not false s = record { yes = λ e. s.no refl; no = λ e. absurd (true≢false e) }

pub says_true : (t : Bool) → Says t (t ≡ true)
says_true t = record { yes = λ e. e; no = λ e f. true≢false (sym f ∙ e) }

pub says_false : (t : Bool) → Says (not t) (t ≡ false)
says_false true = record { yes = λ e. absurd (false≢true e); no = λ e f. true≢false f }
says_false false = record { yes = λ e. refl; no = λ e f. true≢false e }

pub says_eqb : (a b : ℕ) → Says (eqb a b) (a ≡ b)
says_eqb a b = record { yes = eqb-true a b; no = eqb-false a b }

pub says_ltb : (a b : ℕ) → Says (ltb a b) (a < b)
says_ltb a b = record { yes = ltb-true a b; no = λ e l. omega (arith, ltb-false a b e) }

-- A test that is known, and one that never passes.
pub says_known : {C : Type 0} → C → Says true C
says_known c = record { yes = λ e. c; no = λ e. absurd (true≢false e) }

pub says_never : {C : Type 0} → (C → ⊥) → Says false C
says_never f = record { yes = λ e. absurd (false≢true e); no = λ e. f }

-- Back from what it tells.
pub is_true : (t : Bool) {C : Type 0} → Says t C → C → t ≡ true
is_true true s c = refl
is_true false s c = absurd (s.no refl c)

pub is_false : (t : Bool) {C : Type 0} → Says t C → (C → ⊥) → t ≡ false
is_false true s f = absurd (f (s.yes refl))
is_false false s f = refl

-- ---- some element

abbrev pub SomeAt : {A : Type 0} → (A → Bool) → List A → A → Type 0
SomeAt p xs d = (i : ℕ) × (i < length xs) × (p (get_or xs i d) ≡ true)

pub some_says : {A : Type 0} (p : A → Bool) (xs : List A) (d : A) → Says (some p xs) (SomeAt p xs d)
some_says p [] d = says_never (λ h. omega (arith, h.1))
some_says p (x ∷ xs) d = says_iff to from (says_or (p x) (some p xs) (says_true (p x)) (some_says p xs d))
  where
    to : (p x ≡ true) ⊎ SomeAt p xs d → SomeAt p (x ∷ xs) d
    to (inl e) = (0, omega arith, e)
    to (inr (i, l, e)) = (suc i, omega arith, e)

    from : SomeAt p (x ∷ xs) d → (p x ≡ true) ⊎ SomeAt p xs d
    from (zero, l, e) = inl e
    from (suc i, l, e) = inr (i, omega arith, e)

-- Some but the one at a place.
abbrev pub SomeElse : {A : Type 0} → (A → Bool) → ℕ → List A → A → Type 0
SomeElse p n xs d = (i : ℕ) × (i < length xs) × (i ≢ n) × (p (get_or xs i d) ≡ true)

pub else_says : {A : Type 0} (p : A → Bool) (n : ℕ) (xs : List A) (d : A) → Says (some p (take n xs ++ drop (suc n) xs)) (SomeElse p n xs d)
else_says p zero [] d = says_never (λ h. omega (arith, h.1))
else_says p (suc n) [] d = says_never (λ h. omega (arith, h.1))
else_says p zero (x ∷ xs) d = says_iff to from (some_says p xs d)
  where
    to : SomeAt p xs d → SomeElse p 0 (x ∷ xs) d
    to (i, l, e) = (suc i, omega arith, λ z. omega (arith, z), e)

    from : SomeElse p 0 (x ∷ xs) d → SomeAt p xs d
    from (zero, l, z, e) = absurd (z refl)
    from (suc i, l, z, e) = (i, omega arith, e)
else_says p (suc n) (x ∷ xs) d = says_iff to from (says_or (p x) _ (says_true (p x)) (else_says p n xs d))
  where
    to : (p x ≡ true) ⊎ SomeElse p n xs d → SomeElse p (suc n) (x ∷ xs) d
    to (inl e) = (0, omega arith, λ z. omega (arith, z), e)
    to (inr (i, l, z, e)) = (suc i, omega arith, λ y. z (omega (arith, y)), e)

    from : SomeElse p (suc n) (x ∷ xs) d → (p x ≡ true) ⊎ SomeElse p n xs d
    from (zero, l, z, e) = inl e
    from (suc i, l, z, e) = inr (i, omega arith, λ y. z (ap suc y), e)

-- ---- a list that is faulty

pub clash_says : (a b : Standing) → Says (clash a b) (Clash a b)
clash_says a b =
    says_iff (λ h. record { first = h.0; second = h.1.0; shared = h.1.1 }) (λ c. (c.first, (c.second, c.shared)))
    (says_and a.started _ (says_true a.started)
    (says_and b.started _ (says_true b.started)
    (says_or (eqb a.address b.address) _ (says_eqb a.address b.address)
    (says_and a.reading b.reading (says_true a.reading) (says_true b.reading)))))

pub clash_turned : {a b : Standing} → Clash a b → Clash b a
clash_turned c = record { first = c.second; second = c.first; shared = ⊎_elim (λ e. inl (sym e)) (λ r. inr (r.1, r.0)) c.shared }

abbrev pub SomeUnfit : List Standing → Type 0
SomeUnfit ss = (i : ℕ) × (i < length ss) × ((get_or ss i nobody).fit ≡ false)

abbrev pub TwoClash : List Standing → Type 0
TwoClash ss = (i : ℕ) × (j : ℕ) × (i < length ss) × (j < length ss) × (i ≢ j) × Clash (get_or ss i nobody) (get_or ss j nobody)

pub faulty_says : (ss : List Standing) → Says (faulty ss) (SomeUnfit ss ⊎ TwoClash ss)
unfolding faulty
faulty_says [] = says_never (⊎_elim (λ h. omega (arith, h.1)) (λ h. omega (arith, h.2)))
faulty_says (x ∷ xs) =
    says_iff to from
    (says_or (not x.fit) _ (says_false x.fit) (says_or (some (clash x) xs) (faulty xs) (some_says (clash x) xs nobody) (faulty_says xs)))
  where
    to : (x.fit ≡ false) ⊎ (SomeAt (clash x) xs nobody ⊎ (SomeUnfit xs ⊎ TwoClash xs)) → SomeUnfit (x ∷ xs) ⊎ TwoClash (x ∷ xs)
    to (inl e) = inl (0, omega arith, e)
    to (inr (inl (j, l, e))) = inr (0, suc j, omega arith, omega arith, λ z. omega (arith, z), (clash_says x (get_or xs j nobody)).yes e)
    to (inr (inr (inl (i, l, e)))) = inl (suc i, omega arith, e)
    to (inr (inr (inr (i, j, l, m, z, c)))) = inr (suc i, suc j, omega arith, omega arith, λ y. z (omega (arith, y)), c)

    passes : (j : ℕ) → j < length xs → Clash x (get_or xs j nobody) → SomeAt (clash x) xs nobody
    passes j l c = (j, l, is_true _ (clash_says x (get_or xs j nobody)) c)

    from : SomeUnfit (x ∷ xs) ⊎ TwoClash (x ∷ xs) → (x.fit ≡ false) ⊎ (SomeAt (clash x) xs nobody ⊎ (SomeUnfit xs ⊎ TwoClash xs))
    from (inl (zero, l, e)) = inl e
    from (inl (suc i, l, e)) = inr (inr (inl (i, omega arith, e)))
    from (inr (zero, zero, l, m, z, c)) = absurd (z refl)
    from (inr (zero, suc j, l, m, z, c)) = inr (inl (passes j (omega arith) c))
    from (inr (suc i, zero, l, m, z, c)) = inr (inl (passes i (omega arith) (clash_turned c)))
    from (inr (suc i, suc j, l, m, z, c)) = inr (inr (inr (i, j, omega arith, omega arith, λ y. z (ap suc y), c)))

-- In one that isn't, each is fit, and no two clash.
pub fit_in_lem : (ss : List Standing) → faulty ss ≡ false → (i : ℕ) → i < length ss → (get_or ss i nobody).fit ≡ true
fit_in_lem ss f i l = go (get_or ss i nobody).fit refl
  where
    go : (t : Bool) → (get_or ss i nobody).fit ≡ t → t ≡ true
    go true e = refl
    go false e = absurd ((faulty_says ss).no f (inl (i, l, e)))

pub apart_in :
    (ss : List Standing) → faulty ss ≡ false → (i j : ℕ) → i < length ss → j < length ss → i ≢ j → Clash (get_or ss i nobody) (get_or ss j nobody) → ⊥
apart_in ss f i j l m d c = (faulty_says ss).no f (inr (i, j, l, m, d, c))

-- The debounce promise holds for every length above 0: of an input alone, and of whatever follows one. By induction on what the input
-- sees, with the count as the number of ticks so far. Assumes nothing.
use Prim.Native.Nat.{ℕ, suc, ◌+◌, ◌<◌}
use native.Mathlib.Omega.{arith}
use mathlib.Core.Path.{◌≡◌, refl, ap, ◌∙◌}
use mathlib.Core.Logic.{◌≢◌, ◌⊎◌, inl, inr}
use mathlib.Core.Bool.{Bool, true, false, not, and-eq-true_iff}
use mathlib.Core.List.{List, [], ◌∷◌, ◌++◌}
use lib.Dec.{ltb}
use borrow.Author.Tests.{ltb-true, ltb-false}
use Rattle.bay.specs.Debounce.{differs}
use Rattle.bay.specs.Debounced.{Line, rest_line, differing, Seen, Tick, Sample, sees, sees_all, ticks_in, apart, Stretch, Debounced}
use Rattle.bay.proofs.OneStep.{counts_on, restarts, comes_back, goes_away, agrees, leaves_rest, rests, rises, settles_now}

-- What it sees one after the other.
pub sees_more : (length : ℕ) (xs ys : List Seen) (i : Line) → sees_all length (xs ++ ys) i ≡ sees_all length ys (sees_all length xs i)
unfolding sees_all
sees_more length [] ys i = refl
sees_more length (x ∷ xs) ys i = sees_more length xs ys (sees length x i)

-- A sample is one of the two levels.
one_of : (a l : Bool) → (l ≡ a) ⊎ ((l ≡ not a) × (differs l a ≡ true))
one_of true true = inl refl
one_of true false = inr (refl, refl)
one_of false true = inr (refl, refl)
one_of false false = inl refl

module _ (length : ℕ) where
  -- ---- a level that differs

  counts_up :
      (a : Bool) (xs : List Seen) (n : ℕ) → apart a xs ≡ true → n + ticks_in xs < length
      → sees_all length xs (differing a n) ≡ differing a (n + ticks_in xs)
  unfolding sees_all
  counts_up a [] n p h = ap (differing a) (omega arith)
  counts_up a (Tick ∷ xs) n p h =
      let further : suc n + ticks_in xs ≡ n + suc (ticks_in xs) = omega arith in
      rw (rises length a n (omega arith)) (counts_up a xs (suc n) p (omega arith) ∙ ap (differing a) further)
  counts_up a (Sample l ∷ xs) n p h =
      let both = (and-eq-true_iff (differs l a) (apart a xs)).0 p in rw (goes_away length a l n both.0) (counts_up a xs n both.1 h)

  -- What is apart from one level agrees with the other, and leaves an input at rest there.
  stays_at_rest : (a : Bool) (xs : List Seen) → apart a xs ≡ true → sees_all length xs (rest_line (not a)) ≡ rest_line (not a)
  unfolding sees_all
  stays_at_rest a [] p = refl
  stays_at_rest a (Tick ∷ xs) p = rw (rests length (not a)) (stays_at_rest a xs p)
  stays_at_rest a (Sample l ∷ xs) p =
      let both = (and-eq-true_iff (differs l a) (apart a xs)).0 p in rw (agrees length a l both.0) (stays_at_rest a xs both.1)

  rests_on : (a : Bool) (xs : List Seen) → apart (not a) xs ≡ true → sees_all length xs (rest_line a) ≡ rest_line a
  rests_on true xs p = stays_at_rest false xs p
  rests_on false xs p = stays_at_rest true xs p

  settles_last :
      (a : Bool) (xs : List Seen) (n : ℕ) → n < length → apart a xs ≡ true → n + ticks_in xs ≡ length
      → sees_all length xs (differing a n) ≡ rest_line (not a)
  unfolding sees_all
  settles_last a [] n l p h = absurd (omega arith)
  settles_last a (Tick ∷ xs) n l p h = go (λ more. settles_last a xs (suc n) more p (omega arith)) (ltb (suc n) length) refl
    where
      go :
          (suc n < length → sees_all length xs (differing a (suc n)) ≡ rest_line (not a)) → (t : Bool) → ltb (suc n) length ≡ t
          → sees_all length xs (sees length Tick (differing a n)) ≡ rest_line (not a)
      go on true e = let more = ltb-true (suc n) length e in rw (rises length a n more) (on more)
      go on false e = rw (settles_now length a n (omega (arith, ltb-false (suc n) length e))) (stays_at_rest a xs p)
  settles_last a (Sample l ∷ xs) n m p h =
      let both = (and-eq-true_iff (differs l a) (apart a xs)).0 p in rw (goes_away length a l n both.0) (settles_last a xs n m both.1 h)

  -- ---- only over a full length

  -- One thing more in front of a stretch.
  later : (a : Bool) (x : Seen) {xs : List Seen} → Stretch length a xs → Stretch length a (x ∷ xs)
  later a x s =
      record { before = x ∷ s.before; within = s.within; after = s.after; split = ap (λ t. x ∷ t) s.split; none_back = s.none_back; whole = s.whole }

  -- What is left of a stretch through which n ticks have been counted.
  record Left (a : Bool) (n : ℕ) (xs : List Seen) : Type 0 where
    within : List Seen
    after : List Seen
    split : xs ≡ within ++ after
    none_back : apart a within ≡ true
    whole : n + ticks_in within ≡ length

  left_tick : (a : Bool) (n : ℕ) {xs : List Seen} → Left a (suc n) xs → Left a n (Tick ∷ xs)
  left_tick a n s =
      record { within = Tick ∷ s.within; after = s.after; split = ap (λ t. Tick ∷ t) s.split; none_back = s.none_back; whole = omega (arith, s.whole) }

  left_sample : (a l : Bool) (n : ℕ) {xs : List Seen} → differs l a ≡ true → Left a n xs → Left a n (Sample l ∷ xs)
  left_sample a l n d s =
      record {
        within = Sample l ∷ s.within;
        after = s.after;
        split = ap (λ t. Sample l ∷ t) s.split;
        none_back = (and-eq-true_iff (differs l a) (apart a s.within)).1 (d, s.none_back);
        whole = s.whole;
      }

  -- A stretch is what is left of it where nothing is counted yet.
  begun_here : (a : Bool) {xs : List Seen} → Left a 0 xs → Stretch length a (Sample (not a) ∷ xs)
  begun_here a s =
      record { before = []; within = s.within; after = s.after; split = ap (λ t. Sample (not a) ∷ t) s.split; none_back = s.none_back; whole = omega (arith, s.whole) }

  -- So an input that comes to accept another level than a saw a stretch, or had begun with one.
  record Needs (a : Bool) (xs : List Seen) : Type 0 where
    from_rest : (sees_all length xs (rest_line a)).accepted ≢ a → Stretch length a xs
    begun : (n : ℕ) → n < length → (sees_all length xs (differing a n)).accepted ≢ a → Left a n xs ⊎ Stretch length a xs

  needs_tick : (a : Bool) (xs : List Seen) → Needs a xs → Needs a (Tick ∷ xs)
  unfolding sees_all
  needs_tick a xs more =
      record {
        from_rest = λ other. later a Tick (more.from_rest (λ e. other (rw (sees_all, rests length a) e)));
        begun = λ n h other. go n h other (ltb (suc n) length) refl;
      }
    where
      on : (n : ℕ) → Left a (suc n) xs ⊎ Stretch length a xs → Left a n (Tick ∷ xs) ⊎ Stretch length a (Tick ∷ xs)
      on n (inl s) = inl (left_tick a n s)
      on n (inr s) = inr (later a Tick s)

      go :
          (n : ℕ) → n < length → (sees_all length xs (sees length Tick (differing a n))).accepted ≢ a → (t : Bool) → ltb (suc n) length ≡ t
          → Left a n (Tick ∷ xs) ⊎ Stretch length a (Tick ∷ xs)
      go n h other true e =
          let next = ltb-true (suc n) length e in on n (more.begun (suc n) next (λ q. other (rw (rises length a n next) q)))
      go n h other false e =
          inl (record { within = Tick ∷ []; after = xs; split = refl; none_back = refl; whole = omega (arith, ltb-false (suc n) length e) })

  needs_sample : 0 < length → (a l : Bool) (xs : List Seen) → Needs a xs → Needs a (Sample l ∷ xs)
  unfolding sees_all
  needs_sample p a l xs more = go (one_of a l)
    where
      first : Left a 0 xs ⊎ Stretch length a xs → Stretch length a (Sample (not a) ∷ xs)
      first (inl s) = begun_here a s
      first (inr s) = later a (Sample (not a)) s

      on : (n : ℕ) → differs l a ≡ true → Left a n xs ⊎ Stretch length a xs → Left a n (Sample l ∷ xs) ⊎ Stretch length a (Sample l ∷ xs)
      on n d (inl s) = inl (left_sample a l n d s)
      on n d (inr s) = inr (later a (Sample l) s)

      go : (l ≡ a) ⊎ ((l ≡ not a) × (differs l a ≡ true)) → Needs a (Sample l ∷ xs)
      go (inl e) =
          record {
            from_rest = λ other. later a (Sample l) (more.from_rest (λ q. other (rw (sees_all, e, comes_back length (rest_line a)) q)));
            begun = λ n h other. inr (later a (Sample l) (more.from_rest (λ q. other (rw (sees_all, e, comes_back length (differing a n)) q))));
          }
      go (inr e) =
          record {
            from_rest = λ other. rw e.0 (first (more.begun 0 p (λ q. other (rw (sees_all, e.0, leaves_rest length a) q))));
            begun = λ n h other. on n e.1 (more.begun n h (λ q. other (rw (sees_all, goes_away length a l n e.1) q)));
          }

  needs : 0 < length → (a : Bool) (xs : List Seen) → Needs a xs
  unfolding sees_all
  needs p a [] = record { from_rest = λ other. absurd (other refl); begun = λ n h other. absurd (other refl) }
  needs p a (Tick ∷ xs) = needs_tick a xs (needs p a xs)
  needs p a (Sample l ∷ xs) = needs_sample p a l xs (needs p a xs)

  -- ---- the count

  sees_below : 0 < length → (x : Seen) (i : Line) → i.count < length → (sees length x i).count < length
  unfolding sees
  sees_below p Tick i h = counts_on length i.level i.accepted i.count p h
  sees_below p (Sample l) i h = restarts length l i.accepted i.count h

  stays_below : 0 < length → (xs : List Seen) (i : Line) → i.count < length → (sees_all length xs i).count < length
  unfolding sees_all
  stays_below p [] i h = h
  stays_below p (x ∷ xs) i h = stays_below p xs (sees length x i) (sees_below p x i h)

  -- ---- the promise

  -- Whatever goes as an input goes is debounced as one.
  pub debounced_as :
      0 < length → {Event : Type 0} (seen : List Event → List Seen) (run : List Event → Line)
      → ((xs : List Event) → run xs ≡ sees_all length (seen xs) (run [])) → Debounced length seen run
  unfolding sees_all
  debounced_as p {Event} seen run goes =
      record {
        at_rest = λ a xs s q. goes xs ∙ rw s (rests_on a (seen xs) q);
        begins = λ a xs s e. goes xs ∙ rw (s, e) (leaves_rest length a);
        not_before = λ a n xs s q h. goes xs ∙ rw s (counts_up a (seen xs) n q h);
        in_the_last = λ a n xs s l q h. goes xs ∙ rw s (settles_last a (seen xs) n l q h);
        returned =
            λ a n xs ys s e q h.
            goes xs ∙ rw (s, e, sees_more length ys (Sample a ∷ []) (differing a n), counts_up a ys n q h)
            (comes_back length (differing a (n + ticks_in ys)));
        needs_its_own = λ a xs s other. (needs p a (seen xs)).from_rest (λ q. other (ap (λ (i : Line). i.accepted) (goes xs) ∙ rw s q));
        below = λ xs h. rw (goes xs) (stays_below p (seen xs) (run []) h);
      }

-- The input alone.
pub input_debounced : (length : ℕ) → 0 < length → (i : Line) → Debounced length (λ xs. xs) (λ xs. sees_all length xs i)
unfolding sees_all
input_debounced length p i = debounced_as length p (λ xs. xs) (λ xs. sees_all length xs i) (λ xs. refl)

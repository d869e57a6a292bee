-- Which batch is refused with which number, and what its answer says of its state and its buffer: an accepted one had room for its
-- records, and a refused one left both as they came. Assumes nothing.
use Prim.Native.Nat.{ℕ, ◌*◌, ◌<◌, ◌≤◌}
use native.Mathlib.Omega.{arith}
use mathlib.Core.Path.{◌≡◌, refl, sym, ◌∙◌}
use mathlib.Core.Logic.{◌↔◌, ◌≢◌}
use mathlib.Core.Bool.{Bool, true, false, cond, true≢false, false≢true}
use mathlib.Core.List.{List}
use lib.Dec.{ltb}
use borrow.Author.Tests.{ltb-true, ltb-false}
use Rattle.machine.specs.Record.{fits}
use Rattle.dock.specs.declared.Controller.{Controller}
use Rattle.batch.specs.Batch.{outcome_of, state_by, buffer_by}
use Rattle.calls.specs.Numbers.{Outcome, outcome_refusal, outcome_count}
use Rattle.calls.specs.declared.Refusal.{Refusal}
use Rattle.calls.specs.declared.Refusal.TheVariants.{TooFewPlaces, TooMany, Unfit}
use Rattle.std.specs.Prelude.{Err, Ok}

not_done : {n : ℕ} {why : Refusal} → ◌≡◌ {A = Outcome} (Err why) (Ok n) → ⊥
not_done e = let z : ◌≡◌ {A = ℕ} 0 1 = cc in omega arith

-- Its state was fit, it had room for a record a word, and it counts its words.
pub has_room : (s : Controller) (words bytes n : ℕ) → outcome_of s words bytes ≡ Ok n → (fits s.machine ≡ true) × (4 * words ≤ bytes) × (n ≡ words)
unfolding outcome_of
has_room s words bytes n e = go (fits s.machine) (ltb 16384 words) (ltb bytes (4 * words)) refl refl e
  where
    go :
        (f m b : Bool) → fits s.machine ≡ f → ltb bytes (4 * words) ≡ b
        → cond f (cond m (Err TooMany) (cond b (Err TooFewPlaces) (Ok words))) (Err Unfit) ≡ Ok n
        → (fits s.machine ≡ true) × (4 * words ≤ bytes) × (n ≡ words)
    go true true b p t e = absurd (not_done e)
    go true false true p t e = absurd (not_done e)
    go true false false p t e = (p, ltb-false bytes (4 * words) t, cc)
    go false m b p t e = absurd (not_done e)

pub as_it_came :
    (o : Outcome) → ((n : ℕ) → o ≡ Ok n → ⊥) → (s : Controller) (ws buffer : List ℕ)
    → (state_by o s ws ≡ s) × (buffer_by o s ws buffer ≡ buffer)
as_it_came (Ok n) h s ws buffer = absurd (h n refl)
as_it_came (Err why) h s ws buffer = (refl, refl)

-- ---- each refusal exactly when the table says, in their order: 1, 5, 4

pub record Exactly (s : Controller) (words bytes n : ℕ) : Type 0 where
  -- 1: the state isn't fit.
  pub one : (n ≡ 1) ↔ (fits s.machine ≡ false)
  -- 5: over 16,384 words.
  pub five : (n ≡ 5) ↔ ((fits s.machine ≡ true) × (16384 < words))
  -- 4: fewer than 4 answer bytes per word.
  pub four : (n ≡ 4) ↔ ((fits s.machine ≡ true) × (words ≤ 16384) × (bytes < 4 * words))
  -- 0: none of these.
  pub none : (n ≡ 0) ↔ ((fits s.machine ≡ true) × (words ≤ 16384) × (4 * words ≤ bytes))

pub exactly : (s : Controller) (words bytes : ℕ) → Exactly s words bytes (outcome_refusal (outcome_of s words bytes))
unfolding outcome_of
exactly s words bytes = go (fits s.machine) refl (ltb 16384 words) refl (ltb bytes (4 * words)) refl
  where
    go :
        (f : Bool) → fits s.machine ≡ f → (m : Bool) → ltb 16384 words ≡ m → (b : Bool) → ltb bytes (4 * words) ≡ b
        → Exactly s words bytes (outcome_refusal (cond f (cond m (Err TooMany) (cond b (Err TooFewPlaces) (Ok words))) (Err Unfit)))
    go false f m p b q =
        record {
          one = (λ n. f, λ h. refl);
          five = (λ n. absurd (omega (arith, n)), λ h. absurd (false≢true (sym f ∙ h.0)));
          four = (λ n. absurd (omega (arith, n)), λ h. absurd (false≢true (sym f ∙ h.0)));
          none = (λ n. absurd (omega (arith, n)), λ h. absurd (false≢true (sym f ∙ h.0)));
        }
    go true f true p b q =
        let many = ltb-true 16384 words p in
        record {
          one = (λ n. absurd (omega (arith, n)), λ h. absurd (true≢false (sym f ∙ h)));
          five = (λ n. (f, many), λ h. refl);
          four = (λ n. absurd (omega (arith, n)), λ h. absurd (omega (arith, many, h.1)));
          none = (λ n. absurd (omega (arith, n)), λ h. absurd (omega (arith, many, h.1)));
        }
    go true f false p true q =
        let few = ltb-false 16384 words p in
        let short = ltb-true bytes (4 * words) q in
        record {
          one = (λ n. absurd (omega (arith, n)), λ h. absurd (true≢false (sym f ∙ h)));
          five = (λ n. absurd (omega (arith, n)), λ h. absurd (omega (arith, few, h.1)));
          four = (λ n. (f, few, short), λ h. refl);
          none = (λ n. absurd (omega (arith, n)), λ h. absurd (omega (arith, short, h.2)));
        }
    go true f false p false q =
        let few = ltb-false 16384 words p in
        let room = ltb-false bytes (4 * words) q in
        record {
          one = (λ n. absurd (omega (arith, n)), λ h. absurd (true≢false (sym f ∙ h)));
          five = (λ n. absurd (omega (arith, n)), λ h. absurd (omega (arith, few, h.1)));
          four = (λ n. absurd (omega (arith, n)), λ h. absurd (omega (arith, room, h.2)));
          none = (λ n. (f, few, room), λ h. refl);
        }

-- A refused batch leaves the state and the buffer as they came, and counts 0.
pub record Untouched (o : Outcome) (s : Controller) (ws buffer : List ℕ) : Type 0 where
  pub state : state_by o s ws ≡ s
  pub bytes : buffer_by o s ws buffer ≡ buffer
  pub count : outcome_count o ≡ 0

pub refused_untouched : (o : Outcome) (s : Controller) (ws buffer : List ℕ) → outcome_refusal o ≢ 0 → Untouched o s ws buffer
refused_untouched (Ok n) s ws buffer h = absurd (h refl)
refused_untouched (Err why) s ws buffer h = record { state = refl; bytes = refl; count = refl }

-- One step of an input: at rest, or with a level that differs from the accepted one. By cases on the two levels. Assumes nothing.
use Prim.Native.Nat.{ℕ, suc, ◌<◌, ◌≤◌}
use native.Mathlib.Omega.{arith}
use native.Mathlib.Numerals.{add-one}
use mathlib.Core.Path.{◌≡◌, refl}
use mathlib.Core.Bool.{Bool, true, false, not, beq, true≢false, false≢true}
use borrow.Author.Tests.{leb-true, leb-false, not-true}
use Rattle.bay.specs.Debounce.{differs, settles, debounce, restart}
use Rattle.bay.specs.Debounced.{Line, rest_line, differing, Tick, Sample, sees}
use Rattle.bay.specs.declared.Input.{Input}
use Rattle.bay.proofs.Taut.{pick}

-- ---- a sample

-- PINS sets the count of an input to 0 where its level is the accepted one, and else leaves it.
pub restart_same : (l a : Bool) (n : ℕ) → l ≡ a → restart l a n ≡ 0
unfolding restart
restart_same true true n e = refl
restart_same true false n e = absurd (true≢false e)
restart_same false true n e = absurd (false≢true e)
restart_same false false n e = refl

pub restart_other : (l a : Bool) (n : ℕ) → differs l a ≡ true → restart l a n ≡ n
unfolding restart
restart_other l a n d = rw (not-true (beq l a) d)

-- ---- a TICK

-- An input with this accepted level and this count, at which no level was accepted.
abbrev pub counting : Bool → ℕ → Input
counting accepted n = record { accepted = accepted; count = n; settled = false }

-- Where the level is the accepted one nothing changes.
pub steady_input : (length : ℕ) (l a : Bool) (n : ℕ) → beq l a ≡ true → debounce length l a n ≡ counting a n
unfolding debounce
steady_input length l a n e = rw e

-- A level that differs settles exactly where this TICK fills the length.
module _ (length : ℕ) (l a : Bool) (n : ℕ) (d : differs l a ≡ true) where
  fills : length ≤ suc n → settles length l a n ≡ true
  fills h = go (settles length l a n) refl
    where
      go : (t : Bool) → settles length l a n ≡ t → t ≡ true
      go true e = refl
      go false e = let short = rw d at e in absurd (omega (arith, leb-false))

  falls_short : suc n < length → settles length l a n ≡ false
  falls_short h = go (settles length l a n) refl
    where
      go : (t : Bool) → settles length l a n ≡ t → t ≡ false
      go true e = let full = rw d at e in absurd (omega (arith, leb-true))
      go false e = refl

-- A count stays below the length, whatever its input does.
pub counts_on : (length : ℕ) (l a : Bool) (n : ℕ) → 0 < length → n < length → (debounce length l a n).count < length
unfolding debounce
counts_on length l a n p h =
    pick (λ k. k < length) (settles length l a n) (λ _. p)
    (λ s. pick (λ k. k < length) (differs l a) (λ d. let short = rw d at s in omega (arith, leb-false)) (λ _. h))

pub restarts : (length : ℕ) (l a : Bool) (n : ℕ) → n < length → restart l a n < length
unfolding restart
restarts length l a n h = pick (λ k. k < length) (beq l a) (λ _. omega arith) (λ _. h)

-- ---- an input as it stands

module _ (length : ℕ) where
  -- A sample that agrees with the accepted level brings it to rest ..
  pub comes_back : (i : Line) → sees length (Sample i.accepted) i ≡ rest_line i.accepted
  unfolding sees
  comes_back i = rw (restart_same i.accepted i.accepted i.count refl)

  -- .. and another leaves its count.
  pub goes_away : (a l : Bool) (n : ℕ) → differs l a ≡ true → sees length (Sample l) (differing a n) ≡ differing a n
  unfolding sees restart
  goes_away true true n d = absurd (false≢true d)
  goes_away true false n d = refl
  goes_away false true n d = refl
  goes_away false false n d = absurd (false≢true d)

  -- At rest a sample of the level changes nothing ..
  pub agrees : (a l : Bool) → differs l a ≡ true → sees length (Sample l) (rest_line (not a)) ≡ rest_line (not a)
  unfolding sees restart
  agrees true true d = absurd (false≢true d)
  agrees true false d = refl
  agrees false true d = refl
  agrees false false d = absurd (false≢true d)

  -- .. and one of the other level is the first that differs.
  pub leaves_rest : (a : Bool) → sees length (Sample (not a)) (rest_line a) ≡ differing a 0
  unfolding sees restart
  leaves_rest true = refl
  leaves_rest false = refl

  -- A TICK leaves an input at rest ..
  pub rests : (a : Bool) → sees length Tick (rest_line a) ≡ rest_line a
  unfolding sees debounce
  rests true = refl
  rests false = refl

  -- .. counts one whose level differs ..
  pub rises : (a : Bool) (n : ℕ) → suc n < length → sees length Tick (differing a n) ≡ differing a (suc n)
  unfolding sees debounce
  rises true n h = rw (falls_short length false true n refl h, add-one n)
  rises false n h = rw (falls_short length true false n refl h, add-one n)

  -- .. and at the length accepts the level.
  pub settles_now : (a : Bool) (n : ℕ) → suc n ≡ length → sees length Tick (differing a n) ≡ rest_line (not a)
  unfolding sees debounce
  settles_now true n h = rw (fills length false true n refl (omega arith))
  settles_now false n h = rw (fills length true false n refl (omega arith))

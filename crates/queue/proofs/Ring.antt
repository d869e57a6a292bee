-- The words waiting in a ring of 128 places, when one is put behind them and when the oldest is taken: each step along the ring is one place
-- further, and a place comes again only after 128 of them. Assumes nothing.
use Prim.Native.Nat.{ℕ, zero, suc, ◌+◌, ◌-◌, ◌%◌, ◌<◌}
use native.Mathlib.Omega.{arith}
use mathlib.Core.Path.{◌≡◌, refl, sym, ap, ◌∙◌}
use mathlib.Core.Logic.{◌≢◌}
use mathlib.Core.Bool.{Bool, true, false, cond}
use mathlib.Core.List.{List, [], ◌∷◌, ◌++◌}
use lib.Dec.{eqb}
use lib.ListN.{length, get_or, set}
use lib.Seq.{get_or-set_same, get_or-set_other}
use borrow.Author.Tests.{eqb-true, eqb-false}
use Rattle.queue.specs.Record.{words_from}
use Rattle.queue.specs.Turns.{place}

-- ---- places

round : (at m : ℕ) → place at (suc m) ≡ place ((at + 1) % 128) m
round at m = omega arith

elsewhere : (at m : ℕ) → at < 128 → suc m < 128 → at ≢ place at (suc m)
elsewhere at m l b e = omega (arith, l, b, e)

here : (at : ℕ) → at < 128 → place at 0 ≡ at
here at l = omega (arith, l)

pub within : (at n : ℕ) → place at n < 128
within at n = omega arith

-- After place 127 comes place 0.
pub after_last : (at : ℕ) → at < 128 → place at 1 ≡ cond (eqb at 127) 0 (at + 1)
after_last at l = go (eqb at 127) refl
  where
    go : (last : Bool) → eqb at 127 ≡ last → place at 1 ≡ cond last 0 (at + 1)
    go true e = omega (arith, eqb-true at 127 e)
    go false e = omega (arith, l, eqb-false at 127 e)

-- ---- as many as were counted

pub counted : (ring : List ℕ) (at n : ℕ) → length (words_from ring at n) ≡ n
counted ring at zero = refl
counted ring at (suc n) = ap suc (counted ring ((at + 1) % 128) n)

-- ---- one more behind them

pub one_more : (ring : List ℕ) (at n w : ℕ) → length ring ≡ 128 → at < 128 → n < 128 → words_from (set ring (place at n) w) at (suc n) ≡ words_from ring at n ++ (w ∷ [])
one_more ring at zero w len l b = rw (here at l, get_or-set_same ring at w 0 (rw len l)) refl
one_more ring at (suc m) w len l b =
    let kept : get_or (set ring (place ((at + 1) % 128) m) w) at 0 ≡ get_or ring at 0 =
    get_or-set_other ring (place ((at + 1) % 128) m) at w 0 (λ e. elsewhere at m l b (e ∙ sym (round at m))) in
    ap (λ (p : ℕ). words_from (set ring p w) at (suc (suc m))) (round at m)
    ∙ ap (λ (x : ℕ). x ∷ words_from (set ring (place ((at + 1) % 128) m) w) ((at + 1) % 128) (suc m)) kept
    ∙ ap (λ ws. get_or ring at 0 ∷ ws) (one_more ring ((at + 1) % 128) m w len (within at 1) (omega (arith, b)))

-- ---- the oldest before the others

pub first_of : (ring : List ℕ) (at n : ℕ) → n ≢ 0 → words_from ring at n ≡ get_or ring at 0 ∷ words_from ring (place at 1) (n - 1)
first_of ring at zero n = absurd (n refl)
first_of ring at (suc m) n =
    let less : suc m - 1 ≡ m = omega arith in
    rw less refl

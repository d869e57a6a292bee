-- Words one after the other: those of two lists, and one more at the end. Assumes nothing.
use Prim.Native.Nat.{ℕ, zero, suc, ◌+◌}
use native.Mathlib.Numerals.{add-one}
use mathlib.Core.Path.{◌≡◌, refl, ap}
use mathlib.Core.List.{List, [], ◌∷◌, ◌++◌, map}
use lib.ListN.{replicate}
use Rattle.std.specs.Option.{unwrap_or}
use Rattle.script.specs.Arguments.{further_of, further_values}
use Rattle.bench.specs.Orders.{byte_word, sent_of, after_words}
use Rattle.bench.specs.declared.Bench.{Bench}

pub one_after_the_other : (ws vs : List ℕ) (b : Bench) → after_words b (ws ++ vs) ≡ after_words (after_words b ws) vs
unfolding after_words
one_after_the_other [] vs b = refl
one_after_the_other (w ∷ ws) vs b = one_after_the_other ws vs (sent_of b w).bench

-- The same word over and over.
again : (n w : ℕ) (b : Bench) → after_words b (replicate (suc n) w) ≡ (sent_of (after_words b (replicate n w)) w).bench
unfolding after_words
again zero w b = refl
again (suc n) w b = again n w (sent_of b w).bench

pub once_more : (n w : ℕ) (b : Bench) → after_words b (replicate (n + 1) w) ≡ (sent_of (after_words b (replicate n w)) w).bench
once_more n w b = rw add-one (again n w b)

-- The values of a write.
each : (vs : List ℕ) (v : ℕ) → map byte_word (vs ++ (v ∷ [])) ≡ map byte_word vs ++ (byte_word v ∷ [])
each [] v = refl
each (u ∷ vs) v = ap (λ ws. byte_word u ∷ ws) (each vs v)

pub value_more :
    (t : List ℕ) (n : ℕ) (b : Bench)
    → after_words b (map byte_word (further_values t (n + 1))) ≡ (sent_of (after_words b (map byte_word (further_values t n))) (byte_word (unwrap_or (further_of t n) 0))).bench
unfolding further_values after_words
value_more t n b =
    rw (add-one, each (further_values t n) (unwrap_or (further_of t n) 0))
    (one_after_the_other (map byte_word (further_values t n)) (byte_word (unwrap_or (further_of t n) 0) ∷ []) b)

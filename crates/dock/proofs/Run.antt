-- A list of words cut anywhere: the state and the answers of its parts, one after the other, are those of the whole.
-- Assumes nothing.
use Prim.Native.Nat.{ℕ, suc, ◌<◌}
use mathlib.Core.Path.{◌≡◌, refl, ap}
use mathlib.Core.List.{List, [], ◌∷◌, ◌++◌, map}
use lib.ListN.{length, take, get_or}
use lib.Seq.{take-suc}
use Rattle.dock.specs.Step.{step_of}
use Rattle.dock.specs.Run.{after, answers_to, Call, word, after_call, after_calls}
use Rattle.dock.specs.declared.Controller.{Controller}

pub after_append : (s : Controller) (xs ys : List ℕ) → after s (xs ++ ys) ≡ after (after s xs) ys
unfolding after
after_append s [] ys = refl
after_append s (x ∷ xs) ys = after_append (step_of s x).controller xs ys

pub answers_append : (s : Controller) (xs ys : List ℕ) → answers_to s (xs ++ ys) ≡ answers_to s xs ++ answers_to (after s xs) ys
unfolding after answers_to
answers_append s [] ys = refl
answers_append s (x ∷ xs) ys = ap (λ l. (step_of s x).answer ∷ l) (answers_append (step_of s x).controller xs ys)

pub answers_length : (s : Controller) (ws : List ℕ) → length (answers_to s ws) ≡ length ws
unfolding answers_to
answers_length s [] = refl
answers_length s (w ∷ ws) = ap suc (answers_length (step_of s w).controller ws)

-- One word more.
pub after_next : (s : Controller) (ws : List ℕ) (i : ℕ) → i < length ws → after s (take (suc i) ws) ≡ (step_of (after s (take i ws)) (get_or ws i 0)).controller
unfolding after
after_next s ws i h = rw (take-suc ws i 0 h) (after_append s (take i ws) (get_or ws i 0 ∷ []))

pub answers_next :
    (s : Controller) (ws : List ℕ) (i : ℕ) → i < length ws
    → answers_to s (take (suc i) ws) ≡ answers_to s (take i ws) ++ ((step_of (after s (take i ws)) (get_or ws i 0)).answer ∷ [])
unfolding answers_to
answers_next s ws i h = rw (take-suc ws i 0 h) (answers_append s (take i ws) (get_or ws i 0 ∷ []))

-- ---- calls

-- None, and one.
pub calls_none : (s : Controller) → after_calls s [] ≡ s
unfolding after_calls
calls_none s = refl

pub calls_one : (s : Controller) (c : Call) → after_calls s (c ∷ []) ≡ after_call s c
unfolding after_calls
calls_one s c = refl

pub calls_append : (s : Controller) (cs ds : List Call) → after_calls s (cs ++ ds) ≡ after_calls (after_calls s cs) ds
unfolding after_calls
calls_append s [] ds = refl
calls_append s (c ∷ cs) ds = calls_append (after_call s c) cs ds

-- Words alone are calls.
pub words_calls : (s : Controller) (ws : List ℕ) → after_calls s (map word ws) ≡ after s ws
unfolding after after_calls
words_calls s [] = refl
words_calls s (w ∷ ws) = words_calls (step_of s w).controller ws

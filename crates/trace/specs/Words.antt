-- Bytes cut anywhere: the words of the whole are those of the first part, then those of its lone byte and the second part; so are
-- their lines. A line has sixteen characters. Assumes nothing.
use Prim.Native.Nat.{ℕ, ◌+◌, ◌*◌}
use native.Mathlib.Omega.{arith}
use mathlib.Core.Path.{◌≡◌, refl, ap, ◌∙◌, sym}
use mathlib.Core.List.{List, [], ◌∷◌, ◌++◌, append_assoc}
use lib.ListN.{length, length-append}
use Rattle.dock.specs.Step.{step_of}
use Rattle.dock.specs.Run.{after}
use Rattle.dock.specs.declared.Controller.{Controller}
use Rattle.lines.specs.Line.{line_of}
use Rattle.pairs.specs.Pairs.{words_in, lone_in}
use Rattle.trace.specs.Text.{lines_of}
use Rattle.dock.specs.Answers.{Answer}

pub words_append : (xs ys : List ℕ) → words_in (xs ++ ys) ≡ words_in xs ++ words_in (lone_in xs ++ ys)
unfolding words_in lone_in
words_append [] ys = refl
words_append (b ∷ []) ys = refl
words_append (high ∷ (low ∷ xs)) ys = rw (words_append xs ys)

pub lone_append : (xs ys : List ℕ) → lone_in (xs ++ ys) ≡ lone_in (lone_in xs ++ ys)
unfolding lone_in
lone_append [] ys = refl
lone_append (b ∷ []) ys = refl
lone_append (high ∷ (low ∷ xs)) ys = lone_append xs ys

-- Two bytes a word, and the lone one.
pub bytes_counted : (xs : List ℕ) → 2 * length (words_in xs) + length (lone_in xs) ≡ length xs
unfolding words_in lone_in
bytes_counted [] = refl
bytes_counted (b ∷ []) = refl
bytes_counted (high ∷ (low ∷ xs)) = omega (arith, bytes_counted xs)

pub lines_append : (s : Controller) (xs ys : List ℕ) → lines_of s (xs ++ ys) ≡ lines_of s xs ++ lines_of (after s xs) ys
unfolding lines_of after
lines_append s [] ys = refl
lines_append s (w ∷ ws) ys =
    ap (λ l. line_of w (step_of s w).answer ++ l) (lines_append (step_of s w).controller ws ys)
    ∙ sym (append_assoc (line_of w (step_of s w).answer) (lines_of (step_of s w).controller ws) (lines_of (after (step_of s w).controller ws) ys))

pub line_length : (w : ℕ) (a : Answer) → length (line_of w a) ≡ 16
unfolding line_of
line_length w a = refl

pub lines_length : (s : Controller) (ws : List ℕ) → length (lines_of s ws) ≡ 16 * length ws
unfolding lines_of
lines_length s [] = refl
lines_length s (w ∷ ws) =
    length-append (line_of w (step_of s w).answer) (lines_of (step_of s w).controller ws)
    ∙ omega (arith, line_length w (step_of s w).answer, lines_length (step_of s w).controller ws)

-- Rows and their text, cut anywhere: the text of the whole is that of the first part, then that of the second from the controller
-- that the first leaves. A sample gives two rows at most, and a row 37 characters. Assumes nothing.
use Prim.Native.Nat.{ℕ, zero, suc, ◌+◌, ◌*◌, ◌/◌, ◌%◌, ◌≤◌}
use native.Mathlib.Omega.{arith}
use native.Mathlib.Nat.{add-zero}
use mathlib.Core.Path.{◌≡◌, refl, ap, ◌∙◌, sym}
use mathlib.Core.Bool.{Bool, true, false, cond}
use mathlib.Core.List.{List, [], ◌∷◌, ◌++◌, append_assoc}
use lib.ListN.{length, length-append}
use lib.Dec.{eqb, ltb}
use Rattle.pairs.specs.Pairs.{bytes_of}
use Rattle.event.specs.Words.{word_of}
use Rattle.event.specs.declared.Event.TheVariants.{Tick}
use Rattle.wire.specs.Hear.{hear_of, spelled, after as heard_by}
use Rattle.wire.specs.declared.Wire.{Wire}
use Rattle.wire.proofs.Cut.{at_most_one}
use Rattle.dock.specs.Step.{step_of}
use Rattle.dock.specs.Run.{after}
use Rattle.dock.specs.declared.Controller.{Controller}
use Rattle.lines.specs.Line.{line_of}
use Rattle.capture.specs.Number.{last_digit, decimal_in, decimal_of}
use Rattle.capture.specs.Rows.{Row, row, numbered, words_in, TICK_SAMPLES, tick_at, words_at, rows_of, row_line, lines_of, text_of}
use Rattle.capture.specs.declared.rows.Form.{Form}
use Rattle.capture.specs.declared.rows.Form.TheVariants.{Lines, Words}
use Rattle.event.specs.declared.Event.{Event}
use Rattle.std.specs.Prelude.{Option}
use Rattle.dock.specs.Answers.{Answer}

-- ---- words with a number

pub words_numbered : (n : ℕ) (ws : List ℕ) → words_in (numbered n ws) ≡ ws
words_numbered n [] = refl
words_numbered n (w ∷ ws) = ap (λ l. w ∷ l) (words_numbered n ws)

pub numbered_append : (n : ℕ) (vs ws : List ℕ) → numbered n (vs ++ ws) ≡ numbered n vs ++ numbered n ws
numbered_append n [] ws = refl
numbered_append n (v ∷ vs) ws = ap (λ l. row n v ∷ l) (numbered_append n vs ws)

pub numbered_length : (n : ℕ) (ws : List ℕ) → length (numbered n ws) ≡ length ws
numbered_length n [] = refl
numbered_length n (w ∷ ws) = omega (arith, numbered_length n ws)

pub words_append : (xs ys : List Row) → words_in (xs ++ ys) ≡ words_in xs ++ words_in ys
words_append [] ys = refl
words_append (x ∷ xs) ys = ap (λ l. x.word ∷ l) (words_append xs ys)

-- ---- rows of samples

pub rows_append : (w : Wire) (n : ℕ) (xs ys : List ℕ) → rows_of w n (xs ++ ys) ≡ rows_of w n xs ++ rows_of (heard_by w xs) (n + length xs) ys
unfolding rows_of heard_by
rows_append w n [] ys = rw (add-zero n)
rows_append w n (s ∷ xs) ys =
    let first = numbered (n + 1) (words_at (hear_of w s).given (n + 1)) in
    let count : n + 1 + length xs ≡ n + length (s ∷ xs) = omega arith in
    rw (← count) (
    ap (λ l. first ++ l) (rows_append (hear_of w s).wire (n + 1) xs ys)
    ∙ sym (append_assoc first (rows_of (hear_of w s).wire (n + 1) xs) (rows_of (heard_by (hear_of w s).wire xs) (n + 1 + length xs) ys))
    )

one_or_none : (b : Bool) (w : ℕ) → length (cond b (w ∷ []) []) ≤ 1
one_or_none true w = omega arith
one_or_none false w = omega arith

pub tick_most : (n : ℕ) → length (tick_at n) ≤ 1
unfolding tick_at
tick_most n = one_or_none (eqb (n % TICK_SAMPLES) 0) (word_of Tick)

at_most_two : (g : Option Event) (n : ℕ) → length (words_at g n) ≤ 2
unfolding words_at
at_most_two g n = omega (arith, length-append (spelled g) (tick_at n), at_most_one g, tick_most n)

pub rows_most : (w : Wire) (n : ℕ) (xs : List ℕ) → length (rows_of w n xs) ≤ 2 * length xs
unfolding rows_of
rows_most w n [] = omega arith
rows_most w n (s ∷ xs) =
    let words = words_at (hear_of w s).given (n + 1) in
    omega (
      arith,
      length-append (numbered (n + 1) words) (rows_of (hear_of w s).wire (n + 1) xs),
      numbered_length (n + 1) words,
      at_most_two (hear_of w s).given (n + 1),
      rows_most (hear_of w s).wire (n + 1) xs,
    )

-- ---- digits

in_either : (k : ℕ) (b : Bool) (d : ℕ) (ds : List ℕ) → length ds ≤ suc k → length (cond b (d ∷ []) (ds ++ (d ∷ []))) ≤ suc (suc k)
in_either k true d ds l = omega arith
in_either k false d ds l = omega (arith, length-append ds (d ∷ []))

in_most : (k n : ℕ) → length (decimal_in k n) ≤ suc k
unfolding decimal_in
in_most zero n = omega arith
in_most (suc k) n = in_either k (ltb n 10) (last_digit n) (decimal_in k (n / 10)) (in_most k (n / 10))

pub decimal_most : (n : ℕ) → length (decimal_of n) ≤ 20
unfolding decimal_of
decimal_most n = in_most 19 n

-- ---- text of rows

lines_append : (s : Controller) (xs ys : List Row) → lines_of s (xs ++ ys) ≡ lines_of s xs ++ lines_of (after s (words_in xs)) ys
unfolding lines_of after
lines_append s [] ys = refl
lines_append s (x ∷ xs) ys =
    let first = row_line x.number x.word (step_of s x.word).answer in
    let next = (step_of s x.word).controller in
    ap (λ l. first ++ l) (lines_append next xs ys) ∙ sym (append_assoc first (lines_of next xs) (lines_of (after next (words_in xs)) ys))

-- As in `pairs`, beside a theorem of its calls, which no contract may rest on.
bytes_append : (vs ws : List ℕ) → bytes_of (vs ++ ws) ≡ bytes_of vs ++ bytes_of ws
unfolding bytes_of
bytes_append [] ws = refl
bytes_append (v ∷ vs) ws = ap (λ bs. v / 256 ∷ v % 256 ∷ bs) (bytes_append vs ws)

pub text_append : (f : Form) (s : Controller) (xs ys : List Row) → text_of f s (xs ++ ys) ≡ text_of f s xs ++ text_of f (after s (words_in xs)) ys
unfolding text_of
text_append Lines s xs ys = lines_append s xs ys
text_append Words s xs ys = rw (words_append xs ys) (bytes_append (words_in xs) (words_in ys))

pub text_none : (f : Form) (s : Controller) → text_of f s [] ≡ []
unfolding text_of lines_of bytes_of
text_none Lines s = refl
text_none Words s = refl

pub row_most : (n w : ℕ) (a : Answer) → length (row_line n w a) ≤ 37
unfolding row_line line_of
row_most n w a = omega (arith, length-append (decimal_of n) (32 ∷ line_of w a), decimal_most n)

lines_most : (s : Controller) (rows : List Row) → length (lines_of s rows) ≤ 37 * length rows
unfolding lines_of
lines_most s [] = omega arith
lines_most s (r ∷ rs) =
    let first = row_line r.number r.word (step_of s r.word).answer in
    let next = (step_of s r.word).controller in
    omega (arith, length-append first (lines_of next rs), row_most r.number r.word (step_of s r.word).answer, lines_most next rs)

bytes_most : (rows : List Row) → length (bytes_of (words_in rows)) ≤ 37 * length rows
unfolding bytes_of
bytes_most [] = omega arith
bytes_most (r ∷ rs) = omega (arith, bytes_most rs)

pub text_most : (f : Form) (s : Controller) (rows : List Row) → length (text_of f s rows) ≤ 37 * length rows
unfolding text_of
text_most Lines s rows = lines_most s rows
text_most Words s rows = bytes_most rows

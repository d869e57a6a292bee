-- What a capture gives (document 02, request 7): words, each with the number of the last sample heard, and their text.
use Rattle.std.specs.Prelude.{ℕ, ◌+◌, ◌%◌, cond, List, [], ◌∷◌, ◌++◌, map, eqb, Option}
use Rattle.pairs.specs.Pairs.{bytes_of}
use Rattle.event.specs.Words.{word_of}
use Rattle.event.specs.declared.Event.TheVariants.{Tick}
use Rattle.wire.specs.Hear.{hear_of, spelled}
use Rattle.wire.specs.declared.Wire.{Wire}
use Rattle.dock.specs.Step.{step_of}
use Rattle.dock.specs.declared.Controller.{Controller}
use Rattle.lines.specs.Line.{line_of}
use Rattle.capture.specs.Number.{decimal_of}
use Rattle.capture.specs.declared.rows.Form.{Form}
use Rattle.capture.specs.declared.rows.Form.TheVariants.{Lines, Words}
use Rattle.dock.specs.Answers.{Answer}
use Rattle.event.specs.declared.Event.{Event}

pub record Row : Type 0 where
  pub number : ℕ
  pub word : ℕ

abbrev pub row : ℕ → ℕ → Row
row n w = record { number = n; word = w }

abbrev pub numbered : ℕ → List ℕ → List Row
numbered n ws = map (row n) ws

abbrev pub words_in : List Row → List ℕ
words_in rows = map (λ (r : Row). r.word) rows

-- ---- from samples to rows

-- A capture has no ticks: one follows each 5,000 samples, 10 ms at 2 µs each.
abbrev pub TICK_SAMPLES : ℕ
TICK_SAMPLES = 5000

unfoldable pub tick_at : ℕ → List ℕ
tick_at n = cond (eqb (n % TICK_SAMPLES) 0) (word_of Tick ∷ []) []

-- With the sample of a number: the word that it gives, and then the TICK.
unfoldable pub words_at : Option Event → ℕ → List ℕ
words_at g n = spelled g ++ tick_at n

-- Samples are counted from 1.
unfoldable pub rows_of : Wire → ℕ → List ℕ → List Row
rows_of w n [] = []
rows_of w n (s ∷ ss) = numbered (n + 1) (words_at (hear_of w s).given (n + 1)) ++ rows_of (hear_of w s).wire (n + 1) ss

-- ---- from rows to text

abbrev space : ℕ
space = 32

-- A line: the number, and the trace program's line.
unfoldable pub row_line : ℕ → ℕ → Answer → List ℕ
row_line n w a = decimal_of n ++ (space ∷ line_of w a)

unfoldable pub lines_of : Controller → List Row → List ℕ
lines_of s [] = []
lines_of s (r ∷ rs) = row_line r.number r.word (step_of s r.word).answer ++ lines_of (step_of s r.word).controller rs

unfoldable pub text_of : Form → Controller → List Row → List ℕ
text_of Lines s rows = lines_of s rows
text_of Words s rows = bytes_of (words_in rows)

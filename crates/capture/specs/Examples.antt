-- What the definitions come to in single cases (document 02, request 7), and what a capture's text is read as.
use Rattle.std.specs.Prelude.{ℕ, List, [], ◌∷◌, ◌++◌, Ok, Err}
use Rattle.std.specs.declared.result.Result.{Result}
use Rattle.lines.specs.Text.{characters}
use Rattle.capture.specs.Rows.{Row, row_line}
use Rattle.capture.specs.declared.arguments.Wish.{Wish}
use Rattle.capture.specs.declared.arguments.Wish.TheVariants.{Words, Reset}
use Rattle.capture.specs.declared.arguments.Fault.{Fault}
use Rattle.capture.specs.declared.arguments.Fault.TheVariants.{NoReset, Unclear}
use Rattle.dock.specs.Answers.{Answer}

-- ---- rows with the answers to their words

unfoldable pub lines_with : List Row → List Answer → List ℕ
lines_with [] answers = []
lines_with (r ∷ rows) [] = []
lines_with (r ∷ rows) (a ∷ answers) = row_line r.number r.word a ++ lines_with rows answers

-- ---- a START: both lines high, then SDAT low while SCLK is high

unfoldable pub start_samples : List ℕ
start_samples = 3 ∷ 2 ∷ []

unfoldable pub start_lines : List ℕ
start_lines = characters "sample word ref rep byte out\n" ++ characters "0 C0FF 0 0 00 000\n" ++ characters "2 0000 0 0 00 000\n"

unfoldable pub start_words : List ℕ
start_words = 0xC0 ∷ 0xFF ∷ 0x00 ∷ 0x00 ∷ []

-- ---- arguments, and what each is taken for

pub record Case : Type 0 where
  pub typed : List ℕ
  pub meant : Result Wish Fault

unfoldable pub arguments : List Case
arguments =
    record { typed = characters "words"; meant = Ok Words }
    ∷ record { typed = characters "C0BF"; meant = Ok (Reset 0xC0BF) }
    ∷ record { typed = characters "d0ff"; meant = Ok (Reset 0xD0FF) }
    ∷ record { typed = characters "BFFF"; meant = Err NoReset }
    ∷ record { typed = characters "E000"; meant = Err NoReset }
    ∷ record { typed = characters "C0F"; meant = Err Unclear }
    ∷ record { typed = characters "C0FF0"; meant = Err Unclear }
    ∷ record { typed = characters "Words"; meant = Err Unclear }
    ∷ record { typed = []; meant = Err Unclear }
    ∷ []

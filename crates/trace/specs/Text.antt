-- The text of a trace (document 01, "Bench examples"): the program starts from a fresh state and reads words, high byte first; it
-- prints the header, then a line for each word; a lone last byte prints `odd`. Bytes and characters are their numbers.
use Rattle.std.specs.Prelude.{ℕ, List, [], ◌∷◌, ◌++◌}
use Rattle.dock.specs.Record.{fresh_controller}
use Rattle.dock.specs.Step.{step_of}
use Rattle.dock.specs.declared.Controller.{Controller}
use Rattle.lines.specs.Line.{line_of}
use Rattle.lines.specs.Text.{characters}
use Rattle.pairs.specs.Pairs.{words_in, lone_in}

unfoldable pub header : List ℕ
header = characters "word ref rep byte out\n"

unfoldable pub odd : List ℕ
odd = characters "odd\n"

-- A line for each word in order, from a state.
unfoldable pub lines_of : Controller → List ℕ → List ℕ
lines_of s [] = []
lines_of s (w ∷ ws) = line_of w (step_of s w).answer ++ lines_of (step_of s w).controller ws

unfoldable pub odd_for : List ℕ → List ℕ
odd_for [] = []
odd_for (b ∷ rest) = odd

-- The header, and the lines of the words that are whole.
unfoldable pub whole_lines : List ℕ → List ℕ
whole_lines bytes = header ++ lines_of fresh_controller (words_in bytes)

-- The whole text, by all bytes of the input.
unfoldable pub text_of : List ℕ → List ℕ
text_of bytes = header ++ (lines_of fresh_controller (words_in bytes) ++ odd_for (lone_in bytes))

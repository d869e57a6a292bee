-- A line of the trace (document 01, "Bench examples"): word, refusal, reply, byte, outputs (word, byte and outputs in upper-case hex
-- of 4, 2 and 3 digits, the others decimal; refusals and replies have one digit). Characters are their ASCII numbers.
use Rattle.std.specs.Prelude.{ℕ, ◌/◌, List, [], ◌∷◌}
use Rattle.dock.specs.Answers.{refusal_of, reply_of, byte_of, outputs_of, Answer}
use Rattle.hexes.specs.Digit.{digit_for}

abbrev space : ℕ
space = 32

abbrev newline : ℕ
newline = 10

unfoldable pub line_of : ℕ → Answer → List ℕ
line_of w a =
    digit_for (w / 4096) ∷ digit_for (w / 256) ∷ digit_for (w / 16) ∷ digit_for w ∷ space
    ∷ digit_for (refusal_of a) ∷ space
    ∷ digit_for (reply_of a) ∷ space
    ∷ digit_for (byte_of a / 16) ∷ digit_for (byte_of a) ∷ space
    ∷ digit_for (outputs_of a / 256) ∷ digit_for (outputs_of a / 16) ∷ digit_for (outputs_of a) ∷ newline
    ∷ []

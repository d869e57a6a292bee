-- A capture whose samples come in pieces: the wire cell and the controller after those so far, and how many they are.
use Rattle.std.specs.Prelude.{ℕ, ◌+◌, List, [], ◌∷◌, ◌++◌, length}
use Rattle.wire.specs.Record.{fresh_wire}
use Rattle.wire.specs.Hear.{after as heard_by}
use Rattle.dock.specs.Record.{fresh_controller}
use Rattle.dock.specs.Run.{after}
use Rattle.lines.specs.Text.{characters}
use Rattle.capture.specs.Rows.{Row, row, numbered, words_in, rows_of, text_of}
use Rattle.capture.specs.declared.rows.Form.{Form}
use Rattle.capture.specs.declared.rows.Form.TheVariants.{Lines, Words}
use Rattle.capture.specs.declared.pieces.Capture.{Capture}

-- ---- words after the samples so far

unfoldable pub words_text : Capture → List ℕ → List ℕ
words_text c ws = text_of c.form c.controller (numbered c.count ws)

unfoldable pub capture_given : Capture → List ℕ → Capture
capture_given c ws = record { form = c.form; wire = c.wire; controller = after c.controller ws; count = c.count }

-- ---- samples

abbrev pub rows_fed : Capture → List ℕ → List Row
rows_fed c samples = rows_of c.wire c.count samples

unfoldable pub text_fed : Capture → List ℕ → List ℕ
text_fed c samples = text_of c.form c.controller (rows_fed c samples)

unfoldable pub capture_fed : Capture → List ℕ → Capture
capture_fed c samples =
    record {
      form = c.form;
      wire = heard_by c.wire samples;
      controller = after c.controller (words_in (rows_fed c samples));
      count = c.count + length samples;
    }

-- Nothing is put out at the end.
abbrev pub ending_of : Capture → List ℕ
ending_of c = []

-- ---- the whole

unfoldable pub header_for : Form → List ℕ
header_for Lines = characters "sample word ref rep byte out\n"
header_for Words = []

abbrev pub fresh_capture : Form → Capture
fresh_capture f = record { form = f; wire = fresh_wire; controller = fresh_controller; count = 0 }

-- A capture has no RESET: one stands in front, with the number 0.
unfoldable pub opening_of : Form → ℕ → List ℕ
opening_of f reset = header_for f ++ words_text (fresh_capture f) (reset ∷ [])

unfoldable pub begun_of : Form → ℕ → Capture
begun_of f reset = capture_given (fresh_capture f) (reset ∷ [])

-- All rows of a capture, and its text.
unfoldable pub capture_rows : ℕ → List ℕ → List Row
capture_rows reset samples = row 0 reset ∷ rows_of fresh_wire 0 samples

unfoldable pub capture_text : Form → ℕ → List ℕ → List ℕ
capture_text f reset samples = header_for f ++ text_of f fresh_controller (capture_rows reset samples)

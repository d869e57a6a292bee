-- A capture cut anywhere: feeding its parts in turn leaves the capture and puts out the text of feeding the whole; and a sample's text
-- is that of its event's word, then that of its TICK. Assumes nothing.
use Prim.Native.Nat.{ℕ, ◌+◌, ◌*◌, ◌≤◌}
use native.Mathlib.Omega.{arith}
use native.Mathlib.Nat.{add_assoc, add-zero}
use mathlib.Core.Path.{◌≡◌, refl, ap, sym, ◌∙◌}
use mathlib.Core.List.{List, [], ◌∷◌, ◌++◌, append-nil, append_assoc}
use lib.ListN.{length, length-append}
use Rattle.pairs.specs.Pairs.{bytes_of}
use Rattle.wire.specs.Record.{fresh_wire}
use Rattle.wire.specs.Hear.{hear_of, spelled, after as heard_by}
use Rattle.wire.proofs.Cut.{after_append as heard_append}
use Rattle.dock.specs.Record.{fresh_controller}
use Rattle.dock.specs.Step.{step_of}
use Rattle.dock.specs.Run.{after}
use Rattle.dock.proofs.Run.{after_append}
use Rattle.lines.specs.Telling.{run_text}
use Rattle.capture.specs.Rows.{row, numbered, words_in, tick_at, words_at, rows_of, row_line, lines_of, text_of}
use Rattle.capture.specs.Pieces.{words_text, capture_given, rows_fed, text_fed, capture_fed, ending_of, header_for, fresh_capture, opening_of, begun_of, capture_rows, capture_text}
use Rattle.capture.specs.declared.rows.Form.{Form}
use Rattle.capture.specs.declared.rows.Form.TheVariants.{Lines, Words}
use Rattle.capture.specs.declared.pieces.Capture.{Capture}
use Rattle.capture.specs.Texts.{words_numbered, numbered_append, numbered_length, words_append, rows_append, rows_most, text_none, text_append, text_most}

-- ---- words

pub no_words : (c : Capture) → words_text c [] ≡ []
unfolding words_text
no_words c = text_none c.form c.controller

pub no_words_behind : (c : Capture) (text : List ℕ) → text ≡ text ++ words_text c []
no_words_behind c text = rw (no_words c) (sym (append-nil text))

pub none_given : (c : Capture) → capture_given c [] ≡ c
unfolding capture_given after
none_given c = refl

-- One word, in each form.
pub line_text : (c : Capture) (w : ℕ) → c.form ≡ Lines → words_text c (w ∷ []) ≡ row_line c.count w (step_of c.controller w).answer
unfolding words_text text_of lines_of
line_text c w e = rw e (append-nil (row_line c.count w (step_of c.controller w).answer))

pub bare_text : (c : Capture) (w : ℕ) → c.form ≡ Words → words_text c (w ∷ []) ≡ bytes_of (w ∷ [])
unfolding words_text text_of
bare_text c w e = rw e

-- One word: a line at most.
pub given_most : (c : Capture) (w : ℕ) → length (words_text c (w ∷ [])) ≤ 37
unfolding words_text
given_most c w = omega (arith, text_most c.form c.controller (numbered c.count (w ∷ [])), numbered_length c.count (w ∷ []))

-- ---- samples

pub capture_none : (c : Capture) → capture_fed c [] ≡ c
unfolding capture_fed rows_of heard_by after
capture_none c = rw (add-zero c.count)

pub fed_none : (c : Capture) → text_fed c [] ≡ []
unfolding text_fed rows_of
fed_none c = text_none c.form c.controller

module _ (c : Capture) (xs ys : List ℕ) where
  pub capture_append : capture_fed c (xs ++ ys) ≡ capture_fed (capture_fed c xs) ys
  unfolding capture_fed
  capture_append =
      rw (
        rows_append c.wire c.count xs ys,
        words_append (rows_fed c xs),
        after_append c.controller (words_in (rows_fed c xs)),
        heard_append c.wire xs ys,
        length-append xs ys,
        add_assoc,
      )

  pub fed_cut : text_fed c (xs ++ ys) ≡ text_fed c xs ++ text_fed (capture_fed c xs) ys
  unfolding text_fed capture_fed
  fed_cut = rw (rows_append c.wire c.count xs ys) (text_append c.form c.controller (rows_fed c xs) (rows_fed (capture_fed c xs) ys))

-- Two lines for a sample at most.
pub fed_most : (c : Capture) (xs : List ℕ) → length (text_fed c xs) ≤ 74 * length xs
unfolding text_fed
fed_most c xs = omega (arith, text_most c.form c.controller (rows_fed c xs), rows_most c.wire c.count xs)

-- ---- one sample

-- The sample is heard, and what it gives isn't yet in the dock.
abbrev pub heard : Capture → ℕ → Capture
heard c s = record { form = c.form; wire = (hear_of c.wire s).wire; controller = c.controller; count = c.count + 1 }

module _ (c : Capture) (s : ℕ) where
  abbrev event : List ℕ
  event = spelled (hear_of c.wire s).given

  abbrev tick : List ℕ
  tick = tick_at (c.count + 1)

  rows_of_one : rows_of c.wire c.count (s ∷ []) ≡ numbered (c.count + 1) event ++ numbered (c.count + 1) tick
  unfolding rows_of words_at
  rows_of_one = append-nil (numbered (c.count + 1) (event ++ tick)) ∙ numbered_append (c.count + 1) event tick

  pub one_text : text_fed c (s ∷ []) ≡ words_text (heard c s) event ++ words_text (capture_given (heard c s) event) tick
  unfolding text_fed words_text capture_given
  one_text =
      rw (rows_of_one, text_append c.form c.controller (numbered (c.count + 1) event) (numbered (c.count + 1) tick), words_numbered (c.count + 1) event)

  pub one_capture : capture_fed c (s ∷ []) ≡ capture_given (capture_given (heard c s) event) tick
  unfolding capture_fed capture_given heard_by
  one_capture =
      rw (
        rows_of_one,
        words_append (numbered (c.count + 1) event) (numbered (c.count + 1) tick),
        words_numbered (c.count + 1) event,
        words_numbered (c.count + 1) tick,
        after_append c.controller event tick,
      )

-- The two texts fit where the sample's does.
pub event_fits : (c : Capture) (s n at : ℕ) → at + length (text_fed c (s ∷ [])) ≤ n → at + length (words_text (heard c s) (event c s)) ≤ n
event_fits c s n at l =
    omega (arith, l, ap length (one_text c s), length-append (words_text (heard c s) (event c s)) (words_text (capture_given (heard c s) (event c s)) (tick c s)))

pub tick_fits :
    (c : Capture) (s n : ℕ) (front : List ℕ) → length front + length (text_fed c (s ∷ [])) ≤ n
    → length (front ++ words_text (heard c s) (event c s)) + length (words_text (capture_given (heard c s) (event c s)) (tick c s)) ≤ n
tick_fits c s n front l =
    omega (
      arith,
      l,
      ap length (one_text c s),
      length-append front (words_text (heard c s) (event c s)),
      length-append (words_text (heard c s) (event c s)) (words_text (capture_given (heard c s) (event c s)) (tick c s)),
    )

-- ---- the whole

header_short : (f : Form) → length (header_for f) ≤ 29
unfolding header_for
header_short Lines = omega arith
header_short Words = omega arith

pub opening_short : (f : Form) (reset : ℕ) → length (opening_of f reset) ≤ 66
unfolding opening_of
opening_short f reset =
    omega (arith, length-append (header_for f) (words_text (fresh_capture f) (reset ∷ [])), header_short f, given_most (fresh_capture f) reset)

-- The opening and the text of all pieces are the text of the whole.
pub whole_opened : (f : Form) (reset : ℕ) (samples : List ℕ) → opening_of f reset ++ text_fed (begun_of f reset) samples ≡ capture_text f reset samples
unfolding opening_of begun_of capture_given capture_text capture_rows text_fed words_text after
whole_opened f reset samples =
    append_assoc (header_for f) (text_of f fresh_controller (row 0 reset ∷ [])) (text_of f (step_of fresh_controller reset).controller (rows_of fresh_wire 0 samples))
    ∙ ap (λ l. header_for f ++ l) (sym (text_append f fresh_controller (row 0 reset ∷ []) (rows_of fresh_wire 0 samples)))

pub whole_text : (f : Form) (reset : ℕ) (samples : List ℕ) → run_text text_fed capture_fed ending_of (begun_of f reset) (opening_of f reset) samples ≡ capture_text f reset samples
whole_text f reset samples = rw (append-nil (text_fed (begun_of f reset) samples)) (whole_opened f reset samples)

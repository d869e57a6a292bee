-- The text of a capture (document 02, request 7), of what the compiled functions return: however the samples are cut into pieces, what
-- they put out, joined, is the text of the whole capture; and its two forms tell the same words. Assumes nothing.
use Prim.Native.Nat.{ℕ}
use mathlib.Core.Path.{◌≡◌, refl, ap, sym, ◌∙◌}
use mathlib.Core.List.{List, [], ◌∷◌, ◌++◌, flatten}
use denote.Ref.{Bor, MutBor}
use denote.Param.Laws.{Laws}
use mir.Syntax.{Dict}
use Rattle.arrayvec.specs.ArrayVec.{ArrayVec}
use Rattle.dock.specs.Record.{fresh_controller}
use Rattle.dock.specs.Step.{step_of}
use Rattle.dock.specs.Run.{answers_to}
use Rattle.dock.specs.declared.Controller.{Controller}
use Rattle.lines.proofs.Cut.{put, put_text, Fed, as_one_piece}
use Rattle.lines.proofs.Determined.{same_page, feed_determined as lines_determined}
use Rattle.lines.proofs.tell.feed.Reads as feed_call
use Rattle.pairs.specs.Pairs.{words_in as read_as_words, bytes_of}
use Rattle.pairs.proofs.Pairs.{read_again}
use Rattle.capture.specs.Rows.{Row, words_in, row_line, lines_of, text_of}
use Rattle.capture.specs.Pieces.{header_for, opening_of, capture_rows, capture_text}
use Rattle.capture.specs.Examples.{lines_with}
use Rattle.capture.specs.declared.rows.Form.{Form}
use Rattle.capture.specs.declared.rows.Form.TheVariants.{Lines, Words}
use Rattle.capture.specs.declared.pieces.Capture.{Capture}
use Rattle.capture.specs.contracts.pieces.Capture.{the_row}
use Rattle.capture.specs.contracts.pieces.CaptureTelling.TheImpl.{ghosts as telling}
use Rattle.capture.specs.Cut.{whole_opened}
use Rattle.capture.proofs.pieces.begin.Reads as begin_call

-- The generic calls, at the capture's own step and laws.
module _ (L : Laws the_row) (D : Dict) where
  -- ---- calls one after the other, each of which answered as its contract says

  -- The pieces so far, what was put out for each, and the capture.
  pub data Called (f : Form) (reset : ℕ) : List (List ℕ) → List (List ℕ) → Capture → Type 0 where
    begin :
        {pieces texts : List (List ℕ)} {c : Capture} (κs : _) (page left : MutBor (ArrayVec ℕ)) (r : Capture) → begin_call.Post κs (f, (reset, (page, tt))) r (f, (reset, (left, tt)))
        → Fed the_row L telling D r (put page left) pieces texts c → Called f reset pieces texts c

  -- ---- however the samples were cut, all that was put out is the text of the whole

  pub cut_anywhere :
      {f : Form} {reset : ℕ} {pieces texts : List (List ℕ)} {c : Capture} → Called f reset pieces texts c
      → flatten texts ≡ capture_text f reset (flatten pieces)
  cut_anywhere {f} {reset} {pieces} (begin κs page left r p fed) =
      let whole = as_one_piece the_row L telling D r (put page left) fed in
      whole.1 ∙ rw (p.0, put_text page left (opening_of f reset) p.1) (whole_opened f reset (flatten pieces))

  pub feed_determined :
      (κs : _) (c told told' : MutBor Capture) (input : Bor (List ℕ)) (page left left' : MutBor (ArrayVec ℕ))
      → feed_call.Post the_row L telling D κs (c, (input, (page, tt))) tt (told, (input, (left, tt)))
      → feed_call.Post the_row L telling D κs (c, (input, (page, tt))) tt (told', (input, (left', tt))) → (told.now ≡ told'.now) × (left.now ≡ left'.now)
  feed_determined κs c told told' input page left left' p q = lines_determined the_row L telling D κs c told told' input page left left' p q

pub begin_determined :
    (κs : _) (f : Form) (reset : ℕ) (page left left' : MutBor (ArrayVec ℕ)) (r r' : Capture)
    → begin_call.Post κs (f, (reset, (page, tt))) r (f, (reset, (left, tt)))
    → begin_call.Post κs (f, (reset, (page, tt))) r' (f, (reset, (left', tt))) → (r ≡ r') × (left.now ≡ left'.now)
begin_determined κs f reset page left left' r r' p q = (p.0 ∙ sym q.0, same_page (p.1 ∙ sym q.1))

-- ---- the two forms

-- With `words`, the bytes are those of the words in order and nothing else.
pub bare_words : (reset : ℕ) (samples : List ℕ) → capture_text Words reset samples ≡ bytes_of (words_in (capture_rows reset samples))
unfolding capture_text header_for text_of
bare_words reset samples = refl

lines_with_lem : (s : Controller) (rows : List Row) → lines_of s rows ≡ lines_with rows (answers_to s (words_in rows))
unfolding lines_of lines_with answers_to
lines_with_lem s [] = refl
lines_with_lem s (r ∷ rows) =
    ap (λ l. row_line r.number r.word (step_of s r.word).answer ++ l) (lines_with_lem (step_of s r.word).controller rows)

-- Stepping the bare words from a fresh controller, as the trace program does, gives the answers that the lines tell.
pub same_dock :
    (reset : ℕ) (samples : List ℕ)
    → capture_text Lines reset samples
    ≡ header_for Lines ++ lines_with (capture_rows reset samples) (answers_to fresh_controller (read_as_words (capture_text Words reset samples)))
unfolding capture_text header_for text_of
same_dock reset samples =
    rw (read_again (words_in (capture_rows reset samples))) (ap (λ l. header_for Lines ++ l) (lines_with_lem fresh_controller (capture_rows reset samples)))

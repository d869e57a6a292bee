-- The text of a trace (document 01, "Bench examples"), of what the compiled functions return: however the input is cut into pieces,
-- also inside a word, what they put out, joined, is the text of the whole input; and after each piece every word that is whole by
-- then has its line. Assumes nothing.
use Prim.Native.Nat.{ℕ}
use mathlib.Core.Path.{◌≡◌, sym, ◌∙◌}
use mathlib.Core.List.{List, [], ◌∷◌, ◌++◌, append_assoc, flatten}
use denote.Ref.{Bor, MutBor}
use denote.Param.Laws.{Laws}
use mir.Syntax.{Dict}
use Rattle.arrayvec.specs.ArrayVec.{ArrayVec}
use Rattle.dock.specs.Record.{fresh_controller}
use Rattle.pairs.specs.Pairs.{words_in}
use Rattle.lines.proofs.Cut.{put, put_text, flatten_one, Fed, as_one_piece}
use Rattle.lines.proofs.Determined.{same_page, feed_determined as lines_determined}
use Rattle.lines.proofs.tell.feed.Reads as feed_call
use Rattle.trace.specs.Text.{header, lines_of, text_of}
use Rattle.trace.specs.Pieces.{lines_fed, trace_fed, begun, ending_of}
use Rattle.trace.specs.declared.pieces.Trace.{Trace}
use Rattle.trace.specs.contracts.pieces.Trace.{the_row}
use Rattle.trace.specs.contracts.pieces.TraceTelling.TheImpl.{ghosts as telling}
use Rattle.trace.specs.Cut.{whole_text}
use Rattle.trace.proofs.pieces.begin.Reads as begin_call
use Rattle.trace.proofs.pieces.TraceTelling.finish.Reads as finish_call

-- The generic calls, at the trace's own step and laws.
module _ (L : Laws the_row) (D : Dict) where
  -- ---- calls one after the other, each of which answered as its contract says

  -- The pieces so far, what was put out for each, and the trace.
  pub data Called : List (List ℕ) → List (List ℕ) → Trace → Type 0 where
    begin :
        {pieces texts : List (List ℕ)} {t : Trace} (κs : _) (page left : MutBor (ArrayVec ℕ)) (r : Trace) → begin_call.Post κs (page, tt) r (left, tt)
        → Fed the_row L telling D r (put page left) pieces texts t → Called pieces texts t

  -- ---- what all calls put out

  as_one : {pieces texts : List (List ℕ)} {t : Trace} → Called pieces texts t → (t ≡ trace_fed begun (flatten pieces)) × (flatten texts ≡ header ++ lines_fed begun (flatten pieces))
  as_one (begin κs page left r p fed) =
      let whole = as_one_piece the_row L telling D r (put page left) fed in
      rw (p.0, put_text page left header p.1) at whole

  -- After each piece, the header and a line for each word that is whole by then, in order: nothing is kept back.
  pub told_at_once :
      {pieces texts : List (List ℕ)} {t : Trace} → Called pieces texts t
      → flatten texts ≡ header ++ lines_of fresh_controller (words_in (flatten pieces))
  unfolding lines_fed begun
  told_at_once c = (as_one c).1

  -- However the input was cut, all that was put out is the text of the whole input.
  pub cut_anywhere :
      {pieces texts : List (List ℕ)} (t : Bor Trace) → Called pieces texts t.now
      → (κs : _) (page left : MutBor (ArrayVec ℕ)) → finish_call.Post κs (t, (page, tt)) tt (t, (left, tt))
      → flatten (texts ++ (put page left ∷ [])) ≡ text_of (flatten pieces)
  cut_anywhere {pieces} {texts} t c κs page left p =
      flatten_one texts (put page left)
      ∙ rw (put_text page left (ending_of t.now) p, (as_one c).1, (as_one c).0, append_assoc) (whole_text (flatten pieces))

  -- ---- the contracts determine what they speak of

  pub feed_determined :
      (κs : _) (t told told' : MutBor Trace) (input : Bor (List ℕ)) (page left left' : MutBor (ArrayVec ℕ))
      → feed_call.Post the_row L telling D κs (t, (input, (page, tt))) tt (told, (input, (left, tt)))
      → feed_call.Post the_row L telling D κs (t, (input, (page, tt))) tt (told', (input, (left', tt))) → (told.now ≡ told'.now) × (left.now ≡ left'.now)
  feed_determined κs t told told' input page left left' p q = lines_determined the_row L telling D κs t told told' input page left left' p q

pub begin_determined :
    (κs : _) (page left left' : MutBor (ArrayVec ℕ)) (r r' : Trace) → begin_call.Post κs (page, tt) r (left, tt)
    → begin_call.Post κs (page, tt) r' (left', tt) → (r ≡ r') × (left.now ≡ left'.now)
begin_determined κs page left left' r r' p q = (p.0 ∙ sym q.0, same_page (p.1 ∙ sym q.1))

pub finish_determined :
    (κs : _) (t : Bor Trace) (page left left' : MutBor (ArrayVec ℕ)) → finish_call.Post κs (t, (page, tt)) tt (t, (left, tt))
    → finish_call.Post κs (t, (page, tt)) tt (t, (left', tt)) → left.now ≡ left'.now
finish_determined κs t page left left' p q = same_page (p ∙ sym q)

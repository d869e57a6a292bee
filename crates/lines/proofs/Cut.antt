-- Pieces one after the other, each fed by a call that answered as its contract says: however the input is cut, the state and all that
-- was put out are those of one piece that is the whole input. Assumes nothing.
use Prim.Native.Nat.{ℕ}
use mathlib.Core.Path.{◌≡◌, ap, ◌∙◌, sym}
use mathlib.Core.List.{List, [], ◌∷◌, ◌++◌, append_assoc, append-nil, flatten}
use lib.ListN.{length, drop}
use lib.Seq.{drop-append_seam}
use denote.Ref.{Bor, MutBor}
use denote.RattleType.{RattleType}
use denote.Param.Laws.{Laws}
use mir.Syntax.{Dict}
use Rattle.arrayvec.specs.ArrayVec.{ArrayVec}
use Rattle.lines.specs.declared.tell.Telling.{Ghosts}
use Rattle.lines.proofs.tell.feed.Reads as feed_call

-- What a call has put into a page, behind what stood there.
abbrev pub put : MutBor (ArrayVec ℕ) → MutBor (ArrayVec ℕ) → List ℕ
put page left = drop (length page.now.items) left.now.items

pub put_text : (page left : MutBor (ArrayVec ℕ)) (text : List ℕ) → left.now.items ≡ page.now.items ++ text → put page left ≡ text
put_text page left text e = rw e (drop-append_seam page.now.items text)

-- One list more at the end.
pub flatten_one : (ls : List (List ℕ)) (l : List ℕ) → flatten (ls ++ (l ∷ [])) ≡ flatten ls ++ l
unfolding flatten
flatten_one [] l = append-nil l
flatten_one (k ∷ ls) l = ap (λ r. k ++ r) (flatten_one ls l) ∙ sym (append_assoc k (flatten ls) l)

module _ (T : RattleType) (L : Laws T) (G : Ghosts T.Denot) (D : Dict) (start : T.Denot) (front : List ℕ) where
  -- The pieces so far, what was put out for each behind the text in front, and the state.
  pub data Fed : List (List ℕ) → List (List ℕ) → T.Denot → Type 0 where
    none : Fed [] (front ∷ []) start
    feed :
        {pieces texts : List (List ℕ)} (κs : _) (teller told : MutBor T.Denot) (input : Bor (List ℕ)) (page left : MutBor (ArrayVec ℕ))
        → Fed pieces texts teller.now → feed_call.Post T L G D κs (teller, (input, (page, tt))) tt (told, (input, (left, tt)))
        → Fed (pieces ++ (input.now ∷ [])) (texts ++ (put page left ∷ [])) told.now

  pub as_one_piece :
      {pieces texts : List (List ℕ)} {s : T.Denot} → Fed pieces texts s
      → (s ≡ G.after start (flatten pieces)) × (flatten texts ≡ front ++ G.text start (flatten pieces))
  unfolding flatten
  as_one_piece none = (sym (G.laws.after_none start), rw (G.laws.text_none start))
  as_one_piece (feed {pieces} {texts} κs teller told input page left fed p) =
      let before = as_one_piece fed in (
        p.0 ∙ rw (before.0, flatten_one pieces, G.laws.after_append start (flatten pieces) input.now),
        flatten_one texts (put page left)
            ∙ rw (put_text page left (G.text teller.now input.now) p.1, before.1, before.0, flatten_one pieces, G.laws.text_append start (flatten pieces) input.now, append_assoc),
      )

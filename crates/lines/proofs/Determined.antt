-- The contract of each exported call, as the checker reads it, determines the call's answer. Assumes nothing.
use Prim.Native.Nat.{ℕ}
use mathlib.Core.Path.{◌≡◌, ap, ◌∙◌, sym}
use mathlib.Core.List.{List}
use denote.Ref.{Bor, MutBor}
use denote.RattleType.{RattleType}
use denote.Param.Laws.{Laws}
use mir.Syntax.{Dict}
use Rattle.arrayvec.specs.ArrayVec.{ArrayVec}
use Rattle.std.specs.declared.result.Result.{Result}
use Rattle.std.specs.declared.option.Option.{Option}
use Rattle.std.specs.declared.io.Error.{Error}
use Rattle.lines.specs.declared.tell.Telling.{Ghosts}
use Rattle.lines.specs.declared.reads.Stopped.{Stopped}
use Rattle.lines.proofs.line.line.Reads as line_call
use Rattle.lines.proofs.reads.answered.Reads as answered_call
use Rattle.lines.proofs.text.put.Reads as put_call
use Rattle.lines.proofs.text.copy.Reads as copy_call
use Rattle.lines.proofs.tell.feed.Reads as feed_call
use Rattle.dock.specs.Answers.{Answer}

pub line_determined :
    (word : ℕ) (answer : Answer) (r s : List ℕ) → line_call.Post tt (word, (answer, tt)) r (word, (answer, tt))
    → line_call.Post tt (word, (answer, tt)) s (word, (answer, tt)) → r ≡ s
line_determined word answer r s p q = p ∙ sym q

pub answered_determined :
    (κs : _) (got : Result ℕ Error) (buffer : Bor (List ℕ)) (r r' : Result (Option ℕ) Stopped) → answered_call.Post κs (got, (buffer, tt)) r (got, (buffer, tt))
    → answered_call.Post κs (got, (buffer, tt)) r' (got, (buffer, tt)) → r ≡ r'
answered_determined κs got buffer r r' p q = p ∙ sym q

-- A page is its text.
pub same_page : {page page' : ArrayVec ℕ} → page.items ≡ page'.items → page ≡ page'
same_page e = ap (λ (text : List ℕ). record { items = text }) e

pub put_determined :
    (κs : _) (text : Bor (List ℕ)) (page left left' : MutBor (ArrayVec ℕ)) → put_call.Post κs (text, (page, tt)) tt (text, (left, tt))
    → put_call.Post κs (text, (page, tt)) tt (text, (left', tt)) → left.now ≡ left'.now
put_determined κs text page left left' p q = same_page (p ∙ sym q)

pub copy_determined :
    (κs : _) (text : Bor (List ℕ)) (output left left' : MutBor (List ℕ)) (n n' : ℕ) → copy_call.Post κs (text, (output, tt)) n (text, (left, tt))
    → copy_call.Post κs (text, (output, tt)) n' (text, (left', tt)) → (n ≡ n') × (left.now ≡ left'.now)
copy_determined κs text output left left' n n' p q = (p.0 ∙ sym q.0, p.1 ∙ sym q.1)

pub feed_determined :
    (T : RattleType) (L : Laws T) (G : Ghosts T.Denot) (D : Dict) (κs : _) (teller told told' : MutBor T.Denot) (input : Bor (List ℕ))
    (page left left' : MutBor (ArrayVec ℕ)) → feed_call.Post T L G D κs (teller, (input, (page, tt))) tt (told, (input, (left, tt)))
    → feed_call.Post T L G D κs (teller, (input, (page, tt))) tt (told', (input, (left', tt))) → (told.now ≡ told'.now) × (left.now ≡ left'.now)
feed_determined T L G D κs teller told told' input page left left' p q = (p.0 ∙ sym q.0, same_page (p.1 ∙ sym q.1))

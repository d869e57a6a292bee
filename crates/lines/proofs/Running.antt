-- A run from one read to the next: what has been heard and told so far, where the reader's bytes and the writer's are known. Assumes
-- nothing.
use Prim.Native.Nat.{ℕ, ◌+◌, ◌≤◌}
use native.Mathlib.Omega.{arith}
use mathlib.Core.Path.{◌≡◌, sym}
use mathlib.Core.List.{List, [], ◌++◌, append_assoc, append-nil}
use lib.ListN.{length}
use Rattle.std.specs.declared.option.Option.{Option}
use Rattle.std.specs.Io.KnownBytes.{Consumes, Appends}
use Rattle.lines.specs.Telling.{TellingLaws, Tells, run_text}
use Rattle.lines.proofs.Known.{consumes_none, consumes_more, appends_none, appends_more}

module _ {S : Type 0} {text : S → List ℕ → List ℕ} {after : S → List ℕ → S} {ending : S → List ℕ} {most : ℕ → ℕ} {hears : S → ℕ → Type 0} (laws : TellingLaws text after ending most hears) (start : S) (front : List ℕ) (left₀ held₀ : Option (List ℕ)) where
  -- What was heard and written so far; the page has the rest of its text; so many bytes more can be counted.
  pub record Running (more : ℕ) (s : S) (page : List ℕ) (left held : Option (List ℕ)) : Type 0 where
    pub bytes : List ℕ
    pub out : List ℕ
    pub heard : Consumes left₀ left bytes
    pub state : s ≡ after start bytes
    pub told : Appends held₀ held out
    pub texts : out ++ page ≡ front ++ text start bytes
    pub counts : hears s more

  pub running_first : (more : ℕ) → hears start more → Running more start front left₀ held₀
  running_first more counts =
      record {
        bytes = [];
        out = [];
        heard = consumes_none left₀;
        state = sym (laws.after_none start);
        told = appends_none held₀;
        texts = rw (laws.text_none start) (sym (append-nil front));
        counts = counts;
      }

  module _ (more : ℕ) (s : S) (page : List ℕ) (left held : Option (List ℕ)) (r : Running more s page left held) where
    pub piece_counts : (n : ℕ) → n ≤ more → hears s n
    piece_counts n l = laws.hears_fewer s n more l r.counts

    -- The page was written, and a piece has come.
    pub running_on :
        (left' held' : Option (List ℕ)) (xs : List ℕ) (size more' : ℕ) → Appends held held' page → Consumes left left' xs → length xs ≤ size
        → more ≡ size + more' → Running more' (after s xs) (text s xs) left' held'
    running_on left' held' xs size more' written came l e =
        record {
          bytes = r.bytes ++ xs;
          out = r.out ++ page;
          heard = consumes_more left₀ left left' r.bytes xs r.heard came;
          state = rw (laws.after_append start r.bytes xs, ← r.state);
          told = appends_more held₀ held held' r.out page r.told written;
          texts = rw (r.texts, laws.text_append start r.bytes xs, ← r.state) (append_assoc front (text start r.bytes) (text s xs));
          counts = laws.hears_on s xs more' (piece_counts (length xs + more') (omega (arith, l, e)));
        }

    -- The page was written, and nothing came:
    module _ (left' held' : Option (List ℕ)) (written : Appends held held' page) (came : Consumes left left' []) where
      heard_all : Consumes left₀ left' r.bytes
      heard_all = let both = consumes_more left₀ left left' r.bytes [] r.heard came in rw (append-nil r.bytes) at both

      -- since the read failed;
      pub running_unread : Tells (λ bytes. front ++ text start bytes) left₀ left' held₀ held'
      running_unread =
          record {
            bytes = r.bytes;
            heard = heard_all;
            told = (let both = appends_more held₀ held held' r.out page r.told written in rw r.texts at both);
          }

      -- or at the end, and the ending was written.
      pub running_out : (held'' : Option (List ℕ)) → Appends held' held'' (ending s) → Tells (run_text text after ending start front) left₀ left' held₀ held''
      running_out held'' last =
          record {
            bytes = r.bytes;
            heard = heard_all;
            told = (
                let both = appends_more held₀ held' held'' (r.out ++ page) (ending s) (appends_more held₀ held held' r.out page r.told written) last in
                rw (r.texts, r.state, append_assoc) at both
                );
          }

-- One text for another that is the same.
pub tells_same :
    {text text' : List ℕ → List ℕ} {left₀ left held₀ held : Option (List ℕ)} → ((bytes : List ℕ) → text bytes ≡ text' bytes)
    → Tells text left₀ left held₀ held → Tells text' left₀ left held₀ held
tells_same same t = record { bytes = t.bytes; heard = t.heard; told = rw (same t.bytes) at t.told }

-- A program that hears an input in pieces and puts out a text. The loop over a piece: after i bytes the state and the text are those
-- of these bytes. Pieces one after the other: their texts, joined, are the text of the whole. Assumes nothing.
use Prim.Native.Nat.{ℕ, ◌+◌, ◌<◌, ◌≤◌}
use native.Mathlib.Omega.{arith}
use native.Mathlib.Numerals.{add-one}
use mathlib.Core.Path.{◌≡◌, ap, ◌∙◌, sym}
use mathlib.Core.List.{List, [], ◌∷◌, ◌++◌, append_assoc, append-nil}
use lib.ListN.{length, get_or, take, drop, length-append}
use lib.Seq.{take-suc, take-length, length-take-le}
use Rattle.std.proofs.Common.{take-append-drop}
use Rattle.lines.specs.Telling.{TellingLaws}

module _ {S : Type 0} {text : S → List ℕ → List ℕ} {after : S → List ℕ → S} {ending : S → List ℕ} {most : ℕ → ℕ} {hears : S → ℕ → Type 0} (laws : TellingLaws text after ending most hears) where
  -- ---- the loop over a piece

  -- The first i bytes of a piece have been heard, from the state s₀ and behind the text b₀.
  pub record Heard (s₀ : S) (input b₀ : List ℕ) (i : ℕ) (s : S) (b : List ℕ) : Type 0 where
    pub within : i ≤ length input
    pub state : s ≡ after s₀ (take i input)
    pub written : b ≡ b₀ ++ text s₀ (take i input)

  pub none_heard : (s : S) (input b : List ℕ) → Heard s input b 0 s b
  none_heard s input b =
      record {
        within = omega arith;
        state = sym (laws.after_none s);
        written = rw (laws.text_none s) (sym (append-nil b));
      }

  module _ (s₀ : S) (input b₀ : List ℕ) (i : ℕ) (s : S) (b : List ℕ) (h : Heard s₀ input b₀ i s b) (l : i < length input) where
    next : take (i + 1) input ≡ take i input ++ (get_or input i 0 ∷ [])
    next = rw add-one (take-suc input i 0 l)

    texts : text s₀ (take (i + 1) input) ≡ text s₀ (take i input) ++ text s (get_or input i 0 ∷ [])
    texts = rw (next, laws.text_append s₀ (take i input), ← h.state)

    -- One byte more can be counted,
    pub one_counts : hears s₀ (length input) → hears s 1
    one_counts c =
        rw h.state (laws.hears_on s₀ (take i input) 1 (laws.hears_fewer s₀ (length (take i input) + 1) (length input) (omega (arith, length-take-le i input h.within)) c))

    -- its text fits where that of the whole piece does,
    pub one_fits : (n : ℕ) → length b₀ + length (text s₀ input) ≤ n → length b + length (text s (get_or input i 0 ∷ [])) ≤ n
    one_fits n fits =
        let whole : text s₀ (take (i + 1) input) ++ text (after s₀ (take (i + 1) input)) (drop (i + 1) input) ≡ text s₀ input = sym (laws.text_append s₀ (take (i + 1) input) (drop (i + 1) input)) ∙ ap (text s₀) (take-append-drop (i + 1) input) in
        omega (
          arith,
          fits,
          ap length h.written,
          length-append b₀ (text s₀ (take i input)),
          ap length texts,
          length-append (text s₀ (take i input)) (text s (get_or input i 0 ∷ [])),
          ap length whole,
          length-append (text s₀ (take (i + 1) input)) (text (after s₀ (take (i + 1) input)) (drop (i + 1) input)),
        )

    -- and then it has been heard.
    pub one_more : Heard s₀ input b₀ (i + 1) (after s (get_or input i 0 ∷ [])) (b ++ text s (get_or input i 0 ∷ []))
    one_more =
        record {
          within = omega arith;
          state = rw (next, laws.after_append s₀ (take i input), ← h.state);
          written = rw (texts, ← append_assoc, ← h.written);
        }

  -- All of the piece has been heard.
  pub all_heard :
      (s₀ : S) (input b₀ : List ℕ) (i : ℕ) (s : S) (b : List ℕ) → Heard s₀ input b₀ i s b → length input ≤ i
      → (s ≡ after s₀ input) × (b ≡ b₀ ++ text s₀ input)
  all_heard s₀ input b₀ i s b h l =
      let whole : take i input ≡ input = (let e : i ≡ length input = omega (arith, h.within) in rw e (take-length input)) in
      (h.state ∙ rw whole, h.written ∙ rw whole)

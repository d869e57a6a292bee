-- The loop over samples: after i of them the held state and the words are those of these samples, and the places after the words are as
-- they came. Assumes nothing.
use Prim.Native.Nat.{ℕ, ◌+◌, ◌<◌, ◌≤◌}
use native.Mathlib.Omega.{arith}
use native.Mathlib.Numerals.{add-one}
use mathlib.Core.Path.{◌≡◌, refl, ap, ◌∙◌, sym}
use mathlib.Core.List.{List, [], ◌∷◌, ◌++◌, append-nil}
use lib.ListN.{length, get_or, set, take, length-append}
use lib.Seq.{take-suc, take-length, length-take-le}
use Rattle.std.specs.Prelude.{Option, Some, None, Ok}
use Rattle.event.specs.Words.{packed, pack_word}
use Rattle.event.specs.declared.Event.{Event}
use Rattle.wire.specs.Hear.{hear_of, after, spelled, words_of}
use Rattle.wire.specs.Listen.{written}
use Rattle.wire.specs.declared.Wire.{Wire}
use Rattle.wire.specs.declared.Heard.{Heard}
use Rattle.wire.specs.declared.Listened.{Listened}
use Rattle.wire.proofs.Cut.{after_append, words_append, words_most}
use Rattle.wire.proofs.Places.{written_none, written_length, written_then}

-- The first i samples have been heard, from the held state w₀ and the places p₀.
pub record Taken (w₀ : Wire) (ss p₀ : List ℕ) (i : ℕ) (w : Wire) (count : ℕ) (p : List ℕ) : Type 0 where
  pub within : i ≤ length ss
  pub state : w ≡ after w₀ (take i ss)
  pub counted : count ≡ length (words_of w₀ (take i ss))
  pub places : p ≡ written (words_of w₀ (take i ss)) p₀

pub none_taken : (w : Wire) (ss p : List ℕ) → Taken w ss p 0 w 0 p
unfolding after words_of
none_taken w ss p = record { within = omega arith; state = refl; counted = refl; places = sym (written_none p) }

module _ (w₀ : Wire) (ss p₀ : List ℕ) (i : ℕ) (w : Wire) (count : ℕ) (p : List ℕ) (h : Taken w₀ ss p₀ i w count p) (room : length ss ≤ length p₀) where
  most : count ≤ i
  most = omega (arith, h.counted, words_most w₀ (take i ss), length-take-le i ss h.within)

  length_kept : length p ≡ length p₀
  length_kept = ap length h.places ∙ written_length (words_of w₀ (take i ss)) p₀ (omega (arith, most, h.counted, h.within))

  -- While there are samples left there is a place for a word.
  pub word_fits : i < length ss → (count < length p) × (length p ≡ length p₀)
  word_fits l = (omega (arith, most, length_kept), length_kept)

  next : i < length ss → take (i + 1) ss ≡ take i ss ++ (get_or ss i 0 ∷ [])
  next l = rw add-one (take-suc ss i 0 l)

  more : i < length ss → words_of w₀ (take (i + 1) ss) ≡ words_of w₀ (take i ss) ++ spelled (hear_of w (get_or ss i 0)).given
  unfolding words_of
  more l = rw (next l, words_append w₀ (take i ss), ← h.state) (ap (λ ws. words_of w₀ (take i ss) ++ ws) (append-nil _))

  -- One sample more, which gives no word.
  none_more : i < length ss → (hear_of w (get_or ss i 0)).given ≡ None → Taken w₀ ss p₀ (i + 1) (hear_of w (get_or ss i 0)).wire count p
  unfolding after
  none_more l g =
      let same : words_of w₀ (take (i + 1) ss) ≡ words_of w₀ (take i ss) = more l ∙ rw (g, append-nil (words_of w₀ (take i ss))) in
      record {
        within = omega arith;
        state = rw (next l, after_append w₀ (take i ss), ← h.state);
        counted = rw same h.counted;
        places = rw same h.places;
      }

  -- .. and one that does: it goes to the first place that is left.
  one_more :
      (e : Event) → i < length ss → (hear_of w (get_or ss i 0)).given ≡ Some e
      → Taken w₀ ss p₀ (i + 1) (hear_of w (get_or ss i 0)).wire (count + 1) (set p count (pack_word (packed e)))
  unfolding after
  one_more e l g =
      let longer : words_of w₀ (take (i + 1) ss) ≡ words_of w₀ (take i ss) ++ (pack_word (packed e) ∷ []) = more l ∙ rw g refl in
      record {
        within = omega arith;
        state = rw (next l, after_append w₀ (take i ss), ← h.state);
        counted = rw longer (omega (arith, h.counted, length-append (words_of w₀ (take i ss)) (pack_word (packed e) ∷ [])));
        places = rw (longer, h.counted, h.places) (written_then (words_of w₀ (take i ss)) (pack_word (packed e)) p₀ (omega (arith, h.counted, most, room, l)));
      }

  -- .. by what was heard.
  module _ (r : Heard) (is : r ≡ hear_of w (get_or ss i 0)) (l : i < length ss) where
    given-is : (hear_of w (get_or ss i 0)).given ≡ r.given
    given-is = ap (λ (x : Heard). x.given) (sym is)

    pub nothing_given : ((e : Event) → r.given ≡ Some e → ⊥) → Taken w₀ ss p₀ (i + 1) r.wire count p
    nothing_given n = rw is (none_more l (go r.given refl))
      where
        go : (g : Option Event) → r.given ≡ g → (hear_of w (get_or ss i 0)).given ≡ None
        go None e = given-is ∙ e
        go (Some x) e = absurd (n x e)

    pub one_given : (e : Event) → r.given ≡ Some e → Taken w₀ ss p₀ (i + 1) r.wire (count + 1) (set p count (pack_word (packed e)))
    one_given e g = rw is (one_more e l (given-is ∙ g))

-- All samples have been heard.
pub all_taken :
    (w₀ : Wire) (ss p₀ : List ℕ) (i : ℕ) (w : Wire) (count : ℕ) (p : List ℕ) → Taken w₀ ss p₀ i w count p → length ss ≤ i
    → (◌≡◌ {A = Listened} (record { wire = w; outcome = Ok count }) (record { wire = after w₀ ss; outcome = Ok (length (words_of w₀ ss)) })) × (p ≡ written (words_of w₀ ss) p₀)
all_taken w₀ ss p₀ i w count p h l =
    let whole : take i ss ≡ ss = (let e : i ≡ length ss = omega (arith, h.within) in rw e (take-length ss)) in
    (rw (h.state, h.counted, whole), h.places ∙ rw whole)

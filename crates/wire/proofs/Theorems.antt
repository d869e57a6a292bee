-- The theorems on the wire cell (document 02, request 7). They are about the definitions of specs/, which the contract of `listen` gives as the
-- whole answer and all places. Assumes nothing.
use Prim.Native.Nat.{ℕ, ◌<◌, ◌≤◌}
use mathlib.Core.Path.{◌≡◌, refl, ap, sym, ◌∙◌}
use mathlib.Core.Logic.{◌≢◌}
use mathlib.Core.Bool.{Bool, true, false}
use mathlib.Core.List.{List, [], ◌∷◌, ◌++◌, map}
use lib.ListN.{length}
use borrow.Author.Tests.{lt-ltb, le-ltb}
use denote.Ref.{Bor, MutBor}
use Rattle.std.specs.Prelude.{Option, Result, Ok, Err}
use Rattle.calls.specs.Numbers.{outcome_refusal, outcome_count}
use Rattle.calls.specs.declared.Refusal.{Refusal}
use Rattle.calls.specs.declared.Refusal.TheVariants.{Unfit, TooFewPlaces, TooMany}
use Rattle.event.specs.Words.{word_of}
use Rattle.event.specs.declared.Event.{Event}
use Rattle.wire.specs.Record.{fresh_wire, fits}
use Rattle.wire.specs.Hear.{hear_of, after, events_of, spelled, words_of}
use Rattle.wire.specs.Listen.{outcome_of, state_by, places_by}
use Rattle.wire.specs.Waves.{Wave}
use Rattle.wire.specs.declared.Wire.{Wire}
use Rattle.wire.specs.declared.Heard.{Heard}
use Rattle.wire.specs.declared.Listened.{Listened}
use Rattle.wire.proofs.Cut.{after_append, words_append, at_most_one, words_most}
use Rattle.wire.proofs.Spoken.{words_of_events}
use Rattle.wire.proofs.Waves.{heard}
use Rattle.wire.proofs.listen.listen.Reads as listen_reads
use Rattle.wire.proofs.Wire.hear.Reads as hear_reads
use Rattle.wire.proofs.Wire.fresh.Reads as fresh_reads
use Rattle.wire.proofs.Wire.fit.Reads as fit_reads
use Rattle.wire.proofs.image.save.Reads as save_reads
use Rattle.wire.proofs.image.load.Reads as load_reads

-- ---- any waveform that spells a list of bus events is heard as those events

pub record HeardAs (ss : List ℕ) (es : List Event) : Type 0 where
  pub events : events_of fresh_wire ss ≡ es
  pub words : words_of fresh_wire ss ≡ map word_of es

pub heard_as_spelled : (es : List Event) (ss : List ℕ) → Wave false true es ss → HeardAs ss es
unfolding fresh_wire
heard_as_spelled es ss w =
    let h : events_of fresh_wire ss ≡ es = heard w fresh_wire.ear refl in
    record { events = h; words = words_of_events fresh_wire ss ∙ ap (map word_of) h }

-- ---- a sample gives at most one word

pub record AtMostOne (w : Wire) (ss : List ℕ) : Type 0 where
  pub of_one : (s : ℕ) → length (spelled (hear_of w s).given) ≤ 1
  pub of_many : length (words_of w ss) ≤ length ss

pub at_most_one_word : (w : Wire) (ss : List ℕ) → AtMostOne w ss
at_most_one_word w ss = record { of_one = λ s. at_most_one (hear_of w s).given; of_many = words_most w ss }

-- ---- however samples are cut into batches, the words and the held state are the same

abbrev pub whole : List (List ℕ) → List ℕ
whole [] = []
whole (b ∷ bs) = b ++ whole bs

abbrev pub after_all : Wire → List (List ℕ) → Wire
after_all w [] = w
after_all w (b ∷ bs) = after_all (after w b) bs

abbrev pub words_all : Wire → List (List ℕ) → List ℕ
words_all w [] = []
words_all w (b ∷ bs) = words_of w b ++ words_all (after w b) bs

pub record Cut (w : Wire) (bs : List (List ℕ)) : Type 0 where
  pub same_state : after_all w bs ≡ after w (whole bs)
  pub same_words : words_all w bs ≡ words_of w (whole bs)

pub cut_anywhere : (w : Wire) (bs : List (List ℕ)) → Cut w bs
unfolding after words_of
cut_anywhere w [] = record { same_state = refl; same_words = refl }
cut_anywhere w (b ∷ bs) =
    let r = cut_anywhere (after w b) bs in
    record {
      same_state = r.same_state ∙ sym (after_append w b (whole bs));
      same_words = ap (λ ws. words_of w b ++ ws) r.same_words ∙ sym (words_append w b (whole bs));
    }

-- ---- the four cases of the call, of which one always holds, and no two: the refusals in the request's order, and no refusal

pub record Cases (w : Wire) (ss : List ℕ) (places : ℕ) : Type 0 where
  -- 1: a held state with over 8 bits or a low run over 17,501.
  pub one : fits w ≡ false → outcome_of w ss places ≡ Err Unfit
  -- 5: over 16,384 samples.
  pub five : fits w ≡ true → 16384 < length ss → outcome_of w ss places ≡ Err TooMany
  -- 4: fewer places than samples.
  pub four : fits w ≡ true → length ss ≤ 16384 → places < length ss → outcome_of w ss places ≡ Err TooFewPlaces
  -- 0: none of these; the count is the number of words.
  pub none : fits w ≡ true → length ss ≤ 16384 → length ss ≤ places → outcome_of w ss places ≡ Ok (length (words_of w ss))

pub by_case : (w : Wire) (ss : List ℕ) (places : ℕ) → Cases w ss places
unfolding outcome_of
by_case w ss places =
    record {
      one = λ f. rw f;
      five = λ f m. rw (f, lt-ltb 16384 (length ss) m);
      four = λ f m b. rw (f, le-ltb 16384 (length ss) m, lt-ltb places (length ss) b);
      none = λ f m b. rw (f, le-ltb 16384 (length ss) m, le-ltb places (length ss) b);
    }

-- Refused: the held state as given, count 0, nothing written.
pub record Untouched (o : Result ℕ Refusal) (w : Wire) (ss places : List ℕ) : Type 0 where
  pub state : state_by o w ss ≡ w
  pub words : places_by o w ss places ≡ places
  pub count : outcome_count o ≡ 0

pub refused_untouched : (o : Result ℕ Refusal) (w : Wire) (ss places : List ℕ) → outcome_refusal o ≢ 0 → Untouched o w ss places
refused_untouched (Ok n) w ss places h = absurd (h refl)
refused_untouched (Err r) w ss places h = record { state = refl; words = refl; count = refl }

-- ---- the contracts determine their answers

pub fresh_determined : (r r' : Wire) → fresh_reads.Post tt tt r tt → fresh_reads.Post tt tt r' tt → r ≡ r'
fresh_determined r r' p q = p ∙ sym q

pub fit_determined : (w : Wire) (r r' : Bool) → fit_reads.Post tt (w, tt) r (w, tt) → fit_reads.Post tt (w, tt) r' (w, tt) → r ≡ r'
fit_determined w r r' p q = p ∙ sym q

pub hear_determined : (w : Wire) (s : ℕ) (r r' : Heard) → hear_reads.Post tt (w, (s, tt)) r (w, (s, tt)) → hear_reads.Post tt (w, (s, tt)) r' (w, (s, tt)) → r ≡ r'
hear_determined w s r r' p q = p ∙ sym q

pub save_determined : (w : Wire) (r r' : List ℕ) → save_reads.Post tt (w, tt) r (w, tt) → save_reads.Post tt (w, tt) r' (w, tt) → r ≡ r'
save_determined w r r' p q = p ∙ sym q

pub load_determined :
    (κs : _) (bytes : Bor (List ℕ)) (r r' : Option Wire) → load_reads.Post κs (bytes, tt) r (bytes, tt) → load_reads.Post κs (bytes, tt) r' (bytes, tt) → r ≡ r'
load_determined κs bytes r r' p q = p ∙ sym q

-- Of the call also the places that it leaves.
pub listen_determined :
    (κs : _) (w : Wire) (samples : Bor (List ℕ)) (words : MutBor (List ℕ)) (r r' : Listened) (left left' : MutBor (List ℕ))
    → listen_reads.Post κs (w, (samples, (words, tt))) r (w, (samples, (left, tt)))
    → listen_reads.Post κs (w, (samples, (words, tt))) r' (w, (samples, (left', tt)))
    → (r ≡ r') × (left.now ≡ left'.now)
listen_determined κs w samples words r r' left left' p q = (p.0 ∙ sym q.0, p.1 ∙ sym q.1)

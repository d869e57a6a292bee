-- The theorems on event words (document 01, "Event words"; demand 2: "Events and packed words that aren't refused convert each
-- into the other without change"). They are about the definitions of `specs/Words.antt`, which the contracts of `unpack` and
-- `pack` give as the whole answer. Assumes nothing.
use Prim.Native.Nat.{ℕ, ◌+◌, ◌*◌, ◌^◌, ◌≤◌, ◌<◌}
use native.Mathlib.Omega.{arith}
use mathlib.Core.Path.{◌≡◌, refl, ap, ◌∙◌, sym}
use mathlib.Core.Logic.{◌↔◌}
use mathlib.Core.Bool.{Bool, true, false}
use lib.Dec.{ltb, eqb}
use borrow.Author.Tests.{ltb-true, ltb-false}
use Rattle.bits.specs.Straps.{MOST_STRAPS}
use Rattle.event.specs.Words.{kind_of, field_of, bits_of, event_of, accept, unpacked, StrayBitSet, word_of, straps_of, word_unless, packed, Bytes, is_reset, is_reset_word, unpack_refusal, pack_refusal, pack_word}
use Rattle.event.specs.declared.Event.{Event}
use Rattle.event.specs.declared.Event.TheVariants.{Start, Stop, Byte, Take, Pins, Tick, Reset, Timeout}
use Rattle.event.proofs.Rows as rows
use Rattle.event.proofs.Bits.{high_bit, no_high_bit}
use Rattle.event.proofs.RoundTrip.{accepted_row, word_back, accepted_back, event_back, accepted_is_none, word_is_none}
use Rattle.event.proofs.unpack.Reads as unpack_reads
use Rattle.event.proofs.pack.Reads as pack_reads
use Rattle.event.proofs.Event.is_reset.Reads as is_reset_lem
use Rattle.event.proofs.resets.Reads as resets_reads
use Rattle.event.proofs.packed_word.Reads as packed_word_reads
use Rattle.event.proofs.NoEvent.number.Reads as no_event_reads
use Rattle.event.proofs.NoWord.number.Reads as no_word_reads
use Rattle.std.specs.Prelude.{Result, Ok, Err}
use Rattle.event.specs.declared.NoEvent.{NoEvent}
use Rattle.event.specs.declared.NoWord.{NoWord}
use Rattle.event.specs.Words.{no_event, no_word}

-- Unpacking then packing gives the word back, for every word that isn't refused.
pub unpack_then_pack : (w : ℕ) → w < 2 ^ 16 → (e : Event) → unpacked w ≡ Ok e → packed e ≡ Ok w
unpack_then_pack = word_back

-- Packing then unpacking gives the event back, for every event that isn't refused.
pub pack_then_unpack : (e : Event) → Bytes e → (w : ℕ) → packed e ≡ Ok w → unpacked w ≡ Ok e
pack_then_unpack = event_back

-- The table, word by word: what each kind is, where its data stand.
pub record Table : Type 0 where
  pub start : unpacked 0x0000 ≡ Ok Start
  pub stop : unpacked 0x2000 ≡ Ok Stop
  pub byte : (b : ℕ) → b < 256 → unpacked (0x4000 + b) ≡ Ok (Byte b)
  pub take_nack : unpacked 0x6000 ≡ Ok (Take false)
  pub take_ack : unpacked 0x6001 ≡ Ok (Take true)
  pub pins : (levels : ℕ) → levels < 256 → unpacked (0x8000 + levels) ≡ Ok (Pins levels)
  pub tick : unpacked 0xA000 ≡ Ok Tick
  pub reset : (straps levels : ℕ) → straps < 16 → levels < 256 → unpacked (0xC000 + (straps * 256 + levels)) ≡ Ok (Reset straps levels false)
  pub reset_short : (straps levels : ℕ) → straps < 16 → levels < 256 → unpacked (0xD000 + (straps * 256 + levels)) ≡ Ok (Reset straps levels true)
  pub timeout : unpacked 0xE000 ≡ Ok Timeout

reset_word : {w : ℕ} (s l : ℕ) (short : Bool) → s < 16 → l < 256 → word_of (Reset s l short) ≡ w → unpacked w ≡ Ok (Reset s l short)
unfolding straps_of Bytes
reset_word s l short h b same = rw (← same) (accepted_back (Reset s l short) (omega (arith, h), b) h)

pub by_kind : Table
unfolding word_of straps_of Bytes
by_kind =
    record {
      start = accepted_back Start tt (omega arith);
      stop = accepted_back Stop tt (omega arith);
      byte = λ b l. accepted_back (Byte b) l (omega arith);
      take_nack = accepted_back (Take false) tt (omega arith);
      take_ack = accepted_back (Take true) tt (omega arith);
      pins = λ levels l. accepted_back (Pins levels) l (omega arith);
      tick = accepted_back Tick tt (omega arith);
      reset = λ straps levels h l. reset_word straps levels false h l (omega arith);
      reset_short = λ straps levels h l. reset_word straps levels true h l (omega arith);
      timeout = accepted_back Timeout tt (omega arith);
    }

-- A word is refused exactly when a bit that must be 0 is set.
pub words_refused : (w : ℕ) → (unpacked w ≡ Err no_event) ↔ StrayBitSet w
unfolding unpacked
words_refused w = go (ltb (field_of w) (2 ^ bits_of (kind_of w))) refl
  where
    go : (b : Bool) → ltb (field_of w) (2 ^ bits_of (kind_of w)) ≡ b → (accept b (event_of (kind_of w) (field_of w)) ≡ Err no_event) ↔ StrayBitSet w
    go true t = (λ p. absurd (accepted_is_none p), λ s. absurd (no_high_bit _ _ (ltb-true _ _ t) s))
    go false t = (λ p. high_bit 13 _ _ (ltb-false _ _ t) (omega arith), λ s. refl)

-- Kind by kind: the words refused are those whose bits below the kind make at least this number. No RESET is refused.
pub record Refused : Type 0 where
  pub start : (d : ℕ) → d < 8192 → (unpacked (0x0000 + d) ≡ Err no_event) ↔ (1 ≤ d)
  pub stop : (d : ℕ) → d < 8192 → (unpacked (0x2000 + d) ≡ Err no_event) ↔ (1 ≤ d)
  pub byte : (d : ℕ) → d < 8192 → (unpacked (0x4000 + d) ≡ Err no_event) ↔ (256 ≤ d)
  pub take : (d : ℕ) → d < 8192 → (unpacked (0x6000 + d) ≡ Err no_event) ↔ (2 ≤ d)
  pub pins : (d : ℕ) → d < 8192 → (unpacked (0x8000 + d) ≡ Err no_event) ↔ (256 ≤ d)
  pub tick : (d : ℕ) → d < 8192 → (unpacked (0xA000 + d) ≡ Err no_event) ↔ (1 ≤ d)
  pub reset : (d : ℕ) → d < 8192 → unpacked (0xC000 + d) ≡ Err no_event → ⊥
  pub timeout : (d : ℕ) → d < 8192 → (unpacked (0xE000 + d) ≡ Err no_event) ↔ (1 ≤ d)

refused_from : (k d : ℕ) → d < 8192 → (unpacked (k * 8192 + d) ≡ Err no_event) ↔ (2 ^ bits_of k ≤ d)
unfolding unpacked
refused_from k d l =
    let kind : kind_of (k * 8192 + d) ≡ k = omega arith in
    let field : field_of (k * 8192 + d) ≡ d = omega arith in
    rw (kind, field) (go (ltb d (2 ^ bits_of k)) refl)
  where
    go : (b : Bool) → ltb d (2 ^ bits_of k) ≡ b → (accept b (event_of k d) ≡ Err no_event) ↔ (2 ^ bits_of k ≤ d)
    go true t = (λ p. absurd (accepted_is_none p), λ h. absurd (omega (arith, ltb-true d (2 ^ bits_of k) t)))
    go false t = (λ p. ltb-false _ _ t, λ h. refl)

pub refused_by_kind : Refused
refused_by_kind =
    record {
      start = refused_from 0;
      stop = refused_from 1;
      byte = refused_from 2;
      take = refused_from 3;
      pins = refused_from 4;
      tick = refused_from 5;
      reset = λ d l p. omega (arith, (refused_from 6 d l).0 p);
      timeout = refused_from 7;
    }

-- By number: with 2.
pub refused_with_2 : (w : ℕ) → (unpack_refusal (unpacked w) ≡ 2) ↔ StrayBitSet w
refused_with_2 w = (λ n. (words_refused w).0 (stray (unpacked w) n), λ b. ap unpack_refusal ((words_refused w).1 b))
  where
    stray : (u : Result Event NoEvent) → unpack_refusal u ≡ 2 → u ≡ Err no_event
    stray (Ok e) n = absurd (omega (arith, n))
    stray (Err why) n = refl

-- An event is a RESET exactly when the kind of its word is 6.
row_reset : (d k : ℕ) → k < 8 → is_reset (event_of k d) ≡ eqb k 6
row_reset d =
    rows.by_kind (λ k. k < 8 → is_reset (event_of k d) ≡ eqb k 6) (λ h. refl) (λ h. refl) (λ h. refl) (λ h. refl) (λ h. refl) (λ h. refl)
    (λ h. refl) (λ h. refl) (λ n h. absurd (omega arith))

pub resets : (w : ℕ) → w < 2 ^ 16 → (e : Event) → unpacked w ≡ Ok e → is_reset e ≡ is_reset_word w
resets w l e p = rw (← (accepted_row w e p).1) (row_reset (field_of w) (kind_of w) (omega arith))

-- An event is refused exactly when its straps exceed 15.
pub events_refused : (e : Event) → (packed e ≡ Err no_word) ↔ (15 < straps_of e)
unfolding packed
events_refused e = go (ltb MOST_STRAPS (straps_of e)) refl
  where
    go : (b : Bool) → ltb MOST_STRAPS (straps_of e) ≡ b → (word_unless b (word_of e) ≡ Err no_word) ↔ (15 < straps_of e)
    go true t = (λ p. ltb-true _ _ t, λ h. refl)
    go false t = (λ p. absurd (word_is_none p), λ h. absurd (omega (arith, ltb-false MOST_STRAPS (straps_of e) t)))

-- By number: with 6, and the word is then 0.
pub refused_with_6 : (e : Event) → ((pack_refusal (packed e) ≡ 6) ↔ (15 < straps_of e)) × (pack_refusal (packed e) ≡ 6 → pack_word (packed e) ≡ 0)
refused_with_6 e = ((λ n. (events_refused e).0 (wide (packed e) n), λ l. ap pack_refusal ((events_refused e).1 l)), λ n. ap pack_word (wide (packed e) n))
  where
    wide : (p : Result ℕ NoWord) → pack_refusal p ≡ 6 → p ≡ Err no_word
    wide (Ok w) n = absurd (omega (arith, n))
    wide (Err why) n = refl

-- The contract of each call, as the checker reads it, determines the call's answer.
pub unpack_determined : (w : ℕ) (r s : Result Event NoEvent) → unpack_reads.Post tt (w, tt) r (w, tt) → unpack_reads.Post tt (w, tt) s (w, tt) → r ≡ s
unpack_determined w r s p q = p ∙ sym q

pub pack_determined : (e : Event) (r s : Result ℕ NoWord) → pack_reads.Post tt (e, tt) r (e, tt) → pack_reads.Post tt (e, tt) s (e, tt) → r ≡ s
pack_determined e r s p q = p ∙ sym q

pub is_reset_determined : (e : Event) (r s : Bool) → is_reset_lem.Post tt (e, tt) r (e, tt) → is_reset_lem.Post tt (e, tt) s (e, tt) → r ≡ s
is_reset_determined e r s p q = p ∙ sym q

pub resets_determined : (w : ℕ) (r s : Bool) → resets_reads.Post tt (w, tt) r (w, tt) → resets_reads.Post tt (w, tt) s (w, tt) → r ≡ s
resets_determined w r s p q = p ∙ sym q

pub packed_word_determined : (e : Event) (r s : ℕ) → packed_word_reads.Post tt (e, tt) r (e, tt) → packed_word_reads.Post tt (e, tt) s (e, tt) → r ≡ s
packed_word_determined e r s p q = p ∙ sym q

pub unpack_refusal_determined : (x : NoEvent) (r s : ℕ) → no_event_reads.Post tt (x, tt) r (x, tt) → no_event_reads.Post tt (x, tt) s (x, tt) → r ≡ s
unpack_refusal_determined x r s p q = p ∙ sym q

pub pack_refusal_determined : (x : NoWord) (r s : ℕ) → no_word_reads.Post tt (x, tt) r (x, tt) → no_word_reads.Post tt (x, tt) s (x, tt) → r ≡ s
pack_refusal_determined x r s p q = p ∙ sym q

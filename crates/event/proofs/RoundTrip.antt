-- The table read from left to right and from right to left: a kind and its data make an event that packs to them, and an event
-- packs to a kind and data that make it. Assumes nothing.
use Prim.Native.Nat.{ℕ, ◌+◌, ◌*◌, ◌/◌, ◌%◌, ◌^◌, ◌<◌}
use native.Mathlib.Omega.{arith}
use mathlib.Core.Path.{◌≡◌, refl, ap, sym, ◌∙◌}
use mathlib.Core.Bool.{Bool, true, false}
use lib.Dec.{ltb, eqb}
use borrow.Author.Tests.{lt-ltb, le-ltb, ltb-true, ltb-false, eqb-true, eqb-false}
use Rattle.bits.specs.Bits.{bit, put, put_weight}
use Rattle.bits.specs.Straps.{MOST_STRAPS}
use Rattle.event.specs.Words.{kind_of, field_of, bits_of, event_of, accept, unpacked, reset_data, word_of, straps_of, packed, word_unless, Bytes}
use Rattle.event.specs.declared.Event.{Event}
use Rattle.event.specs.declared.Event.TheVariants.{Start, Stop, Byte, Take, Pins, Tick, Reset, Timeout}
use Rattle.event.proofs.Rows.{by_kind}
use Rattle.std.specs.Prelude.{Ok, Err}
use Rattle.event.specs.Words.{no_event, no_word}

-- ---- an answer is not the other

pub accepted_is_none : {e : Event} → Ok e ≡ Err no_event → ⊥
accepted_is_none p = let z : ◌≡◌ {A = ℕ} 0 1 = cc in omega arith

pub word_is_none : {w : ℕ} → Ok w ≡ Err no_word → ⊥
word_is_none p = let z : ◌≡◌ {A = ℕ} 0 1 = cc in omega arith

-- ---- from a word to its event and back

-- A bit that is read and put back adds what it stood for.
bit_back : (weight d : ℕ) → d < 2 → put_weight weight (eqb d 1) ≡ weight * d
bit_back weight d h = go (eqb d 1) refl
  where
    go : (b : Bool) → eqb d 1 ≡ b → put_weight weight b ≡ weight * d
    go true e = rw (eqb-true d 1 e) (omega arith)
    go false e = let none : d ≡ 0 = omega (arith, eqb-false d 1 e) in rw none (omega arith)

reset_data_lem : (d : ℕ) → d < 8192 → reset_data (d / 256 % 16) (d % 256) (bit 12 d) ≡ d
reset_data_lem d l = omega (arith, bit_back 4096 (d / 4096 % 2) (omega arith))

packs_back : (d k : ℕ) → k < 8 → d < 2 ^ bits_of k → packed (event_of k d) ≡ Ok (k * 8192 + d)
unfolding packed word_of straps_of
packs_back d =
    by_kind (λ k. k < 8 → d < 2 ^ bits_of k → packed (event_of k d) ≡ Ok (k * 8192 + d))
    (λ h l. ap Ok (omega arith)) (λ h l. ap Ok (omega arith)) (λ h l. refl) (λ h l. ap Ok (omega (arith, bit_back 1 d l)))
    (λ h l. refl) (λ h l. ap Ok (omega arith)) (λ h l. rw (le-ltb MOST_STRAPS (d / 256 % 16) (omega arith)) (ap (λ n. Ok (6 * 8192 + n)) (reset_data_lem d l)))
    (λ h l. ap Ok (omega arith)) (λ n h l. absurd (omega arith))

-- The event of a word is that of its row, and its data have no more bits than the row gives them.
pub accepted_row : (w : ℕ) (e : Event) → unpacked w ≡ Ok e → (field_of w < 2 ^ bits_of (kind_of w)) × (event_of (kind_of w) (field_of w) ≡ e)
unfolding unpacked
accepted_row w e p = go (ltb (field_of w) (2 ^ bits_of (kind_of w))) refl p
  where
    go :
        (b : Bool) → ltb (field_of w) (2 ^ bits_of (kind_of w)) ≡ b → accept b (event_of (kind_of w) (field_of w)) ≡ Ok e
        → (field_of w < 2 ^ bits_of (kind_of w)) × (event_of (kind_of w) (field_of w) ≡ e)
    go true t q = (ltb-true _ _ t, cc)
    go false t q = absurd (accepted_is_none (sym q))

pub word_back : (w : ℕ) → w < 2 ^ 16 → (e : Event) → unpacked w ≡ Ok e → packed e ≡ Ok w
word_back w l e p =
    let row = accepted_row w e p in
    rw (← row.1) (packs_back (field_of w) (kind_of w) (omega arith) row.0 ∙ ap Ok (omega arith))

-- ---- from an event to its word and back

unpacks_back : (k d : ℕ) → d < 8192 → d < 2 ^ bits_of k → unpacked (k * 8192 + d) ≡ Ok (event_of k d)
unfolding unpacked
unpacks_back k d l h =
    let kind : kind_of (k * 8192 + d) ≡ k = omega arith in
    let field : field_of (k * 8192 + d) ≡ d = omega arith in
    rw (kind, field, lt-ltb d (2 ^ bits_of k) h)

take_back : (b : Bool) → unpacked (3 * 8192 + put 0 b) ≡ Ok (Take b)
take_back true = unpacks_back 3 1 (omega arith) (omega arith)
take_back false = unpacks_back 3 0 (omega arith) (omega arith)

reset_at : (b s l : ℕ) → b < 2 → s < 16 → l < 256 → unpacked (6 * 8192 + (b * 4096 + (s * 256 + l))) ≡ Ok (Reset s l (eqb b 1))
reset_at b s l h p q =
    let asked : (b * 4096 + (s * 256 + l)) / 4096 % 2 ≡ b = omega arith in
    let high : (b * 4096 + (s * 256 + l)) / 256 % 16 ≡ s = omega arith in
    let low : (b * 4096 + (s * 256 + l)) % 256 ≡ l = omega arith in
    unpacks_back 6 (b * 4096 + (s * 256 + l)) (omega arith) (omega arith) ∙ rw (asked, high, low)

reset_back : (s l : ℕ) (short : Bool) → s < 16 → l < 256 → unpacked (6 * 8192 + reset_data s l short) ≡ Ok (Reset s l short)
reset_back s l true = reset_at 1 s l (omega arith)
reset_back s l false = reset_at 0 s l (omega arith)

pub accepted_back : (e : Event) → Bytes e → straps_of e < 16 → unpacked (word_of e) ≡ Ok e
unfolding word_of straps_of Bytes
accepted_back Start t s = unpacks_back 0 0 (omega arith) (omega arith)
accepted_back Stop t s = unpacks_back 1 0 (omega arith) (omega arith)
accepted_back (Byte b) t s = unpacks_back 2 b (omega arith) t
accepted_back (Take b) t s = take_back b
accepted_back (Pins p) t s = unpacks_back 4 p (omega arith) t
accepted_back Tick t s = unpacks_back 5 0 (omega arith) (omega arith)
accepted_back (Reset s l short) t h = reset_back s l short h t.1
accepted_back Timeout t s = unpacks_back 7 0 (omega arith) (omega arith)

pub event_back : (e : Event) → Bytes e → (w : ℕ) → packed e ≡ Ok w → unpacked w ≡ Ok e
unfolding packed
event_back e t w p = go (ltb MOST_STRAPS (straps_of e)) refl p
  where
    go : (b : Bool) → ltb MOST_STRAPS (straps_of e) ≡ b → word_unless b (word_of e) ≡ Ok w → unpacked w ≡ Ok e
    go true s q = absurd (word_is_none (sym q))
    go false s q = let same : word_of e ≡ w = cc in rw (← same) (accepted_back e t (omega (arith, ltb-false MOST_STRAPS (straps_of e) s)))

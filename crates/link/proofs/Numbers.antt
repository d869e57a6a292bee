-- `dock_unpack` and `dock_pack` in literal numbers, row by row of document 01's table "Event words". Their contracts cite definitions,
-- so a rule changed there and in the code alike would pass; these laws refuse it. By the event crate's table. Assumes nothing.
use Prim.Native.Nat.{ℕ, zero, suc, ◌+◌, ◌-◌, ◌*◌, ◌/◌, ◌%◌, ◌^◌, ◌≤◌, ◌<◌}
use native.Mathlib.Decide.{dec_lt}
use native.Mathlib.Omega.{arith}
use mathlib.Core.Path.{◌≡◌, refl}
use mathlib.Core.Logic.{◌↔◌, ◌⊎◌, inl, inr}
use mathlib.Core.Bool.{Bool, true, false, not, ◌&&◌, and-false}
use lib.Dec.{eqb, leb, ltb}
use borrow.Author.Tests.{lt-ltb, le-ltb, ltb-true, eqb-true, lt-leb, le-leb, ne_eqb}
use Rattle.event.specs.Words.{bits_of, unpacked, straps_of, StrayBitSet}
use Rattle.event.specs.declared.Event.{Event}
use Rattle.event.specs.declared.Event.TheVariants.{Start, Stop, Byte, Take, Pins, Tick, Reset, Timeout}
use Rattle.event.proofs.Rows as rows
use Rattle.event.proofs.Theorems.{unpack_then_pack, by_kind, words_refused, events_refused}
use Rattle.link.specs.Events.{numbers_of, unpacked_as, refusal_in, first_in, second_in, meant_by, packed_as}
use Rattle.std.specs.Prelude.{Ok, Some}

-- ---- what is converted

-- A word's numbers, and the word of a kind and those numbers: the first in bits 15-8, with what it has above a byte in bits 31-24, and
-- the second in bits 7-0.
abbrev pub Converts : ℕ → ℕ → ℕ → ℕ → Type 0
Converts w kind first second = (unpacked_as w ≡ first / 256 * 0x1000000 + first % 256 * 256 + second) × (packed_as kind first second ≡ w)

-- The table, from kind 0 on.
pub record Table : Type 0 where
  pub start : Converts 0x0000 0 0 0
  pub stop : Converts 0x2000 1 0 0
  pub byte : (b : ℕ) → b < 256 → Converts (0x4000 + b) 2 b 0
  pub take_nack : Converts 0x6000 3 0 0
  pub take_ack : Converts 0x6001 3 1 0
  pub pins : (levels : ℕ) → levels < 256 → Converts (0x8000 + levels) 4 levels 0
  pub tick : Converts 0xA000 5 0 0
  pub reset : (straps levels : ℕ) → straps < 16 → levels < 256 → Converts (0xC000 + (straps * 256 + levels)) 6 straps levels
  pub reset_short : (straps levels : ℕ) → straps < 16 → levels < 256 → Converts (0xD000 + (straps * 256 + levels)) 6 (256 + straps) levels
  pub timeout : Converts 0xE000 7 0 0

module _ (w : ℕ) (e : Event) (kind first second : ℕ) where
  converts :
      w < 2 ^ 16 → unpacked w ≡ Ok e → numbers_of e ≡ first / 256 * 0x1000000 + first % 256 * 256 + second → meant_by kind first second ≡ Some e
      → Converts w kind first second
  unfolding unpacked_as packed_as
  converts l u n m = (rw u n, rw (m, unpack_then_pack w l e u) (omega arith))

-- A byte is its own low byte.
low_byte : (b : ℕ) → b < 256 → b % 256 ≡ b
low_byte b l = omega arith

byte_meant : (b : ℕ) → b < 256 → meant_by 2 b 0 ≡ Some (Byte b)
unfolding meant_by
byte_meant b l = rw (le-leb b 255 (omega arith), low_byte b l)

pins_meant : (levels : ℕ) → levels < 256 → meant_by 4 levels 0 ≡ Some (Pins levels)
unfolding meant_by
pins_meant levels l = rw (le-leb levels 255 (omega arith), low_byte levels l)

reset_meant : (straps levels : ℕ) → straps < 16 → meant_by 6 straps levels ≡ Some (Reset straps levels false)
unfolding meant_by
reset_meant s l h = rw (lt-ltb s 512 (omega arith), le-leb s 255 (omega arith), low_byte s (omega arith))

reset_short_meant : (straps levels : ℕ) → straps < 16 → meant_by 6 (256 + straps) levels ≡ Some (Reset straps levels true)
unfolding meant_by
reset_short_meant s l h =
    let low : (256 + s) % 256 ≡ s = omega arith in
    rw (lt-ltb (256 + s) 512 (omega arith), lt-leb (256 + s) 255 (omega arith), low)

pub in_numbers : Table
unfolding numbers_of meant_by
in_numbers =
    record {
      start = converts 0x0000 Start 0 0 0 (omega arith) by_kind.start refl refl;
      stop = converts 0x2000 Stop 1 0 0 (omega arith) by_kind.stop refl refl;
      byte = λ b l. converts (0x4000 + b) (Byte b) 2 b 0 (omega arith) (by_kind.byte b l) refl (byte_meant b l);
      take_nack = converts 0x6000 (Take false) 3 0 0 (omega arith) by_kind.take_nack refl refl;
      take_ack = converts 0x6001 (Take true) 3 1 0 (omega arith) by_kind.take_ack refl refl;
      pins = λ levels l. converts (0x8000 + levels) (Pins levels) 4 levels 0 (omega arith) (by_kind.pins levels l) refl (pins_meant levels l);
      tick = converts 0xA000 Tick 5 0 0 (omega arith) by_kind.tick refl refl;
      reset =
          λ straps levels s l.
          converts (0xC000 + (straps * 256 + levels)) (Reset straps levels false) 6 straps levels (omega arith) (by_kind.reset straps levels s l) (omega arith)
          (reset_meant straps levels s);
      reset_short =
          λ straps levels s l.
          converts (0xD000 + (straps * 256 + levels)) (Reset straps levels true) 6 (256 + straps) levels (omega arith) (by_kind.reset_short straps levels s l) refl
          (reset_short_meant straps levels s);
      timeout = converts 0xE000 Timeout 7 0 0 (omega arith) by_kind.timeout refl refl;
    }

-- ---- what is refused

-- Numbers that are no event's are refused with 2, and a RESET whose straps exceed 15 with 6, with the short pulse and without.
pub record Refused : Type 0 where
  pub start : (first second : ℕ) → 0 < first + second → packed_as 0 first second ≡ 2 * 65536
  pub stop : (first second : ℕ) → 0 < first + second → packed_as 1 first second ≡ 2 * 65536
  pub byte : (b second : ℕ) → (255 < b) ⊎ (0 < second) → packed_as 2 b second ≡ 2 * 65536
  pub take : (ack second : ℕ) → (1 < ack) ⊎ (0 < second) → packed_as 3 ack second ≡ 2 * 65536
  pub pins : (levels second : ℕ) → (255 < levels) ⊎ (0 < second) → packed_as 4 levels second ≡ 2 * 65536
  pub tick : (first second : ℕ) → 0 < first + second → packed_as 5 first second ≡ 2 * 65536
  pub reset : (first levels : ℕ) → 511 < first → packed_as 6 first levels ≡ 2 * 65536
  pub straps : (straps levels : ℕ) → 15 < straps → straps < 256 → packed_as 6 straps levels ≡ 6 * 65536
  pub straps_short : (straps levels : ℕ) → 15 < straps → straps < 256 → packed_as 6 (256 + straps) levels ≡ 6 * 65536
  pub timeout : (first second : ℕ) → 0 < first + second → packed_as 7 first second ≡ 2 * 65536
  pub past : (kind first second : ℕ) → 7 < kind → packed_as kind first second ≡ 2 * 65536

not_none : (n : ℕ) → 0 < n → eqb n 0 ≡ false
not_none n h = ne_eqb n 0 (λ z. omega (arith, z))

not_bare : (a b : ℕ) → 0 < a + b → (eqb a 0 && eqb b 0) ≡ false
not_bare a b h = go (eqb a 0) refl
  where
    go : (t : Bool) → eqb a 0 ≡ t → (t && eqb b 0) ≡ false
    go true e = not_none b (omega (arith, eqb-true a 0 e))
    go false e = refl

not_alone : (most a b : ℕ) → (most < a) ⊎ (0 < b) → (leb a most && eqb b 0) ≡ false
not_alone most a b (inl h) = rw (lt-leb a most h)
not_alone most a b (inr h) = rw (not_none b h) (and-false (leb a most))

-- Straps above 15, in the low byte of a RESET's first number.
wide : (first levels : ℕ) → first < 512 → 15 < first % 256 → packed_as 6 first levels ≡ 6 * 65536
unfolding packed_as meant_by straps_of
wide f l h w = rw (lt-ltb f 512 h, (events_refused (Reset (f % 256) l (not (leb f 255)))).1 w)

past_table : (a b kind : ℕ) → 7 < kind → packed_as kind a b ≡ 2 * 65536
unfolding packed_as meant_by
past_table a b =
    rows.by_kind (λ k. 7 < k → packed_as k a b ≡ 2 * 65536)
    (λ h. absurd (omega arith)) (λ h. absurd (omega arith)) (λ h. absurd (omega arith)) (λ h. absurd (omega arith))
    (λ h. absurd (omega arith)) (λ h. absurd (omega arith)) (λ h. absurd (omega arith)) (λ h. absurd (omega arith)) (λ n h. refl)

pub refused_in_numbers : Refused
unfolding packed_as meant_by straps_of
refused_in_numbers =
    record {
      start = λ a b h. rw (not_bare a b h);
      stop = λ a b h. rw (not_bare a b h);
      byte = λ a b h. rw (not_alone 255 a b h);
      take = λ a b h. rw (not_alone 1 a b h);
      pins = λ a b h. rw (not_alone 255 a b h);
      tick = λ a b h. rw (not_bare a b h);
      reset = λ f l h. rw (le-ltb f 512 h);
      straps = λ s l h b. wide s l (omega arith) (omega arith);
      straps_short = λ s l h b. wide (256 + s) l (omega arith) (omega arith);
      timeout = λ a b h. rw (not_bare a b h);
      past = λ k a b h. past_table a b k h;
    }

-- ---- every word

-- A RESET with the short pulse.
abbrev pub AsksShort : ℕ → Type 0
AsksShort w = (0xD000 ≤ w) × (w < 0xE000)

-- A word's numbers, of which the first is more than a byte only there, and its kind packs with them to it.
abbrev Numbered : ℕ → ℕ → Type 0
Numbered w kind = (first : ℕ) × (second : ℕ) × (first < 512) × (second < 256) × (256 ≤ first → AsksShort w) × Converts w kind first second

take_numbered : (d : ℕ) → d < 2 → Numbered (3 * 8192 + d) 3
take_numbered zero h = (0, 0, omega arith, omega arith, λ b. absurd (omega (arith, b)), in_numbers.take_nack)
take_numbered (suc zero) h = (1, 0, omega arith, omega arith, λ b. absurd (omega (arith, b)), in_numbers.take_ack)
take_numbered (suc (suc d)) h = absurd (omega arith)

bare_numbered : (k d : ℕ) → d < 1 → Converts (k * 8192 + 0) k 0 0 → Numbered (k * 8192 + d) k
bare_numbered k zero h c = (0, 0, omega arith, omega arith, λ b. absurd (omega (arith, b)), c)
bare_numbered k (suc d) h c = absurd (omega arith)

reset_numbered : (d : ℕ) → d < 8192 → Numbered (6 * 8192 + d) 6
reset_numbered d h = go (dec_lt d 4096)
  where
    go : Dec (d < 4096) → Numbered (6 * 8192 + d) 6
    go (yes l) =
        let whole : 0xC000 + (d / 256 * 256 + d % 256) ≡ 6 * 8192 + d = omega arith in
        (d / 256, d % 256, omega arith, omega arith, λ b. absurd (omega (arith, b)), rw whole at (in_numbers.reset (d / 256) (d % 256) (omega arith) (omega arith)))
    go (no n) =
        let whole : 0xD000 + (d / 256 % 16 * 256 + d % 256) ≡ 6 * 8192 + d = omega arith in
        (256 + d / 256 % 16, d % 256, omega arith, omega arith, λ b. (omega arith, omega arith), rw whole at (in_numbers.reset_short (d / 256 % 16) (d % 256) (omega arith) (omega arith)))

numbered : (d k : ℕ) → k < 8 → d < 2 ^ bits_of k → Numbered (k * 8192 + d) k
numbered d =
    rows.by_kind (λ k. k < 8 → d < 2 ^ bits_of k → Numbered (k * 8192 + d) k)
    (λ h l. bare_numbered 0 d l in_numbers.start) (λ h l. bare_numbered 1 d l in_numbers.stop)
    (λ h l. (d, 0, omega (arith, l), omega arith, λ b. absurd (omega (arith, l, b)), in_numbers.byte d l)) (λ h l. take_numbered d l)
    (λ h l. (d, 0, omega (arith, l), omega arith, λ b. absurd (omega (arith, l, b)), in_numbers.pins d l)) (λ h l. bare_numbered 5 d l in_numbers.tick)
    (λ h l. reset_numbered d l) (λ h l. bare_numbered 7 d l in_numbers.timeout) (λ n h l. absurd (omega arith))

-- A word has its numbers, or a bit that must be 0 is set and it is refused.
abbrev Read : ℕ → Type 0
Read w = Numbered w (w / 8192) ⊎ ((unpacked_as w ≡ 2 * 65536) × StrayBitSet w)

read : (w : ℕ) → w < 2 ^ 16 → Read w
unfolding unpacked_as unpacked
read w l = go (ltb (w % 8192) (2 ^ bits_of (w / 8192))) refl
  where
    go : (b : Bool) → ltb (w % 8192) (2 ^ bits_of (w / 8192)) ≡ b → Read w
    go true t =
        let whole : w / 8192 * 8192 + w % 8192 ≡ w = omega arith in
        inl (rw whole at (numbered (w % 8192) (w / 8192) (omega arith) (ltb-true _ _ t)))
    go false t = inr (rw t, (words_refused w).0 (rw t))

-- Refused with 2 exactly when a bit that must be 0 is set.
pub stray_in_numbers : (w : ℕ) → w < 2 ^ 16 → (unpacked_as w ≡ 2 * 65536) ↔ StrayBitSet w
unfolding unpacked_as
stray_in_numbers w l = (go (read w l), λ s. rw ((words_refused w).1 s))
  where
    go : Read w → unpacked_as w ≡ 2 * 65536 → StrayBitSet w
    go (inl (a, b, la, lb, s, (u, p))) e = absurd (omega arith)
    go (inr (e, s)) _ = s

numbers_apart :
    (high low second : ℕ) → low < 256 → second < 256
    → (first_in (high * 0x1000000 + low * 256 + second) ≡ high * 256 + low) × (second_in (high * 0x1000000 + low * 256 + second) ≡ second)
numbers_apart high low second l s =
    let top : (high * 0x1000000 + low * 256 + second) / 0x1000000 ≡ high = omega arith in
    let upper : (high * 0x1000000 + low * 256 + second) / 256 ≡ high * 65536 + low = omega arith in
    let middle : (high * 65536 + low) % 256 ≡ low = omega arith in
    (rw (top, upper, middle), omega arith)

-- Any other word gives two numbers that pack with its kind to the word again.
pub numbers_back :
    (w : ℕ) → w < 2 ^ 16 → refusal_in (unpacked_as w) ≡ 0 → packed_as (w / 8192) (first_in (unpacked_as w)) (second_in (unpacked_as w)) ≡ w
numbers_back w l h = go (read w l)
  where
    go : Read w → packed_as (w / 8192) (first_in (unpacked_as w)) (second_in (unpacked_as w)) ≡ w
    go (inl (a, b, la, lb, s, (u, p))) =
        let apart = numbers_apart (a / 256) (a % 256) b (omega arith) lb in
        let whole : a / 256 * 256 + a % 256 ≡ a = omega arith in
        rw (u, apart.0, apart.1, whole) p
    go (inr (e, s)) = absurd (omega arith)

-- ---- a program that knows of no short pulse

-- Before version 3 bits 31-16 were the refusal. Of the words that have an event, such a program takes a RESET with the short pulse for
-- refused, and no other.
pub short_pulse_shows : (w : ℕ) → w < 2 ^ 16 → refusal_in (unpacked_as w) ≡ 0 → (65536 ≤ unpacked_as w) ↔ AsksShort w
short_pulse_shows w l h = (shows (read w l), shown)
  where
    shows : Read w → 65536 ≤ unpacked_as w → AsksShort w
    shows (inl (a, b, la, lb, s, (u, p))) m = s (omega arith)
    shows (inr (e, s)) m = absurd (omega arith)

    shown : AsksShort w → 65536 ≤ unpacked_as w
    shown (from, to) =
        let d = w - 0xD000 in
        let whole : 0xD000 + (d / 256 * 256 + d % 256) ≡ w = omega arith in
        let row = (in_numbers.reset_short (d / 256) (d % 256) (omega arith) (omega arith)).0 in
        omega (arith, rw whole at row)

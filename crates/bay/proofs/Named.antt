-- A bay's registers and outputs by name (document 01, "Registers" and "Bay moves"): which bit is which as a driver reads and writes
-- it, what each lamp shows in each state, what a pulse and the interrupt take. By computing over the bits. Assumes nothing.
use Prim.Native.Nat.{ℕ, zero, suc, ◌+◌, ◌*◌, ◌/◌, ◌%◌, ◌-◌, ◌<◌}
use mathlib.Core.Path.{◌≡◌, refl, sym, ◌∙◌}
use mathlib.Core.Logic.{◌↔◌, ◌⊎◌, inl, inr}
use mathlib.Core.Bool.{Bool, true, false, not, cond, ◌&&◌, ◌||◌, beq, and-true, and-false, or-true, and-eq-true_iff}
use mathlib.Core.List.{[], ◌∷◌, map}
use lib.Dec.{eqb, ltb}
use lib.ListN.{get_or}
use borrow.Author.Tests.{eqb-true, lt-ltb, ltb-true}
use Rattle.bits.specs.Bits.{bit, put}
use Rattle.bay.specs.Record.{N1394, NUSB, accepted_level, count, contact, hidden, shown, present, empty_bay, reset_bay}
use Rattle.bay.specs.Moves.{moved_to, moved_bay, ticked_bay}
use Rattle.bay.specs.Registers.{bstr_of, bcer_of, bstr_written, control_of, pulse_written, controlled_bay, unlocked_bay}
use Rattle.bay.specs.Outputs.{lock_pin, green, yellow, bay_outputs, interrupts}
use Rattle.bay.specs.declared.Bay.{Bay}
use Rattle.bay.specs.declared.Setting.{Setting}
use Rattle.bay.proofs.Laws.{Sensed}
use Rattle.bay.proofs.Taut.{below_taut, taut, same}

-- ---- the bits of a byte

-- A byte of a bit, a number of three bits and four bits, as both registers have them.
abbrev byte_of : Bool → ℕ → Bool → Bool → Bool → Bool → ℕ
byte_of a n b c d e = put 7 a + n % 8 * 16 + put 3 b + put 2 c + put 1 d + put 0 e

record Fields (a : Bool) (n : ℕ) (b c d e : Bool) (byte : ℕ) : Type 0 where
  bit_7 : bit 7 byte ≡ a
  bits_6_4 : byte / 16 % 8 ≡ n
  bit_3 : bit 3 byte ≡ b
  bit_2 : bit 2 byte ≡ c
  bit_1 : bit 1 byte ≡ d
  bit_0 : bit 0 byte ≡ e

fields : (a : Bool) (n : ℕ) (b c d e : Bool) → n < 8 → Fields a n b c d e (byte_of a n b c d e)
fields a n b c d e l =
    record {
      bit_7 = same _ _ (below_taut 8 5 (λ n a b c d e. beq (bit 7 (byte_of a n b c d e)) a) refl n l a b c d e);
      bits_6_4 = eqb-true _ _ (below_taut 8 5 (λ n a b c d e. eqb (byte_of a n b c d e / 16 % 8) n) refl n l a b c d e);
      bit_3 = same _ _ (below_taut 8 5 (λ n a b c d e. beq (bit 3 (byte_of a n b c d e)) b) refl n l a b c d e);
      bit_2 = same _ _ (below_taut 8 5 (λ n a b c d e. beq (bit 2 (byte_of a n b c d e)) c) refl n l a b c d e);
      bit_1 = same _ _ (below_taut 8 5 (λ n a b c d e. beq (bit 1 (byte_of a n b c d e)) d) refl n l a b c d e);
      bit_0 = same _ _ (below_taut 8 5 (λ n a b c d e. beq (bit 0 (byte_of a n b c d e)) e) refl n l a b c d e);
    }

-- BSTR: bit 7 inverse of nSL, where the security lock shows; 6-4 bay state; 3 REMREQ_STS; 2 DEVSTSCHG; 1 and 0 accepted 1394 and USB
-- presence, of a device that isn't hidden.
pub record Bstr (hides secured : Bool) (b : Bay) (byte : ℕ) : Type 0 where
  pub bit_7 : bit 7 byte ≡ (secured && not b.n_sl)
  pub bits_6_4 : byte / 16 % 8 ≡ b.state
  pub bit_3 : bit 3 byte ≡ b.remreq_sts
  pub bit_2 : bit 2 byte ≡ b.devstschg
  pub bit_1 : bit 1 byte ≡ shown hides b.wait (accepted_level b N1394)
  pub bit_0 : bit 0 byte ≡ shown hides b.wait (accepted_level b NUSB)

pub bstr_bits : (hides secured : Bool) (b : Bay) → b.state < 8 → Bstr hides secured b (bstr_of hides secured b)
unfolding bstr_of
bstr_bits hides secured b l =
    let f = fields (secured && not b.n_sl) b.state b.remreq_sts b.devstschg (shown hides b.wait (accepted_level b N1394)) (shown hides b.wait (accepted_level b NUSB)) l in
    record { bit_7 = f.bit_7; bits_6_4 = f.bits_6_4; bit_3 = f.bit_3; bit_2 = f.bit_2; bit_1 = f.bit_1; bit_0 = f.bit_0 }

-- A device is present exactly where one of the two presence bits shows it.
pub present_shows : (hides : Bool) (b : Bay) → present hides b ≡ (shown hides b.wait (accepted_level b N1394) || shown hides b.wait (accepted_level b NUSB))
unfolding present contact
present_shows hides b = same _ _ (taut 3 (λ t m n. beq (not t && (not m || not n)) (not t && not m || not t && not n)) refl (hidden hides b.wait) (accepted_level b N1394) (accepted_level b NUSB))

-- BCER: 7 LOCK_CTL, 6-4 stored request, 3 REMREQ_EN, 2 DEVSTSCHG_EN, 1 REMEVTWAK_EN, 0 PWR_CTL.
pub record Bcer (b : Bay) (byte : ℕ) : Type 0 where
  pub bit_7 : bit 7 byte ≡ b.control.lock_ctl
  pub bits_6_4 : byte / 16 % 8 ≡ b.control.request
  pub bit_3 : bit 3 byte ≡ b.control.remreq_en
  pub bit_2 : bit 2 byte ≡ b.control.devstschg_en
  pub bit_1 : bit 1 byte ≡ b.control.remevtwak_en
  pub bit_0 : bit 0 byte ≡ b.control.pwr_ctl

pub bcer_bits : (b : Bay) → b.control.request < 8 → Bcer b (bcer_of b)
unfolding bcer_of
bcer_bits b l =
    let f = fields b.control.lock_ctl b.control.request b.control.remreq_en b.control.devstschg_en b.control.remevtwak_en b.control.pwr_ctl l in
    record { bit_7 = f.bit_7; bits_6_4 = f.bits_6_4; bit_3 = f.bit_3; bit_2 = f.bit_2; bit_1 = f.bit_1; bit_0 = f.bit_0 }

-- ---- what a write stores and clears

-- LOCK_CTL and the three enables are stored as the bits that read them, and PWR_CTL with LOCK_CTL and a device.
pub record Stores (hides : Bool) (v : ℕ) (b after : Bay) : Type 0 where
  pub lock_ctl : after.control.lock_ctl ≡ bit 7 v
  pub remreq_en : after.control.remreq_en ≡ bit 3 v
  pub devstschg_en : after.control.devstschg_en ≡ bit 2 v
  pub remevtwak_en : after.control.remevtwak_en ≡ bit 1 v
  pub pwr_ctl : after.control.pwr_ctl ≡ (bit 0 v && bit 7 v && present hides b)
  pub flags_kept : (after.remreq_sts ≡ b.remreq_sts) × (after.devstschg ≡ b.devstschg)

pub bcer_stores : (hides : Bool) (v : ℕ) (s : Setting) (b : Bay) → Stores hides v b (controlled_bay hides (control_of v) s b)
unfolding controlled_bay control_of
bcer_stores hides v s b =
    record { lock_ctl = refl; remreq_en = refl; devstschg_en = refl; remevtwak_en = refl; pwr_ctl = refl; flags_kept = (refl, refl) }

-- BSTR: writing 1 to bit 3 or 2 clears it, writing 0 keeps it, and nothing else is altered.
pub record Clears (v : ℕ) (b after : Bay) : Type 0 where
  pub remreq_cleared : bit 3 v ≡ true → after.remreq_sts ≡ false
  pub remreq_kept : bit 3 v ≡ false → after.remreq_sts ≡ b.remreq_sts
  pub devstschg_cleared : bit 2 v ≡ true → after.devstschg ≡ false
  pub devstschg_kept : bit 2 v ≡ false → after.devstschg ≡ b.devstschg
  pub state_kept : after.state ≡ b.state
  pub control_kept : after.control ≡ b.control
  pub pulse_kept : after.pulse ≡ b.pulse
  pub wait_kept : after.wait ≡ b.wait
  pub inputs_kept : (after.levels ≡ b.levels) × (after.accepted ≡ b.accepted) × (after.counts ≡ b.counts) × (after.n_sl ≡ b.n_sl)

pub bstr_clears : (v : ℕ) (b : Bay) → Clears v b (bstr_written v b)
unfolding bstr_written
bstr_clears v b =
    record {
      remreq_cleared = λ h. rw h (and-false b.remreq_sts);
      remreq_kept = λ h. rw h (and-true b.remreq_sts);
      devstschg_cleared = λ h. rw h (and-false b.devstschg);
      devstschg_kept = λ h. rw h (and-true b.devstschg);
      state_kept = refl;
      control_kept = refl;
      pulse_kept = refl;
      wait_kept = refl;
      inputs_kept = (refl, refl, refl, refl);
    }

-- ---- SFR

-- Its first write makes LOCK_CTL, PWR_CTL and the pulse of a bay 0, and alters nothing else.
pub record Unlocks (b after : Bay) : Type 0 where
  pub unlocked : after.control.lock_ctl ≡ false
  pub unpowered : after.control.pwr_ctl ≡ false
  pub no_pulse : after.pulse ≡ 0
  pub request_kept : after.control.request ≡ b.control.request
  pub enables_kept : (after.control.remreq_en ≡ b.control.remreq_en) × (after.control.devstschg_en ≡ b.control.devstschg_en) × (after.control.remevtwak_en ≡ b.control.remevtwak_en)
  pub state_kept : after.state ≡ b.state
  pub flags_kept : (after.remreq_sts ≡ b.remreq_sts) × (after.devstschg ≡ b.devstschg)
  pub wait_kept : after.wait ≡ b.wait
  pub inputs_kept : (after.levels ≡ b.levels) × (after.accepted ≡ b.accepted) × (after.counts ≡ b.counts) × (after.n_sl ≡ b.n_sl)

pub bay_unlocks : (b : Bay) → Unlocks b (unlocked_bay b)
unfolding unlocked_bay
bay_unlocks b =
    record {
      unlocked = refl;
      unpowered = refl;
      no_pulse = refl;
      request_kept = refl;
      enables_kept = (refl, refl, refl);
      state_kept = refl;
      flags_kept = (refl, refl);
      wait_kept = refl;
      inputs_kept = (refl, refl, refl, refl);
    }

-- ---- the pulse

-- It is started by LOCK_CTL written from 1 to 0, where the lock is pulsed, with the ticks given, and by nothing else that is written.
pub record Pulses (v : ℕ) (s : Setting) (b after : Bay) : Type 0 where
  pub begins : s.pulsed ≡ true → b.control.lock_ctl ≡ true → bit 7 v ≡ false → after.pulse ≡ s.pulse_ticks
  pub steady : s.pulsed ≡ false → after.pulse ≡ b.pulse
  pub unlocked : b.control.lock_ctl ≡ false → after.pulse ≡ b.pulse
  pub locking : bit 7 v ≡ true → after.pulse ≡ b.pulse

pub bcer_pulses : (hides : Bool) (v : ℕ) (s : Setting) (b : Bay) → Pulses v s b (controlled_bay hides (control_of v) s b)
unfolding controlled_bay control_of pulse_written
bcer_pulses hides v s b =
    record {
      begins = λ m l h. rw (m, l, h);
      steady = λ m. rw m;
      unlocked = λ l. rw (l, and-false);
      locking = λ h. rw (h, and-false);
    }

-- Each TICK takes one off it, where there is one.
pub pulse_falls : (hides : Bool) (s : Setting) (b : Bay) → (ticked_bay hides s b).pulse ≡ b.pulse - 1
unfolding ticked_bay moved_bay moved_to
pulse_falls hides s b = refl

-- ---- outputs

-- Bit 3 to 0 of a bay's outputs.
pub record Drives (hides : Bool) (s : Setting) (lit : Bool) (b : Bay) (nibble : ℕ) : Type 0 where
  pub power : bit 3 nibble ≡ b.control.pwr_ctl
  pub lock : bit 2 nibble ≡ lock_pin s b
  pub green : bit 1 nibble ≡ green hides lit b
  pub yellow : bit 0 nibble ≡ yellow lit b

pub bay_drives : (hides : Bool) (s : Setting) (lit : Bool) (b : Bay) → Drives hides s lit b (bay_outputs hides s lit b)
unfolding bay_outputs
bay_drives hides s lit b =
    record {
      power = same _ _ (taut 4 (λ p l g y. beq (bit 3 (nibble_of p l g y)) p) refl power lock g y);
      lock = same _ _ (taut 4 (λ p l g y. beq (bit 2 (nibble_of p l g y)) l) refl power lock g y);
      green = same _ _ (taut 4 (λ p l g y. beq (bit 1 (nibble_of p l g y)) g) refl power lock g y);
      yellow = same _ _ (taut 4 (λ p l g y. beq (bit 0 (nibble_of p l g y)) y) refl power lock g y);
    }
  where
    nibble_of : Bool → Bool → Bool → Bool → ℕ
    nibble_of p l g y = put 3 p + put 2 l + put 1 g + put 0 y

    power : Bool
    power = b.control.pwr_ctl

    lock : Bool
    lock = lock_pin s b

    g : Bool
    g = green hides lit b

    y : Bool
    y = yellow lit b

-- The lamps in Empty, Inserted, Enabled, Removal Requested and Removal Allowed, by the half of the phase. In Empty the green one flashes
-- for a device that is hidden, with DEVSTSCHG_EN.
pub lamps :
    (hides lit : Bool) (b : Bay) → b.state < 5
    → (green hides lit b ≡ get_or ((hidden hides b.wait && b.control.devstschg_en && lit) ∷ lit ∷ true ∷ false ∷ false ∷ []) b.state false)
    × (yellow lit b ≡ get_or (false ∷ false ∷ false ∷ lit ∷ false ∷ []) b.state false)
unfolding green yellow
lamps hides lit b l = (
  same _ _
      (below_taut 5 3
      (λ s t en lit. beq (eqb s 2 || (t && eqb s 0 && en || eqb s 1) && lit) (get_or ((t && en && lit) ∷ lit ∷ true ∷ false ∷ false ∷ []) s false))
      refl b.state l (hidden hides b.wait) b.control.devstschg_en lit),
  same _ _ (below_taut 5 1 (λ s lit. beq (eqb s 3 && lit) (get_or (false ∷ false ∷ false ∷ lit ∷ false ∷ []) s false)) refl b.state l lit),
)

-- The lock pin: LOCK_CTL where the lock isn't pulsed; where it is, at the pulse's level exactly while a pulse is above 0.
pub lock_pin_steady : (s : Setting) (b : Bay) → s.pulsed ≡ false → lock_pin s b ≡ b.control.lock_ctl
unfolding lock_pin
lock_pin_steady s b e = rw e

pub lock_pin_pulsed : (s : Setting) (b : Bay) → s.pulsed ≡ true → (lock_pin s b ≡ s.pulse_high) ↔ (0 < b.pulse)
unfolding lock_pin
lock_pin_pulsed s b e = (
  λ h. ltb-true 0 b.pulse ((level s.pulse_high (ltb 0 b.pulse)).0 (sym (rw e) ∙ h)),
  λ l. rw e ((level s.pulse_high (ltb 0 b.pulse)).1 (lt-ltb 0 b.pulse l)),
)
  where
    level : (h t : Bool) → ((beq h t || false) ≡ h) ↔ (t ≡ true)
    level true true = (λ _. refl, λ _. refl)
    level true false = (λ e. e, λ e. e)
    level false true = (λ _. refl, λ _. refl)
    level false false = (λ e. sym e, λ e. sym e)

-- The interrupt: REMREQ_STS with REMREQ_EN, or DEVSTSCHG with DEVSTSCHG_EN.
pub interrupt_exactly :
    (b : Bay)
    → (interrupts b ≡ true)
    ↔ (((b.remreq_sts ≡ true) × (b.control.remreq_en ≡ true)) ⊎ ((b.devstschg ≡ true) × (b.control.devstschg_en ≡ true)))
unfolding interrupts
interrupt_exactly b = (parts b.remreq_sts b.control.remreq_en _ _, whole)
  where
    parts : (p q r s : Bool) → (p && q || r && s) ≡ true → ((p ≡ true) × (q ≡ true)) ⊎ ((r ≡ true) × (s ≡ true))
    parts true true r s h = inl (refl, refl)
    parts true false r s h = inr ((and-eq-true_iff r s).0 h)
    parts false q r s h = inr ((and-eq-true_iff r s).0 h)

    whole : ((b.remreq_sts ≡ true) × (b.control.remreq_en ≡ true)) ⊎ ((b.devstschg ≡ true) × (b.control.devstschg_en ≡ true)) → interrupts b ≡ true
    whole (inl h) = rw (h.0, h.1)
    whole (inr h) = rw (h.0, h.1) (or-true (b.remreq_sts && b.control.remreq_en))

-- ---- RESET

-- BSTR after a RESET with each of the sixteen levels n1394, nUSB, nREMREQ, nSL: accepted at once, Empty, DEVSTSCHG with a device, and nSL
-- in bit 7 where the security lock shows.
pub reset_reads :
    (hides secured lock : Bool)
    → map (λ levels. bstr_of hides secured (reset_bay levels lock)) (0 ∷ 1 ∷ 2 ∷ 3 ∷ 4 ∷ 5 ∷ 6 ∷ 7 ∷ 8 ∷ 9 ∷ 10 ∷ 11 ∷ 12 ∷ 13 ∷ 14 ∷ 15 ∷ [])
    ≡ map (λ byte. cond secured byte (byte % 128))
    (0x87 ∷ 0x07 ∷ 0x87 ∷ 0x07 ∷ 0x86 ∷ 0x06 ∷ 0x86 ∷ 0x06 ∷ 0x85 ∷ 0x05 ∷ 0x85 ∷ 0x05 ∷ 0x80 ∷ 0x00 ∷ 0x80 ∷ 0x00 ∷ [])
unfolding bstr_of reset_bay
reset_reads true true lock = refl
reset_reads true false lock = refl
reset_reads false true lock = refl
reset_reads false false lock = refl

-- Everything that it leaves in a bay: BCER 0 but for LOCK_CTL, REMREQ_STS and counts 0, no pulse, no wait, the levels stored as accepted.
pub record Begun (lock : Bool) (b : Bay) : Type 0 where
  pub bcer : bcer_of b ≡ put 7 lock
  pub remreq_sts : b.remreq_sts ≡ false
  pub no_counts : (i : ℕ) → count b i ≡ 0
  pub no_pulse : b.pulse ≡ 0
  pub no_wait : b.wait ≡ 0
  pub stored : b.levels ≡ b.accepted

pub reset_begins : (levels : ℕ) (lock : Bool) → Begun lock (reset_bay levels lock)
unfolding reset_bay bcer_of
reset_begins levels lock = record { bcer = lock_only lock; remreq_sts = refl; no_counts = zeros; no_pulse = refl; no_wait = refl; stored = refl }
  where
    lock_only : (l : Bool) → bcer_of (reset_bay levels l) ≡ put 7 l
    lock_only true = refl
    lock_only false = refl

    zeros : (i : ℕ) → count (reset_bay levels lock) i ≡ 0
    zeros zero = refl
    zeros (suc zero) = refl
    zeros (suc (suc zero)) = refl
    zeros (suc (suc (suc i))) = refl

-- The levels are those given.
pub reset_senses : (levels : ℕ) (lock : Bool) → Sensed levels (reset_bay levels lock)
unfolding reset_bay
reset_senses levels lock = record { n1394 = refl; nusb = refl; nremreq = refl; nsl = refl }

-- A closed bay's record: levels 1, the rest 0.
pub record Nothing (b : Bay) : Type 0 where
  pub levels : (b.levels ≡ true ∷ true ∷ true ∷ []) × (b.accepted ≡ true ∷ true ∷ true ∷ []) × (b.n_sl ≡ true)
  pub counts : b.counts ≡ 0 ∷ 0 ∷ 0 ∷ []
  pub bstr : (hides secured : Bool) → bstr_of hides secured b ≡ 0
  pub bcer : bcer_of b ≡ 0
  pub pulse : b.pulse ≡ 0
  pub wait : b.wait ≡ 0

pub empty_is : Nothing empty_bay
unfolding empty_bay bstr_of bcer_of
empty_is = record { levels = (refl, refl, refl); counts = refl; bstr = zeros; bcer = refl; pulse = refl; wait = refl }
  where
    zeros : (hides secured : Bool) → bstr_of hides secured empty_bay ≡ 0
    zeros true true = refl
    zeros true false = refl
    zeros false true = refl
    zeros false false = refl

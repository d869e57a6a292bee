-- A press that a TICK accepts: what it sets and what not, and a write that follows it, by the two tables of moves. Assumes nothing.
use Prim.Native.Nat.{ℕ, zero, suc, ◌-◌, ◌/◌, ◌%◌, ◌<◌}
use native.Mathlib.Omega.{arith}
use mathlib.Core.Path.{◌≡◌, refl, sym, ap, ◌∙◌}
use mathlib.Core.Logic.{◌⊎◌, inl, inr}
use mathlib.Core.Bool.{Bool, true, false, not, cond, ◌&&◌, ◌||◌, beq, and-true, and-false, or-true, or-false, and-eq-true_iff, false≢true}
use lib.Dec.{eqb, ltb}
use borrow.Author.Tests.{eqb-true, eqb-false, ne_eqb, lt-ltb, ltb-true}
use Rattle.bits.specs.Bits.{bit}
use Rattle.bay.specs.Record.{accepted_level, contact, hidden, shown, present}
use Rattle.bay.specs.Debounce.{differs}
use Rattle.bay.specs.Moves.{begun, wait_after, ticked_bay}
use Rattle.bay.specs.Registers.{control_of, controlled_bay}
use Rattle.bay.specs.Table.{press_over, tick_table, write_table}
use Rattle.bay.specs.Waits.{shown_changes}
use Rattle.bay.specs.Sound.{Sound}
use Rattle.bay.specs.declared.Bay.{Bay}
use Rattle.bay.specs.declared.Setting.{Setting}
use Rattle.bay.proofs.Taut.{neither, taut, same}
use Rattle.bay.proofs.Ticks.{wait_after_lem}
use Rattle.bay.proofs.Laws.{none_runs, removal, stayed, pressed_sets, change_told}
use Rattle.bay.proofs.Table.{one_move, tick_table_lem, write_table_lem}
use Rattle.bay.proofs.Named.{bcer_stores, present_shows}

-- ---- what a press sets

-- REMREQ_STS goes from 0 to 1 in a TICK exactly by a press over a device, which is present at the end of the TICK.
pub remreq_raised :
    (hides : Bool) (s : Setting) (b : Bay) → b.remreq_sts ≡ false → (ticked_bay hides s b).remreq_sts ≡ press_over hides b (ticked_bay hides s b)
remreq_raised hides s b z = pressed_sets hides s b ∙ rw z

-- A TICK over a bay that is then not present leaves REMREQ_STS as it was, whatever is pressed. Nor does a press move the bay: where the
-- device has left it is Empty, and else in the state that it was in. (No bay that is reached waits without contact.)
pub record Unheeded (hides : Bool) (before after : Bay) : Type 0 where
  pub remreq_kept : after.remreq_sts ≡ before.remreq_sts
  pub unmoved : after.state ≡ cond (present hides before) 0 (cond (not hides && eqb before.wait 1) 1 before.state)

pub press_over_nothing : (hides : Bool) (s : Setting) (b : Bay) → present hides (ticked_bay hides s b) ≡ false → Unheeded hides b (ticked_bay hides s b)
press_over_nothing hides s b q =
    record { remreq_kept = pressed_sets hides s b ∙ rw (q, and-false) (or-false b.remreq_sts); unmoved = go (present hides b) refl }
  where
    go : (p : Bool) → present hides b ≡ p → (ticked_bay hides s b).state ≡ cond p 0 (cond (not hides && eqb b.wait 1) 1 b.state)
    go true p = (removal hides s b p q).emptied
    go false p = (stayed hides s b (q ∙ sym p)).state_kept ∙ rw (q, and-false)

-- A sound bay with no device is Empty.
pub empty_without_device : (hides : Bool) (b : Bay) → Sound hides b → present hides b ≡ false → b.state ≡ 0
empty_without_device hides b s p = go (eqb b.state 0) refl
  where
    go : (t : Bool) → eqb b.state 0 ≡ t → b.state ≡ 0
    go true e = eqb-true b.state 0 e
    go false e = absurd (false≢true (sym p ∙ s.held (eqb-false b.state 0 e)))

-- A number that isn't above 0 is 0.
pub none_above_0 : (n : ℕ) → (0 < n → ⊥) → n ≡ 0
none_above_0 n h = go (ltb 0 n) refl
  where
    go : (t : Bool) → ltb 0 n ≡ t → n ≡ 0
    go true e = absurd (h (ltb-true 0 n e))
    go false e = none_runs n e

-- One with no contact has no wait either, and no device.
pub no_wait_without_contact : (hides : Bool) (b : Bay) → Sound hides b → contact b ≡ false → b.wait ≡ 0
no_wait_without_contact hides b h p = none_above_0 b.wait (λ l. false≢true (sym p ∙ (h.seating l).1))

pub no_device_without_contact : (hides : Bool) (b : Bay) → contact b ≡ false → present hides b ≡ false
unfolding present
no_device_without_contact hides b p = rw (p, and-false)

-- A wait that begins where none runs has the ticks given.
pub begun_from_0 : (ticks : ℕ) → begun ticks 0 ≡ ticks
unfolding begun
begun_from_0 ticks = go (eqb ticks 0) refl
  where
    go : (t : Bool) → eqb ticks 0 ≡ t → cond t 0 ticks ≡ ticks
    go true z = sym (eqb-true ticks 0 z)
    go false z = refl

-- Where there was no device, a presence bit changes exactly where there is one now.
pub coming_changes : (hides : Bool) (b after : Bay) → present hides b ≡ false → shown_changes hides b after ≡ present hides after
coming_changes hides b after p =
    let none = neither (shown hides b.wait (accepted_level b 0)) (shown hides b.wait (accepted_level b 1)) (sym (present_shows hides b) ∙ p) in
    rw (none.0, none.1, present_shows hides after)
    (same _ _ (taut 2 (λ m n. beq (differs false m || differs false n) (m || n)) refl (shown hides after.wait (accepted_level after 0)) (shown hides after.wait (accepted_level after 1))))

-- A wait that hides nothing shows the device.
shown_by : (b : Bay) → contact b ≡ true → present false b ≡ true
unfolding present
shown_by b c = c

-- A device comes to a sound bay that had none: where DEVSTSCHG_EN is 1 it is Inserted, unless it must wait.
pub coming :
    (hides : Bool) (s : Setting) (b : Bay) → Sound hides b → present hides b ≡ false → present hides (ticked_bay hides s b) ≡ true
    → (ticked_bay hides s b).state ≡ cond (b.control.devstschg_en && (hides || eqb s.wait_ticks 0)) 1 0
coming hides s b h p q =
    let empty = empty_without_device hides b h p in
    one_move hides s b
    ∙ rw (p, q, no_last hides p h.seating, ap (λ n. eqb n 1) empty, ap (λ n. eqb n 2) empty, and-false, and-false, or-false)
    (ap (λ n. cond (b.control.devstschg_en && (hides || eqb s.wait_ticks 0)) 1 n) empty)
  where
    -- No wait that hides nothing ends here: it runs over a device only.
    no_last :
        (t : Bool) → present t b ≡ false → (0 < b.wait → (b.state ≡ 0) × (contact b ≡ true) × (t ≡ false → b.control.devstschg_en ≡ true))
        → (not t && eqb b.wait 1) ≡ false
    no_last true e f = refl
    no_last false e f = go (eqb b.wait 1) refl
      where
        go : (u : Bool) → eqb b.wait 1 ≡ u → u ≡ false
        go true w = absurd (false≢true (sym e ∙ shown_by b (f (omega (arith, eqb-true b.wait 1 w))).1))
        go false w = refl

-- Contact is new in an Empty bay. The device is Inserted at once if DEVSTSCHG_EN is 1 and there are no ticks to wait. With ticks to wait
-- the bay stays Empty, and the device begins to seat, where it is hidden whatever DEVSTSCHG_EN is, and else only if that is 1; a hidden
-- device is not told. So it is whatever is pressed.
pub record Arrived (hides : Bool) (s : Setting) (before after : Bay) : Type 0 where
  pub moved : after.state ≡ cond (before.control.devstschg_en && eqb s.wait_ticks 0) 1 0
  pub waits : after.wait ≡ cond (hides || before.control.devstschg_en) s.wait_ticks 0
  pub device : present hides after ≡ not (hidden hides s.wait_ticks)
  pub told : after.devstschg ≡ (before.devstschg || not (hidden hides s.wait_ticks))

module _ (hides : Bool) (s : Setting) (b : Bay) (empty : b.state ≡ 0) (none : b.wait ≡ 0) (apart : contact b ≡ false) (now : contact (ticked_bay hides s b) ≡ true) where
  begins_now : (ticked_bay hides s b).wait ≡ cond (hides || b.control.devstschg_en) s.wait_ticks 0
  unfolding wait_after
  begins_now =
      wait_after_lem hides s b
      ∙ rw (apart, now, and-false, ap (λ n. begun s.wait_ticks n) none, ap (λ n. ltb 0 n) none, ap (λ n. n - 1) none, begun_from_0 s.wait_ticks) (either hides)
    where
      either : (t : Bool) → cond (cond t true b.control.devstschg_en) s.wait_ticks 0 ≡ cond (t || b.control.devstschg_en) s.wait_ticks 0
      either true = refl
      either false = refl

  absent : present hides b ≡ false
  absent = no_device_without_contact hides b apart

  shows : present hides (ticked_bay hides s b) ≡ not (hidden hides s.wait_ticks)
  unfolding present
  shows = rw (now, begins_now, and-true) (either hides)
    where
      either : (t : Bool) → not (t && ltb 0 (cond (t || b.control.devstschg_en) s.wait_ticks 0)) ≡ not (t && ltb 0 s.wait_ticks)
      either true = refl
      either false = refl

  inserted : (ticked_bay hides s b).state ≡ cond (b.control.devstschg_en && eqb s.wait_ticks 0) 1 0
  inserted =
      one_move hides s b
      ∙ rw (absent, shows, ap (λ n. eqb n 1) none, ap (λ n. eqb n 1) empty, ap (λ n. eqb n 2) empty, and-false, and-false, and-false, or-false)
      (ap (λ n. cond (not (hides && ltb 0 s.wait_ticks) && b.control.devstschg_en && (hides || eqb s.wait_ticks 0)) 1 n) empty
      ∙ either hides b.control.devstschg_en s.wait_ticks)
    where
      either : (t en : Bool) (n : ℕ) → ◌≡◌ {A = ℕ} (cond (not (t && ltb 0 n) && en && (t || eqb n 0)) 1 0) (cond (en && eqb n 0) 1 0)
      either true true zero = refl
      either true false zero = refl
      either true true (suc n) = rw (lt-ltb 0 (suc n) (omega arith), ne_eqb (suc n) 0 (λ e. omega (arith, e)))
      either true false (suc n) = rw (lt-ltb 0 (suc n) (omega arith))
      either false en n = refl

  pub arrival : Arrived hides s b (ticked_bay hides s b)
  arrival =
      record {
        moved = inserted;
        waits = begins_now;
        device = shows;
        told = change_told hides s b ∙ rw (absent, and-false, and-true, coming_changes hides b (ticked_bay hides s b) absent, shows);
      }

-- A device comes to a bay that had none: contact is new, or it is no longer hidden. That is the one move, if it makes one, and a press in
-- the same TICK sets REMREQ_STS only.
pub record WithArrival (hides : Bool) (s : Setting) (before after : Bay) : Type 0 where
  pub told : after.remreq_sts ≡ true
  pub one_move : after.state ≡ cond (before.control.devstschg_en && (hides || eqb s.wait_ticks 0)) 1 0

pub press_with_arrival :
    (hides : Bool) (s : Setting) (b : Bay) → Sound hides b → present hides b ≡ false → press_over hides b (ticked_bay hides s b) ≡ true
    → WithArrival hides s b (ticked_bay hides s b)
press_with_arrival hides s b h p o =
    let device = ((and-eq-true_iff (accepted_level b 2 && not (accepted_level (ticked_bay hides s b) 2)) (present hides (ticked_bay hides s b))).0 o).1 in
    record { told = pressed_sets hides s b ∙ rw o (or-true b.remreq_sts); one_move = coming hides s b h p device }

-- ---- a press that moves a bay, and a write that follows it

-- A press accepted in this TICK: nREMREQ as accepted goes from 1 to 0, in Inserted or Enabled, with REMREQ_EN set, REMREQ_STS clear,
-- no wait and a device that stays.
pub record Press (hides : Bool) (s : Setting) (b : Bay) : Type 0 where
  pub up : accepted_level b 2 ≡ true
  pub down : accepted_level (ticked_bay hides s b) 2 ≡ false
  pub enabled : b.control.remreq_en ≡ true
  pub unasked : b.remreq_sts ≡ false
  pub in_state : (b.state ≡ 1) ⊎ (b.state ≡ 2)
  pub seated : b.wait ≡ 0
  pub device : present hides b ≡ true
  pub stays : present hides (ticked_bay hides s b) ≡ true

-- It moves the bay to Removal Requested and sets REMREQ_STS.
pub press_moves_lem : (hides : Bool) (s : Setting) (b : Bay) → Press hides s b → ((ticked_bay hides s b).state ≡ 3) × ((ticked_bay hides s b).remreq_sts ≡ true)
unfolding tick_table
press_moves_lem hides s b p = (go p.in_state, pressed_sets hides s b ∙ rw (p.up, p.down, p.stays) (or-true b.remreq_sts))
  where
    go : (b.state ≡ 1) ⊎ (b.state ≡ 2) → (ticked_bay hides s b).state ≡ 3
    go (inl e) = (tick_table_lem hides s b (omega (arith, e)) 3 (omega arith)).1 (rw (e, p.device, p.stays, ap (λ n. eqb n 1) p.seated, and-false, p.up, p.down, p.enabled, p.unasked))
    go (inr e) = (tick_table_lem hides s b (omega (arith, e)) 3 (omega arith)).1 (rw (e, p.device, p.stays, ap (λ n. eqb n 1) p.seated, and-false, p.up, p.down, p.enabled, p.unasked))

-- A write that asks for no state doesn't lose it: the bay stays in Removal Requested with REMREQ_STS set, and power is on exactly if it
-- was written with the lock.
pub record Kept (v : ℕ) (b : Bay) : Type 0 where
  pub requested : b.state ≡ 3
  pub told : b.remreq_sts ≡ true
  pub power : b.control.pwr_ctl ≡ (bit 0 v && bit 7 v)

pub press_then_write : (hides : Bool) (v : ℕ) (t s : Setting) (b : Bay) → v / 16 % 8 ≡ 0 → Press hides t b → Kept v (controlled_bay hides (control_of v) s (ticked_bay hides t b))
unfolding write_table
press_then_write hides v t s b z p =
    let pressed = press_moves_lem hides t b p in
    let stores = bcer_stores hides v s (ticked_bay hides t b) in
    record {
      requested = (write_table_lem hides v s (ticked_bay hides t b) (omega (arith, pressed.0)) 3 (omega arith)).1 (rw (pressed.0, z, and-false));
      told = stores.flags_kept.0 ∙ pressed.1;
      power = stores.pwr_ctl ∙ rw p.stays (and-true (bit 0 v && bit 7 v));
    }

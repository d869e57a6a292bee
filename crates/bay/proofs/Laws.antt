-- What the rules of a bay come to (document 01, "Registers" and "Bay moves"): the theorems that others cite, and the readings that
-- the paper shuts out. Each rewrites a rule by what is known of its tests. Assumes nothing.
use Prim.Native.Nat.{ℕ, zero, suc, ◌^◌, ◌-◌, ◌<◌, ◌≤◌, zero-le}
use native.Mathlib.Omega.{arith}
use native.Mathlib.Nat.{le_refl}
use mathlib.Core.Path.{◌≡◌, refl, sym, ap, ◌∙◌}
use mathlib.Core.Logic.{◌↔◌, ◌⊎◌, inl, inr, ⊎_elim}
use mathlib.Core.Bool.{Bool, true, false, not, cond, ◌&&◌, ◌||◌, and-eq-true_iff, and-true, and-false, and-not_self, not-and_self, or-true, or-false, false≢true}
use lib.Dec.{eqb}
use borrow.Author.Tests.{lt-ltb, le-leb, lt-leb, eqb-true, not-true}
use Rattle.bits.specs.Bits.{bit, put}
use Rattle.bay.specs.Record.{N1394, NUSB, NREMREQ, EMPTY, INSERTED, ENABLED, REMOVAL_REQUESTED, REMOVAL_ALLOWED, level, accepted_level, count, contact, runs, shown, present}
use Rattle.bay.specs.Debounce.{differs, sampled_bay}
use Rattle.bay.specs.Moves.{input, leaves, changes, in_use, begun, wait_after, inserts, state_after, moved_to, moved_bay, ticked_bay}
use Rattle.bay.specs.Registers.{bstr_of, bcer_of, asks, state_written, wait_written, request_written, controlled_bay}
use Rattle.bay.specs.Outputs.{lock_pin, green, yellow, bay_outputs}
use Rattle.bay.specs.Table.{press_over}
use Rattle.bay.specs.Waits.{wait_ticked, shown_changes}
use Rattle.bay.specs.declared.Bay.{Bay}
use Rattle.bay.specs.declared.Control.{Control}
use Rattle.bay.specs.declared.Setting.{Setting}
use Rattle.bay.proofs.Taut.{either_way}
use Rattle.bay.proofs.Ticks.{wait_now, left, stayed as not_left, wait_after_lem, present_after_lem, heeded_after}
use Rattle.bay.proofs.OneStep.{restart_same, restart_other}

-- A number that isn't above 0 is 0.
pub none_runs : (n : ℕ) → runs n ≡ false → n ≡ 0
none_runs zero h = refl
none_runs (suc n) h = absurd (false≢true (sym h ∙ lt-ltb 0 (suc n) (omega arith)))

-- ---- power

-- After a write PWR_CTL is 1 exactly if it was written 1 with LOCK_CTL written 1 and a device present.
pub power_needs_lock_and_device :
    (hides : Bool) (c : Control) (s : Setting) (b : Bay)
    → ((controlled_bay hides c s b).control.pwr_ctl ≡ true) ↔ ((c.pwr_ctl ≡ true) × (c.lock_ctl ≡ true) × (present hides b ≡ true))
unfolding controlled_bay
power_needs_lock_and_device hides c s b = (parts, λ h. rw (h.0, h.1, h.2))
  where
    parts : (c.pwr_ctl && c.lock_ctl && present hides b) ≡ true → (c.pwr_ctl ≡ true) × (c.lock_ctl ≡ true) × (present hides b ≡ true)
    parts h =
        let both = (and-eq-true_iff (c.pwr_ctl && c.lock_ctl) (present hides b)).0 h in
        let written = (and-eq-true_iff c.pwr_ctl c.lock_ctl).0 both.0 in
        (written.0, written.1, both.1)

-- ---- a device that leaves, and one that stays

-- What a removal does: Empty, stored request 0, PWR_CTL 0, the end of a wait, and the rest of BCER as it was. REMREQ_STS too is as it
-- was, set or not, whatever is pressed in the same TICK.
pub record Removed (before after : Bay) : Type 0 where
  pub emptied : after.state ≡ 0
  pub request_gone : after.control.request ≡ 0
  pub power_off : after.control.pwr_ctl ≡ false
  pub lock_kept : after.control.lock_ctl ≡ before.control.lock_ctl
  pub remreq_kept : after.control.remreq_en ≡ before.control.remreq_en
  pub devstschg_kept : after.control.devstschg_en ≡ before.control.devstschg_en
  pub remevtwak_kept : after.control.remevtwak_en ≡ before.control.remevtwak_en
  pub remreq_sts_kept : after.remreq_sts ≡ before.remreq_sts
  pub wait_ended : after.wait ≡ 0

-- As it leaves, no wait runs.
gone_without_wait :
    (hides : Bool) (s : Setting) (b : Bay) → present hides b ≡ true → present hides (ticked_bay hides s b) ≡ false → (ticked_bay hides s b).wait ≡ 0
unfolding present wait_after
gone_without_wait true s b p q =
    let both = (and-eq-true_iff (not (runs b.wait)) (contact b)).0 p in
    wait_after_lem true s b ∙ rw (both.1, ap (λ n. n - 1) (none_runs b.wait (not-true _ both.0))) (either_way 0 (not (contact (ticked_bay true s b))))
gone_without_wait false s b p q = wait_after_lem false s b ∙ rw (p, q)

-- A TICK in which the device leaves.
pub removal : (hides : Bool) (s : Setting) (b : Bay) → present hides b ≡ true → present hides (ticked_bay hides s b) ≡ false → Removed b (ticked_bay hides s b)
unfolding ticked_bay moved_bay
removal hides s b p q =
    let l : leaves hides b (wait_now hides s b) (input b N1394) (input b NUSB) ≡ true = rw (p, ← (present_after_lem hides s b), q) in
    let out = left hides s.wait_ticks b (wait_now hides s b) (input b N1394) (input b NUSB) (input b NREMREQ) l in
    record {
      emptied = ap (λ (t : Bay). t.state) out;
      request_gone = ap (λ (t : Bay). t.control.request) out;
      power_off = ap (λ (t : Bay). t.control.pwr_ctl) out ∙ and-false b.control.pwr_ctl;
      lock_kept = ap (λ (t : Bay). t.control.lock_ctl) out;
      remreq_kept = ap (λ (t : Bay). t.control.remreq_en) out;
      devstschg_kept = ap (λ (t : Bay). t.control.devstschg_en) out;
      remevtwak_kept = ap (λ (t : Bay). t.control.remevtwak_en) out;
      remreq_sts_kept = ap (λ (t : Bay). t.remreq_sts) out;
      wait_ended = gone_without_wait hides s b p q;
    }

-- A TICK in which the device doesn't leave keeps BCER, power with it.
pub tick_keeps_control :
    (hides : Bool) (s : Setting) (b : Bay) → (present hides b ≡ true → present hides (ticked_bay hides s b) ≡ true) → (ticked_bay hides s b).control ≡ b.control
unfolding ticked_bay moved_bay
tick_keeps_control hides s b h =
    let l : leaves hides b (wait_now hides s b) (input b N1394) (input b NUSB) ≡ false = rw (← (present_after_lem hides s b)) (go (present hides b) (present hides (ticked_bay hides s b)) h) in
    ap (λ (t : Bay). t.control) (not_left hides s.wait_ticks b (wait_now hides s b) (input b N1394) (input b NUSB) (input b NREMREQ) l)
  where
    go : (p q : Bool) → (p ≡ true → q ≡ true) → (p && not q) ≡ false
    go true q h = rw (h refl)
    go false q h = refl

-- A powered bay that is Enabled after a TICK is still powered.
pub enabled_keeps_power :
    (hides : Bool) (s : Setting) (b : Bay)
    → b.control.pwr_ctl ≡ true → (ticked_bay hides s b).state ≡ ENABLED → (ticked_bay hides s b).control.pwr_ctl ≡ true
enabled_keeps_power hides s b w e = rw (tick_keeps_control hides s b (λ p. go p (present hides (ticked_bay hides s b)) refl)) w
  where
    go : present hides b ≡ true → (t : Bool) → present hides (ticked_bay hides s b) ≡ t → t ≡ true
    go p true q = refl
    go p false q = absurd (omega (arith, (removal hides s b p q).emptied))

-- ---- what a TICK makes of the state

-- The heeded press of this TICK, if there is one, moves the bay.
abbrev pub press_moves : Bool → Setting → Bay → Bool
press_moves hides s b = press_over hides b (ticked_bay hides s b) && b.control.remreq_en && not b.remreq_sts && in_use b

-- A bay whose device neither leaves nor arrives is Inserted as its wait ends, which then hid nothing, and else moved by a press only: its
-- state is otherwise as it was. The stored request and PWR_CTL are kept.
pub record Stayed (hides : Bool) (s : Setting) (before after : Bay) : Type 0 where
  pub state_kept : after.state ≡ cond (not hides && eqb before.wait 1) INSERTED (cond (press_moves hides s before) REMOVAL_REQUESTED before.state)
  pub request_kept : after.control.request ≡ before.control.request
  pub power_kept : after.control.pwr_ctl ≡ before.control.pwr_ctl

pub stayed : (hides : Bool) (s : Setting) (b : Bay) → present hides (ticked_bay hides s b) ≡ present hides b → Stayed hides s b (ticked_bay hides s b)
unfolding ticked_bay moved_bay moved_to state_after inserts
stayed hides s b h =
    let q = sym (present_after_lem hides s b) ∙ h in
    record { state_kept = rw (← (heeded_after hides s b), q, and-not_self, not-and_self); request_kept = rw (q, and-not_self); power_kept = rw (q, and-not_self) (and-true b.control.pwr_ctl) }

-- All that a TICK makes of a wait, by the accepted levels before and after it.
pub wait_ticked_lem : (hides : Bool) (s : Setting) (b : Bay) → (ticked_bay hides s b).wait ≡ wait_ticked hides s b
unfolding wait_ticked wait_after begun
wait_ticked_lem true s b = wait_after_lem true s b ∙ go (contact b) (contact (ticked_bay true s b)) (runs b.wait) refl
  where
    go :
        (p q t : Bool) → runs b.wait ≡ t
        → cond (not q) 0 (cond (not p && q && not t) (cond (eqb s.wait_ticks 0) b.wait s.wait_ticks) (b.wait - 1))
        ≡ cond t (cond q (b.wait - 1) 0) (cond (not p && q) s.wait_ticks 0)
    go p false true e = refl
    go true false false e = refl
    go false false false e = refl
    go true true true e = refl
    go false true true e = refl
    go true true false e = rw (none_runs b.wait e)
    go false true false e = rw (none_runs b.wait e) (same_ticks (eqb s.wait_ticks 0) refl)
      where
        same_ticks : (z : Bool) → eqb s.wait_ticks 0 ≡ z → cond z 0 s.wait_ticks ≡ s.wait_ticks
        same_ticks true z = sym (eqb-true s.wait_ticks 0 z)
        same_ticks false z = refl
wait_ticked_lem false s b = wait_after_lem false s b

-- So a TICK in which no contact is new begins none ..
pub no_wait_begins :
    (hides : Bool) (s : Setting) (b : Bay) → (contact (ticked_bay hides s b) ≡ true → contact b ≡ true) → b.wait ≡ 0 → (ticked_bay hides s b).wait ≡ 0
unfolding wait_after
no_wait_begins hides s b h w =
    wait_after_lem hides s b
    ∙ rw (none (contact b) (contact (ticked_bay hides s b)) h, ap (λ n. n - 1) w) (either_way 0 ((hides || contact b) && not (contact (ticked_bay hides s b))))
  where
    none : (p q : Bool) → (q ≡ true → p ≡ true) → (not p && q) ≡ false
    none true q h = refl
    none false true h = sym (h refl)
    none false false h = refl

-- .. and over a contact that stays one that runs falls by one.
pub wait_falls : (hides : Bool) (s : Setting) (b : Bay) → contact b ≡ true → contact (ticked_bay hides s b) ≡ true → (ticked_bay hides s b).wait ≡ b.wait - 1
unfolding wait_after
wait_falls hides s b p q = wait_after_lem hides s b ∙ rw (p, q, and-false)

-- Contact means accepted 1394 or USB, and present means contact where no wait hides it.
pub contact_means : (b : Bay) → (contact b ≡ true) ↔ ((accepted_level b 0 ≡ false) ⊎ (accepted_level b 1 ≡ false))
unfolding contact
contact_means b = (parts (accepted_level b 0) (accepted_level b 1), ⊎_elim (λ a. rw a) (λ a. rw a (or-true (not (accepted_level b 0)))))
  where
    parts : (m n : Bool) → (not m || not n) ≡ true → (m ≡ false) ⊎ (n ≡ false)
    parts true true h = absurd (false≢true h)
    parts true false h = inr refl
    parts false n h = inl refl

pub present_means : (hides : Bool) (b : Bay) → (present hides b ≡ true) ↔ ((contact b ≡ true) × (hides ≡ true → b.wait ≡ 0))
unfolding present
present_means true b = (parts, λ h. rw (h.0, h.1 refl))
  where
    parts : (not (runs b.wait) && contact b) ≡ true → (contact b ≡ true) × (true ≡ true → b.wait ≡ 0)
    parts h = let both = (and-eq-true_iff (not (runs b.wait)) (contact b)).0 h in (both.1, λ _. none_runs b.wait (not-true _ both.0))
present_means false b = (λ h. (h, λ e. absurd (false≢true e)), λ h. h.0)

-- A device that was present is so while there is contact ..
pub contact_stays :
    (hides : Bool) (s : Setting) (b : Bay) → present hides b ≡ true → contact (ticked_bay hides s b) ≡ true → present hides (ticked_bay hides s b) ≡ true
contact_stays hides s b p q =
    let was = (present_means hides b).0 p in
    (present_means hides (ticked_bay hides s b)).1 (q, λ h. wait_falls hides s b was.0 q ∙ ap (λ n. n - 1) (was.1 h))

either : (i : ℕ) → i < 2 → (b : Bay) → accepted_level b i ≡ false → contact b ≡ true
either zero l b a = (contact_means b).1 (inl a)
either (suc zero) l b a = (contact_means b).1 (inr a)
either (suc (suc i)) l b a = absurd (omega arith)

-- .. and so where one of the two contacts, inputs 0 and 1, is still closed, whatever the other does: the bay doesn't go Empty by that.
pub one_of_two :
    (hides : Bool) (s : Setting) (b : Bay) (i : ℕ) → i < 2 → present hides b ≡ true → accepted_level (ticked_bay hides s b) i ≡ false
    → Stayed hides s b (ticked_bay hides s b)
one_of_two hides s b i l p a = stayed hides s b (contact_stays hides s b p (either i l (ticked_bay hides s b) a) ∙ sym p)

-- An accepted press over a device sets REMREQ_STS, in any state; nothing else in a TICK alters it.
pub pressed_sets : (hides : Bool) (s : Setting) (b : Bay) → (ticked_bay hides s b).remreq_sts ≡ (b.remreq_sts || press_over hides b (ticked_bay hides s b))
unfolding ticked_bay moved_bay moved_to
pressed_sets hides s b = rw (← (heeded_after hides s b))

-- A change of either presence bit sets DEVSTSCHG, except when a bay in Removal Allowed becomes not present with REMEVTWAK_EN clear.
pub change_told :
    (hides : Bool) (s : Setting) (b : Bay)
    → (ticked_bay hides s b).devstschg
    ≡ (b.devstschg || shown_changes hides b (ticked_bay hides s b) && not (eqb b.state 4 && (present hides b && not (present hides (ticked_bay hides s b))) && not b.control.remevtwak_en))
unfolding ticked_bay moved_bay moved_to changes
change_told hides s b = rw (present_after_lem hides s b)

-- With REMREQ_STS set already an accepted press makes no move: REMREQ_STS with REMREQ_EN isn't a level.
pub press_once :
    (hides : Bool) (s : Setting) (b : Bay) → b.remreq_sts ≡ true → present hides (ticked_bay hides s b) ≡ present hides b
    → (ticked_bay hides s b).state ≡ cond (not hides && eqb b.wait 1) INSERTED b.state
press_once hides s b r h = (stayed hides s b h).state_kept ∙ rw (r, and-false)

-- A TICK with no press over a device sets nothing by the button, though a device arrive, and moves nothing but a bay whose wait ends.
pub record NoPress (hides : Bool) (before after : Bay) : Type 0 where
  pub untold : after.remreq_sts ≡ before.remreq_sts
  pub unmoved : present hides after ≡ present hides before → after.state ≡ cond (not hides && eqb before.wait 1) INSERTED before.state

no_press : (hides : Bool) (s : Setting) (b : Bay) → press_over hides b (ticked_bay hides s b) ≡ false → NoPress hides b (ticked_bay hides s b)
no_press hides s b n =
    record { untold = pressed_sets hides s b ∙ rw n (or-false b.remreq_sts); unmoved = λ h. (stayed hides s b h).state_kept ∙ rw n }

-- A button that is held is one press: so it is where its accepted level stays as it was, ..
pub held_button : (hides : Bool) (s : Setting) (b : Bay) → accepted_level (ticked_bay hides s b) NREMREQ ≡ accepted_level b NREMREQ → NoPress hides b (ticked_bay hides s b)
held_button hides s b h = no_press hides s b (rw (h, and-not_self))

-- .. and where a button comes up that was down.
pub released_button : (hides : Bool) (s : Setting) (b : Bay) → accepted_level b NREMREQ ≡ false → NoPress hides b (ticked_bay hides s b)
released_button hides s b d = no_press hides s b (rw d)

-- ---- requests

-- A request of 0 or 5-7 keeps the stored one.
pub request_0_kept :
    (hides : Bool) (c : Control) (s : Setting) (b : Bay) → (c.request ≡ 0) ⊎ (4 < c.request) → (controlled_bay hides c s b).control.request ≡ b.control.request
unfolding controlled_bay request_written asks
request_0_kept hides c s b (inl z) = rw z
request_0_kept hides c s b (inr l) = rw (lt-leb c.request REMOVAL_ALLOWED l, and-false)

-- A request 1-4 is stored, and with a device present it is the state, whatever else is written.
asks_to : (c : Control) → 0 < c.request → c.request ≤ 4 → asks c ≡ true
unfolding asks
asks_to c l h = rw (lt-ltb EMPTY c.request l, le-leb c.request REMOVAL_ALLOWED h)

pub request_stored :
    (hides : Bool) (c : Control) (s : Setting) (b : Bay) → 0 < c.request → c.request ≤ 4 → (controlled_bay hides c s b).control.request ≡ c.request
unfolding controlled_bay request_written
request_stored hides c s b l h = rw (asks_to c l h)

pub request_decides :
    (hides : Bool) (c : Control) (s : Setting) (b : Bay)
    → 0 < c.request → c.request ≤ 4 → present hides b ≡ true → (controlled_bay hides c s b).state ≡ c.request
unfolding controlled_bay state_written
request_decides hides c s b l h p = rw (asks_to c l h, p)

-- A write leaves presence as it is ..
pub write_keeps_presence : (hides : Bool) (c : Control) (s : Setting) (b : Bay) → present hides (controlled_bay hides c s b) ≡ present hides b
unfolding controlled_bay present contact wait_written
write_keeps_presence true c s b = refl
write_keeps_presence false c s b = refl

-- .. and a request 1-4 over a device ends a wait.
pub request_ends_wait :
    (hides : Bool) (c : Control) (s : Setting) (b : Bay) → 0 < c.request → c.request ≤ 4 → present hides b ≡ true → (controlled_bay hides c s b).wait ≡ 0
unfolding controlled_bay wait_written
request_ends_wait true c s b l h p = ((present_means true b).0 p).1 refl
request_ends_wait false c s b l h p = rw (asks_to c l h, p, or-true)

write_keeps_press : (hides : Bool) (c : Control) (s : Setting) (b : Bay) → (controlled_bay hides c s b).remreq_sts ≡ b.remreq_sts
unfolding controlled_bay
write_keeps_press hides c s b = refl

-- It doesn't bounce back in the next TICK, though REMREQ_STS and REMREQ_EN are set.
pub request_stands :
    (hides : Bool) (c : Control) (s : Setting) (b : Bay)
    → 0 < c.request → c.request ≤ 4 → present hides b ≡ true → b.remreq_sts ≡ true
    → present hides (ticked_bay hides s (controlled_bay hides c s b)) ≡ true → (ticked_bay hides s (controlled_bay hides c s b)).state ≡ c.request
request_stands hides c s b l h p r q =
    press_once hides s (controlled_bay hides c s b) (write_keeps_press hides c s b ∙ r) (q ∙ sym (write_keeps_presence hides c s b ∙ p))
    ∙ rw (request_ends_wait hides c s b l h p, and-false) (request_decides hides c s b l h p)

-- ---- bytes

-- Bit i adds 2 ^ i at most.
put_most : (i : ℕ) (on : Bool) → put i on ≤ 2 ^ i
put_most i true = le_refl (2 ^ i)
put_most i false = zero-le

-- Each register of every bay reads as a byte, and its outputs are four bits.
pub bstr_byte : (hides secured : Bool) (b : Bay) → bstr_of hides secured b < 256
unfolding bstr_of
bstr_byte hides secured b =
    omega (
      arith,
      put_most 7 (secured && not b.n_sl),
      put_most 3 b.remreq_sts,
      put_most 2 b.devstschg,
      put_most 1 (shown hides b.wait (accepted_level b N1394)),
      put_most 0 (shown hides b.wait (accepted_level b NUSB)),
    )

pub bcer_byte : (b : Bay) → bcer_of b < 256
unfolding bcer_of
bcer_byte b =
    omega (
      arith,
      put_most 7 b.control.lock_ctl,
      put_most 3 b.control.remreq_en,
      put_most 2 b.control.devstschg_en,
      put_most 1 b.control.remevtwak_en,
      put_most 0 b.control.pwr_ctl,
    )

pub outputs_nibble : (hides : Bool) (s : Setting) (lit : Bool) (b : Bay) → bay_outputs hides s lit b < 16
unfolding bay_outputs
outputs_nibble hides s lit b =
    omega (arith, put_most 3 b.control.pwr_ctl, put_most 2 (lock_pin s b), put_most 1 (green hides lit b), put_most 0 (yellow lit b))

-- ---- a sample

-- The four levels of a bay: n1394, nUSB, nREMREQ, nSL.
pub record Sensed (levels : ℕ) (b : Bay) : Type 0 where
  pub n1394 : level b N1394 ≡ bit 3 levels
  pub nusb : level b NUSB ≡ bit 2 levels
  pub nremreq : level b NREMREQ ≡ bit 1 levels
  pub nsl : b.n_sl ≡ bit 0 levels

-- PINS stores them and sets to 0 the count of each input whose level now equals the accepted one. It alters nothing else: it accepts no
-- level and moves no bay.
pub record Sampled (levels : ℕ) (before after : Bay) : Type 0 where
  pub senses : Sensed levels after
  pub restarted : (i : ℕ) → i < 3 → level after i ≡ accepted_level before i → count after i ≡ 0
  pub counting_on : (i : ℕ) → i < 3 → differs (level after i) (accepted_level before i) ≡ true → count after i ≡ count before i
  pub accepted_kept : after.accepted ≡ before.accepted
  pub state_kept : after.state ≡ before.state
  pub flags_kept : (after.remreq_sts ≡ before.remreq_sts) × (after.devstschg ≡ before.devstschg)
  pub control_kept : after.control ≡ before.control
  pub pulse_kept : after.pulse ≡ before.pulse
  pub wait_kept : after.wait ≡ before.wait

pub sampled : (levels : ℕ) (b : Bay) → Sampled levels b (sampled_bay levels b)
unfolding sampled_bay
sampled levels b =
    record {
      senses = record { n1394 = refl; nusb = refl; nremreq = refl; nsl = refl };
      restarted = at_0;
      counting_on = on;
      accepted_kept = refl;
      state_kept = refl;
      flags_kept = (refl, refl);
      control_kept = refl;
      pulse_kept = refl;
      wait_kept = refl;
    }
  where
    at_0 : (i : ℕ) → i < 3 → level (sampled_bay levels b) i ≡ accepted_level b i → count (sampled_bay levels b) i ≡ 0
    at_0 zero l e = restart_same _ _ _ e
    at_0 (suc zero) l e = restart_same _ _ _ e
    at_0 (suc (suc zero)) l e = restart_same _ _ _ e
    at_0 (suc (suc (suc i))) l e = absurd (omega arith)

    on : (i : ℕ) → i < 3 → differs (level (sampled_bay levels b) i) (accepted_level b i) ≡ true → count (sampled_bay levels b) i ≡ count b i
    on zero l e = restart_other _ _ _ e
    on (suc zero) l e = restart_other _ _ _ e
    on (suc (suc zero)) l e = restart_other _ _ _ e
    on (suc (suc (suc i))) l e = absurd (omega arith)

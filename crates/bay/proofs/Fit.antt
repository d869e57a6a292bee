-- A fit bay stays fit, whatever happens to it: each number of the record is one of those that a rule picks from, and all of these
-- are in range. Assumes nothing.
use Prim.Native.Nat.{ℕ, ◌≤◌, ◌<◌}
use native.Mathlib.Omega.{arith}
use mathlib.Core.Path.{◌≡◌, refl}
use mathlib.Core.Bool.{Bool, true, false, not, cond, ◌&&◌, ◌||◌, and-eq-true_iff, and-false, false≢true}
use mathlib.Core.Logic.{◌↔◌}
use lib.Dec.{eqb, leb}
use borrow.Author.Tests.{lt-ltb, le-leb, ltb-true, leb-true}
use Rattle.bay.specs.Record.{N1394, NUSB, NREMREQ, EMPTY, INSERTED, REMOVAL_REQUESTED, REMOVAL_ALLOWED, count, present, empty_bay, reset_bay, bay_fit}
use Rattle.bay.specs.Debounce.{sampled_bay}
use Rattle.bay.specs.Moves.{input, leaves, in_use, inserts, at_once, state_after, begins, begun, ends, wait_after, moved_to, moved_bay, ticked_bay}
use Rattle.bay.specs.Registers.{bstr_written, asks, finds, request_written, state_written, wait_written, pulse_written, controlled_bay, unlocked_bay}
use Rattle.bay.specs.declared.Bay.{Bay}
use Rattle.bay.specs.declared.Control.{Control}
use Rattle.bay.specs.declared.Setting.{Setting}
use Rattle.bay.proofs.Taut.{pick}
use Rattle.bay.proofs.OneStep.{counts_on, restarts}
use Rattle.bay.proofs.Ticks.{wait_now}

-- A request that is stored is a state.
asked_is_state : (c : Control) → asks c ≡ true → c.request ≤ REMOVAL_ALLOWED
unfolding asks
asked_is_state c h = go (leb c.request REMOVAL_ALLOWED) refl
  where
    go : (t : Bool) → leb c.request REMOVAL_ALLOWED ≡ t → c.request ≤ REMOVAL_ALLOWED
    go true e = leb-true _ _ e
    go false e = absurd (false≢true (rw (e, and-false) at h))

-- Where a move's first answer is a state, its answer is one.
moves_to_state :
    (first second third : Bool) (x s : ℕ) → (first ≡ true → x ≤ REMOVAL_ALLOWED) → s ≤ REMOVAL_ALLOWED
    → cond first x (cond second INSERTED (cond third REMOVAL_REQUESTED s)) ≤ REMOVAL_ALLOWED
moves_to_state true second third x s f h = f refl
moves_to_state false true third x s f h = omega arith
moves_to_state false false true x s f h = omega arith
moves_to_state false false false x s f h = h

-- So is the state after a TICK, and after a write.
state_after_fits :
    (hides : Bool) (ticks : ℕ) (b : Bay) (gone come press : Bool) → b.state ≤ REMOVAL_ALLOWED → state_after hides ticks b gone come press ≤ REMOVAL_ALLOWED
unfolding state_after
state_after_fits hides ticks b gone come press h =
    moves_to_state gone (inserts hides ticks b come) (press && b.control.remreq_en && not b.remreq_sts && in_use b) EMPTY b.state
    (λ _. omega arith) h

state_written_fits :
    (hides : Bool) (ticks : ℕ) (c : Control) (device : Bool) (b : Bay) → b.state ≤ REMOVAL_ALLOWED → state_written hides ticks c device b ≤ REMOVAL_ALLOWED
unfolding state_written
state_written_fits hides ticks c device b h =
    moves_to_state (asks c && device) (finds c device b && at_once hides ticks)
    (c.remreq_en && not b.control.remreq_en && b.remreq_sts && in_use b) c.request b.state
    (λ a. asked_is_state c ((and-eq-true_iff (asks c) device).0 a).0) h

-- ---- with pulses and waits up to these

module _ (most_pulse most_wait : ℕ) where
  -- The parts of fitness, in the paper's numbers.
  pub record Fits (b : Bay) : Type 0 where
    pub n1394 : count b N1394 < 10
    pub nusb : count b NUSB < 10
    pub nremreq : count b NREMREQ < 5
    pub in_state : b.state ≤ 4
    pub asked : b.control.request ≤ 4
    pub pulsed : b.pulse ≤ most_pulse
    pub waits : b.wait ≤ most_wait

  abbrev Fit : Bay → Type 0
  Fit b = bay_fit most_pulse most_wait b ≡ true

  pub fit_parts : (b : Bay) → Fit b ↔ Fits b
  unfolding bay_fit
  fit_parts b = (parts, whole)
    where
      parts : Fit b → Fits b
      parts h =
          let six = (and-eq-true_iff _ _).0 h in
          let five = (and-eq-true_iff _ _).0 six.0 in
          let four = (and-eq-true_iff _ _).0 five.0 in
          let three = (and-eq-true_iff _ _).0 four.0 in
          let two = (and-eq-true_iff _ _).0 three.0 in
          let one = (and-eq-true_iff _ _).0 two.0 in
          record {
            n1394 = ltb-true _ _ one.0;
            nusb = ltb-true _ _ one.1;
            nremreq = ltb-true _ _ two.1;
            in_state = leb-true _ _ three.1;
            asked = leb-true _ _ four.1;
            pulsed = leb-true _ _ five.1;
            waits = leb-true _ _ six.1;
          }

      whole : Fits b → Fit b
      whole f =
          rw (
            lt-ltb _ _ f.n1394,
            lt-ltb _ _ f.nusb,
            lt-ltb _ _ f.nremreq,
            le-leb _ _ f.in_state,
            le-leb _ _ f.asked,
            le-leb _ _ f.pulsed,
            le-leb _ _ f.waits,
          )

  -- The bays that a closing and RESET make are fit ..
  pub empty_fit : Fit empty_bay
  unfolding empty_bay
  empty_fit =
      (fit_parts empty_bay).1
      record { n1394 = omega arith; nusb = omega arith; nremreq = omega arith; in_state = omega arith; asked = omega arith; pulsed = omega arith; waits = omega arith }

  pub reset_fit : (levels : ℕ) (lock : Bool) → Fit (reset_bay levels lock)
  unfolding reset_bay
  reset_fit levels lock =
      (fit_parts (reset_bay levels lock)).1
      record { n1394 = omega arith; nusb = omega arith; nremreq = omega arith; in_state = omega arith; asked = omega arith; pulsed = omega arith; waits = omega arith }

  -- .. and each event keeps a bay fit.
  pub sampled_fit : (levels : ℕ) (b : Bay) → Fit b → Fit (sampled_bay levels b)
  unfolding sampled_bay
  sampled_fit levels b h =
      let f = (fit_parts b).0 h in
      (fit_parts (sampled_bay levels b)).1
      record {
        n1394 = restarts _ _ _ _ f.n1394;
        nusb = restarts _ _ _ _ f.nusb;
        nremreq = restarts _ _ _ _ f.nremreq;
        in_state = f.in_state;
        asked = f.asked;
        pulsed = f.pulsed;
        waits = f.waits;
      }

  -- A wait is as long as the ticks given at most, or as one that ran, so these are bounded too.
  begun_fits : (ticks wait : ℕ) → ticks ≤ most_wait → wait ≤ most_wait → begun ticks wait ≤ most_wait
  unfolding begun
  begun_fits ticks wait l h = pick (λ n. n ≤ most_wait) (eqb ticks 0) (λ _. h) (λ _. l)

  wait_after_fits : (hides : Bool) (ticks : ℕ) (b : Bay) (now : Bool) → ticks ≤ most_wait → b.wait ≤ most_wait → wait_after hides ticks b now ≤ most_wait
  unfolding wait_after
  wait_after_fits hides ticks b now l h =
      pick (λ n. n ≤ most_wait) {m = 0} (ends hides b now) (λ _. omega arith)
      (λ _. pick (λ n. n ≤ most_wait) (begins hides b now) (λ _. begun_fits ticks b.wait l h) (λ _. omega (arith, h)))

  wait_written_fits :
      (hides : Bool) (ticks : ℕ) (c : Control) (device : Bool) (b : Bay) → ticks ≤ most_wait → b.wait ≤ most_wait → wait_written hides ticks c device b ≤ most_wait
  unfolding wait_written
  wait_written_fits hides ticks c device b l h =
      pick (λ n. n ≤ most_wait) hides (λ _. h)
      (λ _. pick (λ n. n ≤ most_wait) {m = 0} (not c.devstschg_en || asks c && device) (λ _. omega arith)
      (λ _. pick (λ n. n ≤ most_wait) (finds c device b) (λ _. begun_fits ticks b.wait l h) (λ _. h)))

  pub ticked_fit : (hides : Bool) (s : Setting) (b : Bay) → s.wait_ticks ≤ most_wait → Fit b → Fit (ticked_bay hides s b)
  unfolding ticked_bay moved_bay moved_to
  ticked_fit hides s b l h =
      let f = (fit_parts b).0 h in
      (fit_parts (ticked_bay hides s b)).1
      record {
        n1394 = counts_on _ _ _ _ (omega arith) f.n1394;
        nusb = counts_on _ _ _ _ (omega arith) f.nusb;
        nremreq = counts_on _ _ _ _ (omega arith) f.nremreq;
        in_state = state_after_fits _ _ b _ _ _ f.in_state;
        asked = pick (λ r. r ≤ REMOVAL_ALLOWED) {m = 0} (leaves hides b (wait_now hides s b) (input b N1394) (input b NUSB)) (λ _. omega arith) (λ _. f.asked);
        pulsed = omega (arith, f.pulsed);
        waits = wait_after_fits hides s.wait_ticks b _ l f.waits;
      }

  pub bstr_written_fit : (v : ℕ) (b : Bay) → Fit b → Fit (bstr_written v b)
  unfolding bay_fit bstr_written
  bstr_written_fit v b h = h

  pub unlocked_fit : (b : Bay) → Fit b → Fit (unlocked_bay b)
  unfolding unlocked_bay
  unlocked_fit b h =
      let f = (fit_parts b).0 h in
      (fit_parts (unlocked_bay b)).1
      record { n1394 = f.n1394; nusb = f.nusb; nremreq = f.nremreq; in_state = f.in_state; asked = f.asked; pulsed = omega arith; waits = f.waits }

  -- A pulse likewise.
  pub controlled_fit :
      (hides : Bool) (c : Control) (s : Setting) (b : Bay) → s.pulse_ticks ≤ most_pulse → s.wait_ticks ≤ most_wait → Fit b → Fit (controlled_bay hides c s b)
  unfolding controlled_bay request_written pulse_written
  controlled_fit hides c s b p w h =
      let f = (fit_parts b).0 h in
      (fit_parts (controlled_bay hides c s b)).1
      record {
        n1394 = f.n1394;
        nusb = f.nusb;
        nremreq = f.nremreq;
        in_state = state_written_fits _ _ c (present hides b) b f.in_state;
        asked = pick (λ r. r ≤ REMOVAL_ALLOWED) (asks c) (asked_is_state c) (λ _. f.asked);
        pulsed = pick (λ n. n ≤ most_pulse) (s.pulsed && b.control.lock_ctl && not c.lock_ctl) (λ _. p) (λ _. f.pulsed);
        waits = wait_written_fits hides s.wait_ticks c (present hides b) b w f.waits;
      }

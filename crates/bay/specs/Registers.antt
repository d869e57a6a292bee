-- A bay's two registers (document 01, "Registers"): BSTR and BCER as they read, and what a write does, to them or to SFR.
use Rattle.std.specs.Prelude.{ℕ, ◌+◌, ◌*◌, ◌/◌, ◌%◌, Bool, false, not, cond, ◌&&◌, ◌||◌, eqb, ltb, leb}
use Rattle.bits.specs.Bits.{bit, put}
use Rattle.bay.specs.Record.{N1394, NUSB, accepted_level, shown, present, EMPTY, INSERTED, REMOVAL_REQUESTED, REMOVAL_ALLOWED, with_status}
use Rattle.bay.specs.Moves.{in_use, begun, at_once}
use Rattle.bay.specs.declared.Bay.{Bay}
use Rattle.bay.specs.declared.Control.{Control}
use Rattle.bay.specs.declared.Setting.{Setting}

-- BSTR: bit 7 inverse of nSL as last sampled, where the security lock shows; 6-4 bay state; 3 REMREQ_STS; 2 DEVSTSCHG; 1 and 0 accepted
-- 1394 and USB presence, of a device that isn't hidden.
unfoldable pub bstr_of : Bool → Bool → Bay → ℕ
bstr_of hides secured b =
    put 7 (secured && not b.n_sl) + b.state % 8 * 16 + put 3 b.remreq_sts + put 2 b.devstschg
    + put 1 (shown hides b.wait (accepted_level b N1394)) + put 0 (shown hides b.wait (accepted_level b NUSB))

-- BCER: 7 LOCK_CTL, 6-4 stored request, 3 REMREQ_EN, 2 DEVSTSCHG_EN, 1 REMEVTWAK_EN, 0 PWR_CTL.
unfoldable pub bcer_of : Bay → ℕ
bcer_of b =
    put 7 b.control.lock_ctl + b.control.request % 8 * 16 + put 3 b.control.remreq_en + put 2 b.control.devstschg_en
    + put 1 b.control.remevtwak_en + put 0 b.control.pwr_ctl

-- The first write of SFR opens the lock of both bays (document 03, "Registers"): LOCK_CTL, PWR_CTL and the pulse are 0, and no pulse starts.
abbrev pub control_unlocked : Control → Control
control_unlocked c =
    record {
      lock_ctl = false;
      request = c.request;
      remreq_en = c.remreq_en;
      devstschg_en = c.devstschg_en;
      remevtwak_en = c.remevtwak_en;
      pwr_ctl = false;
    }

unfoldable pub unlocked_bay : Bay → Bay
unlocked_bay b = with_status b.state b.remreq_sts b.devstschg (control_unlocked b.control) 0 b.wait b

-- BSTR: writing 1 to bit 3 or 2 clears it; other bits are ignored.
unfoldable pub bstr_written : ℕ → Bay → Bay
bstr_written v b = with_status b.state (b.remreq_sts && not (bit 3 v)) (b.devstschg && not (bit 2 v)) b.control b.pulse b.wait b

-- A byte written to BCER, by its fields.
unfoldable pub control_of : ℕ → Control
control_of v =
    record {
      lock_ctl = bit 7 v;
      request = v / 16 % 8;
      remreq_en = bit 3 v;
      devstschg_en = bit 2 v;
      remevtwak_en = bit 1 v;
      pwr_ctl = bit 0 v;
    }

-- Request 1-4 is stored; 0 and 5-7 keep the old one.
unfoldable pub asks : Control → Bool
asks c = ltb EMPTY c.request && leb c.request REMOVAL_ALLOWED

unfoldable pub request_written : Control → Control → ℕ
request_written c old = cond (asks c) c.request old.request

-- BCER after a write: PWR_CTL is 1 exactly if it was written 1 with LOCK_CTL written 1 and a device present, and else 0.
abbrev pub control_written : Control → Bool → Control → Control
control_written c device old =
    record {
      lock_ctl = c.lock_ctl;
      request = request_written c old;
      remreq_en = c.remreq_en;
      devstschg_en = c.devstschg_en;
      remevtwak_en = c.remevtwak_en;
      pwr_ctl = c.pwr_ctl && c.lock_ctl && device;
    }

-- DEVSTSCHG_EN from 0 to 1 in Empty with a device.
unfoldable pub finds : Control → Bool → Bay → Bool
finds c device b = c.devstschg_en && not b.control.devstschg_en && eqb b.state EMPTY && device

-- A write makes at most one move, the first that applies: request 1-4 with a device present, to that state; DEVSTSCHG_EN from 0
-- to 1 in Empty with a device, to Inserted, unless it must wait; REMREQ_EN from 0 to 1 with REMREQ_STS set in Inserted or Enabled, to
-- Removal Requested.
unfoldable pub state_written : Bool → ℕ → Control → Bool → Bay → ℕ
state_written hides ticks c device b =
    cond (asks c && device) c.request
    (cond (finds c device b && at_once hides ticks) INSERTED
    (cond (c.remreq_en && not b.control.remreq_en && b.remreq_sts && in_use b) REMOVAL_REQUESTED b.state))

-- A wait that hides the device goes on whatever is written (document 03, "Bay moves"). Else DEVSTSCHG_EN written 0, or request 1-4 with a
-- device present, ends it, and DEVSTSCHG_EN from 0 to 1 in Empty with a device begins one (document 02, request 6).
unfoldable pub wait_written : Bool → ℕ → Control → Bool → Bay → ℕ
wait_written hides ticks c device b =
    cond hides b.wait
    (cond (not c.devstschg_en || asks c && device) 0 (cond (finds c device b) (begun ticks b.wait) b.wait))

-- Where the lock is pulsed, LOCK_CTL written from 1 to 0 starts a pulse with so many ticks, and another restarts it.
unfoldable pub pulse_written : Control → Bool → ℕ → Bay → ℕ
pulse_written c pulsed ticks b = cond (pulsed && b.control.lock_ctl && not c.lock_ctl) ticks b.pulse

-- A write of BCER's fields.
unfoldable pub controlled_bay : Bool → Control → Setting → Bay → Bay
controlled_bay hides c s b =
    with_status
    (state_written hides s.wait_ticks c (present hides b) b)
    b.remreq_sts
    b.devstschg
    (control_written c (present hides b) b.control)
    (pulse_written c s.pulsed s.pulse_ticks b)
    (wait_written hides s.wait_ticks c (present hides b) b)
    b

-- What a TICK makes of a bay (document 01, "Bay moves"; document 02, request 6; document 03, "Bay moves"): the wait goes on, and then it
-- makes at most one move, presence first.
use Rattle.std.specs.Prelude.{ℕ, ◌-◌, Bool, not, cond, ◌&&◌, ◌||◌, [], ◌∷◌, eqb}
use Rattle.std.specs.Bool.{beq}
use Rattle.bay.specs.Record.{
  N1394,
  NUSB,
  NREMREQ,
  ticks_for,
  level,
  accepted_level,
  count,
  any_asserted,
  contact,
  runs,
  hidden,
  present,
  shown,
  EMPTY,
  INSERTED,
  ENABLED,
  REMOVAL_REQUESTED,
  REMOVAL_ALLOWED,
  with_inputs,
  with_status,
}
use Rattle.bay.specs.Debounce.{differs, debounce}
use Rattle.bay.specs.declared.Bay.{Bay}
use Rattle.bay.specs.declared.Control.{Control}
use Rattle.bay.specs.declared.Input.{Input}
use Rattle.bay.specs.declared.Inputs.{Inputs}
use Rattle.bay.specs.declared.Setting.{Setting}

-- Input i after this TICK: its accepted level, its count, and whether a level was accepted.
abbrev pub input : Bay → ℕ → Input
input b i = debounce (ticks_for i) (level b i) (accepted_level b i) (count b i)

-- Its three inputs then.
abbrev pub inputs_of : Bay → Inputs
inputs_of b = record { n1394 = input b N1394; nusb = input b NUSB; nremreq = input b NREMREQ }

-- ---- the wait of a device that seats slowly: the ticks that are left of it, 0 where none runs
--
-- The rules below are over a bay, its inputs 1394 and USB, or removal request, after this TICK, and whether a wait hides the device: in
-- one kind of controller it does (document 03, "Bay moves"), and in the other not (document 02, request 6).

abbrev pub contact_after : Input → Input → Bool
contact_after n1394 nusb = any_asserted n1394.accepted nusb.accepted

-- It ends as contact is lost, and where it hides the device also where there was none.
abbrev pub ends : Bool → Bay → Bool → Bool
ends hides b now = (hides || contact b) && not now

-- One begins as contact is new: where it hides the device, if none runs; else with DEVSTSCHG_EN.
abbrev pub begins : Bool → Bay → Bool → Bool
begins hides b now = (not (contact b) && now) && cond hides (not (runs b.wait)) b.control.devstschg_en

-- It begins with so many ticks; with 0 none begins.
unfoldable pub begun : ℕ → ℕ → ℕ
begun ticks wait = cond (eqb ticks 0) wait ticks

-- Else one above 0 falls by one.
unfoldable pub wait_after : Bool → ℕ → Bay → Bool → ℕ
wait_after hides ticks b now = cond (ends hides b now) 0 (cond (begins hides b now) (begun ticks b.wait) (b.wait - 1))

-- ---- what the TICK brings, by the wait after it

abbrev pub present_after : Bool → ℕ → Input → Input → Bool
present_after hides wait n1394 nusb = not (hidden hides wait) && contact_after n1394 nusb

-- Present to not present; not present to present; a change of either presence bit, as BSTR shows it.
abbrev pub leaves : Bool → Bay → ℕ → Input → Input → Bool
leaves hides b wait n1394 nusb = present hides b && not (present_after hides wait n1394 nusb)

abbrev pub arrives : Bool → Bay → ℕ → Input → Input → Bool
arrives hides b wait n1394 nusb = not (present hides b) && present_after hides wait n1394 nusb

unfoldable pub changes : Bool → Bay → ℕ → Input → Input → Bool
changes hides b wait n1394 nusb =
    differs (shown hides b.wait (accepted_level b N1394)) (shown hides wait n1394.accepted)
    || differs (shown hides b.wait (accepted_level b NUSB)) (shown hides wait nusb.accepted)

-- An accepted press: a removal request level accepted as 0 in this TICK.
abbrev pub pressed : Input → Bool
pressed nremreq = nremreq.settled && not nremreq.accepted

-- It is heeded with a device present: presence of the same TICK is settled first, and a press on a bay then not present sets nothing
-- (document 02, request 1).
abbrev pub heeded : Bool → ℕ → Input → Input → Input → Bool
heeded hides wait n1394 nusb nremreq = pressed nremreq && present_after hides wait n1394 nusb

-- A bay in Removal Allowed becomes not present with REMEVTWAK_EN clear.
abbrev pub quiet : Bay → Bool → Bool
quiet b gone = eqb b.state REMOVAL_ALLOWED && gone && not b.control.remevtwak_en

-- A state from which a press goes to Removal Requested.
unfoldable pub in_use : Bay → Bool
in_use b = eqb b.state INSERTED || eqb b.state ENABLED

-- ---- the move

-- A device that comes, or that a write finds, is Inserted at once where it was hidden for its wait, and else if it needn't wait.
abbrev pub at_once : Bool → ℕ → Bool
at_once hides ticks = hides || eqb ticks 0

-- The bay is to be Inserted: so as a device comes with DEVSTSCHG_EN; else, where it was not hidden, as its wait falls to 0.
unfoldable pub inserts : Bool → ℕ → Bay → Bool → Bool
inserts hides ticks b come = cond (come && b.control.devstschg_en) (at_once hides ticks) (not hides && eqb b.wait 1)

-- 1. Present to not present: Empty. Else, where the bay is to be: Inserted.
-- 2. With a heeded press: if REMREQ_EN is 1, REMREQ_STS was 0 before this press, and step 1 gave no state, Inserted or Enabled goes to
-- Removal Requested.
unfoldable pub state_after : Bool → ℕ → Bay → Bool → Bool → Bool → ℕ
state_after hides ticks b gone come press =
    cond gone EMPTY
    (cond (inserts hides ticks b come) INSERTED
    (cond (press && b.control.remreq_en && not b.remreq_sts && in_use b) REMOVAL_REQUESTED b.state))

-- Present to not present: stored request 0, PWR_CTL 0.
abbrev pub control_after : Bool → Control → Control
control_after gone c =
    record {
      lock_ctl = c.lock_ctl;
      request = cond gone 0 c.request;
      remreq_en = c.remreq_en;
      devstschg_en = c.devstschg_en;
      remevtwak_en = c.remevtwak_en;
      pwr_ctl = c.pwr_ctl && not gone;
    }

-- A heeded press sets REMREQ_STS, in any state.
abbrev pub requested_after : Bay → Bool → Bool
requested_after b press = b.remreq_sts || press

-- A change of either presence bit sets DEVSTSCHG, except when quiet.
abbrev pub changed_after : Bay → Bool → Bool → Bool
changed_after b change silent = b.devstschg || change && not silent

-- All of it, with the inputs as accepted and counted, and by the wait after this TICK; a pulse above 0 falls by one.
unfoldable pub moved_to : Bool → ℕ → Bay → ℕ → Input → Input → Input → Bay
moved_to hides ticks b wait n1394 nusb nremreq =
    with_status
    (state_after hides ticks b (leaves hides b wait n1394 nusb) (arrives hides b wait n1394 nusb) (heeded hides wait n1394 nusb nremreq))
    (requested_after b (heeded hides wait n1394 nusb nremreq))
    (changed_after b (changes hides b wait n1394 nusb) (quiet b (leaves hides b wait n1394 nusb)))
    (control_after (leaves hides b wait n1394 nusb) b.control)
    (b.pulse - 1)
    wait
    (with_inputs
    b.levels
    (n1394.accepted ∷ nusb.accepted ∷ nremreq.accepted ∷ [])
    (n1394.count ∷ nusb.count ∷ nremreq.count ∷ [])
    b.n_sl
    b)

unfoldable pub moved_bay : Bool → ℕ → Bay → Input → Input → Input → Bay
moved_bay hides ticks b n1394 nusb nremreq =
    moved_to hides ticks b (wait_after hides ticks b (contact_after n1394 nusb)) n1394 nusb nremreq

unfoldable pub ticked_bay : Bool → Setting → Bay → Bay
ticked_bay hides s b = moved_bay hides s.wait_ticks b (input b N1394) (input b NUSB) (input b NREMREQ)

-- ---- a TICK that finds nothing to do

-- The level of input i is the accepted one.
abbrev pub same : Bay → ℕ → Bool
same b i = beq (level b i) (accepted_level b i)

-- All three are, no device seats and no pulse runs.
unfoldable pub rests : Bay → Bool
rests b = same b N1394 && same b NUSB && same b NREMREQ && eqb b.wait 0 && eqb b.pulse 0

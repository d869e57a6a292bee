-- A bay's record: how its inputs are read, its states, and the records that a closing and a RESET make (document 01,
-- "Registers" and "Bay moves").
use Rattle.std.specs.Prelude.{ℕ, zero, suc, Bool, true, false, not, cond, ◌&&◌, ◌||◌, List, [], ◌∷◌, eqb, ltb, leb, get_or}
use Rattle.bits.specs.Bits.{bit}
use Rattle.bay.specs.declared.Bay.{Bay}
use Rattle.bay.specs.declared.Control.{Control}

-- The debounced inputs.
abbrev pub INPUTS : ℕ
INPUTS = 3

abbrev pub N1394 : ℕ
N1394 = 0

abbrev pub NUSB : ℕ
NUSB = 1

abbrev pub NREMREQ : ℕ
NREMREQ = 2

-- Of input i: its level as last sampled, its accepted level and its debounce count. A level of false is 0, asserted.
abbrev pub level : Bay → ℕ → Bool
level b i = get_or b.levels i false

abbrev pub accepted_level : Bay → ℕ → Bool
accepted_level b i = get_or b.accepted i false

abbrev pub count : Bay → ℕ → ℕ
count b i = get_or b.counts i 0

-- Contact means accepted 1394 or USB.
abbrev pub any_asserted : Bool → Bool → Bool
any_asserted n1394 nusb = not n1394 || not nusb

unfoldable pub contact : Bay → Bool
contact b = any_asserted (accepted_level b N1394) (accepted_level b NUSB)

-- A wait above 0 runs. In one kind of controller it hides the device, and in the other not (document 03, "Bay moves").
abbrev pub runs : ℕ → Bool
runs wait = ltb 0 wait

abbrev pub hidden : Bool → ℕ → Bool
hidden hides wait = hides && runs wait

-- Present means contact, of a device that isn't hidden ..
unfoldable pub present : Bool → Bay → Bool
present hides b = not (hidden hides b.wait) && contact b

-- .. and so a presence bit shows its contact.
abbrev pub shown : Bool → ℕ → Bool → Bool
shown hides wait accepted = not (hidden hides wait) && not accepted

-- Bay states: 0 Empty, 1 Inserted, 2 Enabled, 3 Removal Requested, 4 Removal Allowed.
abbrev pub EMPTY : ℕ
EMPTY = 0

abbrev pub INSERTED : ℕ
INSERTED = 1

abbrev pub ENABLED : ℕ
ENABLED = 2

abbrev pub REMOVAL_REQUESTED : ℕ
REMOVAL_REQUESTED = 3

abbrev pub REMOVAL_ALLOWED : ℕ
REMOVAL_ALLOWED = 4

-- A level is accepted at 10 ticks where it is of presence, and at 5 where it is of the removal request (document 02, request 5).
abbrev pub PRESENCE_TICKS : ℕ
PRESENCE_TICKS = 10

abbrev pub REMREQ_TICKS : ℕ
REMREQ_TICKS = 5

-- So of input i.
abbrev pub ticks_for : ℕ → ℕ
ticks_for i = cond (eqb i NREMREQ) REMREQ_TICKS PRESENCE_TICKS

-- ---- a bay in two halves, each changed without the other

-- What it senses: levels, accepted levels, counts and nSL.
abbrev pub with_inputs : List Bool → List Bool → List ℕ → Bool → Bay → Bay
with_inputs levels accepted counts nsl b =
    record {
      levels = levels;
      accepted = accepted;
      counts = counts;
      n_sl = nsl;
      state = b.state;
      remreq_sts = b.remreq_sts;
      devstschg = b.devstschg;
      control = b.control;
      pulse = b.pulse;
      wait = b.wait;
    }

-- How it stands: state, REMREQ_STS, DEVSTSCHG, BCER, pulse and wait.
abbrev pub with_status : ℕ → Bool → Bool → Control → ℕ → ℕ → Bay → Bay
with_status state req chg control pulse wait b =
    record {
      levels = b.levels;
      accepted = b.accepted;
      counts = b.counts;
      n_sl = b.n_sl;
      state = state;
      remreq_sts = req;
      devstschg = chg;
      control = control;
      pulse = pulse;
      wait = wait;
    }

-- ---- the bays that a closing and a RESET make

-- BCER with nothing set but LOCK_CTL.
abbrev pub locked_control : Bool → Control
locked_control lock =
    record {
      lock_ctl = lock;
      request = 0;
      remreq_en = false;
      devstschg_en = false;
      remevtwak_en = false;
      pwr_ctl = false;
    }

-- What stands in for a bay that a list doesn't have: the code's array always has two.
abbrev pub no_bay : Bay
no_bay =
    record {
      levels = [];
      accepted = [];
      counts = [];
      n_sl = false;
      state = 0;
      remreq_sts = false;
      devstschg = false;
      control = locked_control false;
      pulse = 0;
      wait = 0;
    }

-- A bay that has just been given these levels, accepted at once, with nothing stored.
abbrev from_levels : Bool → Bool → Bool → Bool → Bool → Bool → Bay
from_levels n1394 nusb nremreq nsl chg lock =
    with_status EMPTY false chg (locked_control lock) 0 0
    (with_inputs (n1394 ∷ nusb ∷ nremreq ∷ []) (n1394 ∷ nusb ∷ nremreq ∷ []) (0 ∷ 0 ∷ 0 ∷ []) nsl no_bay)

-- Levels 1, the rest 0.
unfoldable pub empty_bay : Bay
empty_bay = from_levels true true true true false false

-- RESET: Empty, stored and accepted levels as given (n1394, nUSB, nREMREQ, nSL), DEVSTSCHG set exactly where a device is present.
unfoldable pub reset_bay : ℕ → Bool → Bay
reset_bay levels lock = from_levels (bit 3 levels) (bit 2 levels) (bit 1 levels) (bit 0 levels) (any_asserted (bit 3 levels) (bit 2 levels)) lock

-- A bay's part of fitness. A debounce count is below the ticks that accept its level: 0-9 for presence, 0-4 for the removal request ..
abbrev pub count_fits : List ℕ → ℕ → Bool
count_fits counts i = ltb (get_or counts i 0) (ticks_for i)

-- A test of each input below n.
abbrev pub each_below : ℕ → (ℕ → Bool) → Bool
each_below zero test = true
each_below (suc n) test = each_below n test && test n

-- .. bay state 0-4, stored request 0-4; pulse and wait up to the longest of each that there are in this kind of controller (document 03,
-- "State").
unfoldable pub bay_fit : ℕ → ℕ → Bay → Bool
bay_fit most_pulse most_wait b =
    each_below INPUTS (count_fits b.counts) && leb b.state REMOVAL_ALLOWED && leb b.control.request REMOVAL_ALLOWED
    && leb b.pulse most_pulse
    && leb b.wait most_wait

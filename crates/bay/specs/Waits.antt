-- What a wait promises (document 02, request 6; document 03, "Bay moves"): a device that seats slowly is Inserted in the last of its ticks,
-- whatever else happens to the bay, unless the wait is broken off; in one kind of controller it is hidden until then.
use Rattle.std.specs.Prelude.{ℕ, suc, ◌+◌, ◌-◌, ◌<◌, ◌≡◌, Bool, true, false, not, cond, ◌&&◌, ◌||◌, List, [], ◌∷◌, eqb, ltb}
use Rattle.bits.specs.Bits.{bit}
use Rattle.bay.specs.Record.{N1394, NUSB, accepted_level, contact, shown, present}
use Rattle.bay.specs.Debounce.{differs}
use Rattle.bay.specs.Moves.{ticked_bay}
use Rattle.bay.specs.Registers.{asks}
use Rattle.bay.specs.Outputs.{green, yellow}
use Rattle.bay.specs.Table.{press_over, asks_nothing}
use Rattle.bay.specs.Happens.{Happens, tick, pins, bstr, bcer, unlock, happens, happens_all}
use Rattle.bay.specs.declared.Bay.{Bay}
use Rattle.bay.specs.declared.Setting.{Setting}

-- ---- all that becomes of it, in every bay

-- Contact is lost in a TICK, or is new.
abbrev pub lost : Bool → Setting → Bay → Bool
lost hides s b = contact b && not (contact (ticked_bay hides s b))

abbrev pub touched : Bool → Setting → Bay → Bool
touched hides s b = not (contact b) && contact (ticked_bay hides s b)

-- In a TICK, by the accepted levels before and after. A wait that hides the device: one above 0 is 0 without contact and else falls by
-- one; where there is none, it is the ticks given as contact is new. One that doesn't: 0 as contact is lost; with DEVSTSCHG_EN the ticks
-- given as contact is new, but where these are 0; else one less.
unfoldable pub wait_ticked : Bool → Setting → Bay → ℕ
wait_ticked true s b =
    cond (ltb 0 b.wait) (cond (contact (ticked_bay true s b)) (b.wait - 1) 0) (cond (touched true s b) s.wait_ticks 0)
wait_ticked false s b =
    cond (lost false s b) 0
    (cond (touched false s b && b.control.devstschg_en) (cond (eqb s.wait_ticks 0) b.wait s.wait_ticks) (b.wait - 1))

-- By a write of v to BCER one that hides the device is as it was. One that doesn't: 0 with DEVSTSCHG_EN, bit 2, written 0 or a state asked
-- for; the ticks given, but where these are 0, with DEVSTSCHG_EN from 0 to 1 in Empty over a device; else as it was.
unfoldable pub wait_written_by : Bool → ℕ → Setting → Bay → ℕ
wait_written_by true v s b = b.wait
wait_written_by false v s b =
    cond (not (bit 2 v) || not (asks_nothing false v b)) 0
    (cond (not b.control.devstschg_en && eqb b.state 0 && present false b && not (eqb s.wait_ticks 0)) s.wait_ticks b.wait)

-- ---- one that runs

-- What breaks it off: contact is lost; and, where it doesn't hide the device, DEVSTSCHG_EN is written 0 or a driver asks for a state. (So
-- do RESET and the closing of the bay, which make another bay of it.)
unfoldable pub breaks : Bool → Happens → Bay → Bool
breaks hides (tick s) b = lost hides s b
breaks hides (pins levels) b = false
breaks hides (bstr v) b = false
breaks hides (bcer c s) b = not hides && (not c.devstschg_en || asks c && present hides b)
breaks hides unlock b = false

unfoldable pub unbroken : Bool → List Happens → Bay → Bool
unbroken hides [] b = true
unbroken hides (x ∷ xs) b = not (breaks hides x b) && unbroken hides xs (happens hides x b)

-- How many TICKs there are.
abbrev pub one_tick : Happens → ℕ
one_tick (tick s) = 1
one_tick (pins levels) = 0
one_tick (bstr v) = 0
one_tick (bcer c s) = 0
one_tick unlock = 0

abbrev pub ticks_of : List Happens → ℕ
ticks_of [] = 0
ticks_of (x ∷ xs) = one_tick x + ticks_of xs

-- A bay in which a device seats for n ticks more: Empty, though there is contact. A device that is hidden is not present, and the green
-- lamp flashes for it with DEVSTSCHG_EN; one that isn't is present, DEVSTSCHG_EN is set, and the lamps are dark.
pub record Seating (hides : Bool) (n : ℕ) (b : Bay) : Type 0 where
  pub left : b.wait ≡ n
  pub empty : b.state ≡ 0
  pub touches : contact b ≡ true
  pub device : present hides b ≡ not hides
  pub enable : hides ≡ false → b.control.devstschg_en ≡ true
  pub lamps : (lit : Bool) → (green hides lit b ≡ (hides && b.control.devstschg_en && lit)) × (yellow lit b ≡ false)

-- A change of either presence bit, as BSTR shows them.
abbrev pub shown_changes : Bool → Bay → Bay → Bool
shown_changes hides before after =
    differs (shown hides before.wait (accepted_level before N1394)) (shown hides after.wait (accepted_level after N1394))
    || differs (shown hides before.wait (accepted_level before NUSB)) (shown hides after.wait (accepted_level after NUSB))

-- The TICK in which the device has seated: it is present then, and the bay is Inserted, where it was hidden with DEVSTSCHG_EN only. A
-- press in this TICK sets REMREQ_STS and moves nothing, and DEVSTSCHG is set by a change of a presence bit only, such as a hidden device
-- makes that now shows.
pub record Seated (hides : Bool) (before after : Bay) : Type 0 where
  pub device : present hides after ≡ true
  pub inserted : after.state ≡ cond (not hides || before.control.devstschg_en) 1 0
  pub over : after.wait ≡ 0
  pub pressed : after.remreq_sts ≡ (before.remreq_sts || press_over hides before after)
  pub told : after.devstschg ≡ (before.devstschg || shown_changes hides before after)
  pub unhidden : hides ≡ true → after.devstschg ≡ true

-- The state that something which breaks a wait off leaves: the one that is asked for, and else Empty.
abbrev pub asked_by : Happens → ℕ
asked_by (tick s) = 0
asked_by (pins levels) = 0
asked_by (bstr v) = 0
asked_by (bcer c s) = cond (asks c) c.request 0
asked_by unlock = 0

-- A hidden device that is gone again changes no register: neither BSTR, in its flags and its presence bits, nor BCER.
pub record Unseen (before after : Bay) : Type 0 where
  pub flags_kept : (after.remreq_sts ≡ before.remreq_sts) × (after.devstschg ≡ before.devstschg)
  pub control_kept : after.control ≡ before.control
  pub nothing_shows : (present true before ≡ false) × (present true after ≡ false)

pub record Broken (hides : Bool) (x : Happens) (before after : Bay) : Type 0 where
  pub over : after.wait ≡ 0
  pub unmoved : after.state ≡ asked_by x
  pub unseen : hides ≡ true → Unseen before after

-- The promise, of a wait of n ticks.
pub record Waits (hides : Bool) (n : ℕ) (b : Bay) : Type 0 where
  -- Until its last tick the device seats, whatever is sampled, pressed and written, and whatever ticks are given meanwhile.
  pub goes_on : (xs : List Happens) → unbroken hides xs b ≡ true → ticks_of xs < n → Seating hides (n - ticks_of xs) (happens_all hides xs b)
  -- In its last tick it has seated, unless contact is lost.
  pub ends :
      (xs : List Happens) (s : Setting) → unbroken hides xs b ≡ true → suc (ticks_of xs) ≡ n → lost hides s (happens_all hides xs b) ≡ false
      → Seated hides (happens_all hides xs b) (ticked_bay hides s (happens_all hides xs b))
  -- In any of them it can be broken off.
  pub broken :
      (xs : List Happens) (x : Happens) → unbroken hides xs b ≡ true → ticks_of xs < n → breaks hides x (happens_all hides xs b) ≡ true
      → Broken hides x (happens_all hides xs b) (happens hides x (happens_all hides xs b))

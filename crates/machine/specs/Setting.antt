-- What the kind in force, the straps and the shared registers make of the rules of a bay (document 01, "Registers" and "Bay moves"; document 03,
-- "Bay moves" and "Outputs").
use Rattle.std.specs.Prelude.{ℕ, ◌%◌, Bool, true, false, not, cond, ◌||◌, [], ◌∷◌, ltb, get_or}
use Rattle.bits.specs.Straps.{lock_mode}
use Rattle.bay.specs.declared.Setting.{Setting}
use Rattle.kind.specs.Kind.{is_second}
use Rattle.kind.specs.declared.Kind.{Kind}
use Rattle.kind.specs.declared.Kind.TheVariants.{First, Second}
use Rattle.second.specs.Sfr.{wait_ticks_of, pulsed, pulse_ticks_of as sfr_pulse_ticks}
use Rattle.machine.specs.declared.Machine.{Machine}

-- In the first kind a wait doesn't hide the device: present stays contact (document 02, request 6). In the second it does (l.597, 723).
unfoldable pub hides : Machine → Bool
hides m = is_second m.kind

-- BSTR's bit 7: in the first kind the security lock always shows, in the second exactly if SECLOCK is 1 (l.541).
unfoldable pub secured : Machine → Bool
secured m = not (is_second m.kind) || m.shared.seclock

-- A flashing lamp is lit while the phase is below 100; in the second kind while the phase modulo 100 is below 50, which is 1 Hz (l.749).
unfoldable pub is_lit : Kind → ℕ → Bool
is_lit First p = ltb p 100
is_lit Second p = ltb (p % 100) 50

-- LETR's bits 1-0 choose 12, 50, 100, 200 ticks in that order.
unfoldable pub pulse_ticks_of : ℕ → ℕ
pulse_ticks_of t = get_or (12 ∷ 50 ∷ 100 ∷ []) t 200

-- The first kind, by LOCK_MODE, LETR and 42h: in LOCK_MODE 1 the lock is pulsed, low for LETR's ticks, and a device seats for those of 42h.
unfoldable pub first_setting : Machine → Setting
first_setting m =
    record {
      pulsed = lock_mode m.straps;
      pulse_high = false;
      pulse_ticks = pulse_ticks_of m.shared.lock_time;
      wait_ticks = m.shared.wait_time % 256;
    }

-- The second kind, by SFR: with SOL above 0 the lock is pulsed, high for its ticks, and a device seats for those of ITO.
unfoldable pub second_setting : Machine → Setting
second_setting m =
    record {
      pulsed = pulsed m.second;
      pulse_high = true;
      pulse_ticks = sfr_pulse_ticks m.second;
      wait_ticks = wait_ticks_of m.second;
    }

unfoldable pub setting_of : Machine → Setting
setting_of m = cond (is_second m.kind) (second_setting m) (first_setting m)

-- What is true of every machine that acts reach from a fresh one, and not of every fit one.
use Rattle.std.specs.Prelude.{ℕ, ◌≡◌, true, false}
use Rattle.bay.specs.Record.{empty_bay}
use Rattle.bay.specs.Sound.{Sound as BaySound}
use Rattle.machine.specs.Record.{fits, bay_at, is_open, fresh_machine}
use Rattle.machine.specs.Setting.{hides, setting_of}
use Rattle.machine.specs.Acts.{name_to}
use Rattle.machine.specs.declared.Machine.{Machine}

pub record Sound (m : Machine) : Type 0 where
  pub fit : fits m ≡ true
  -- Each bay is powered only over a locked device, holds a device unless Empty, and so on.
  pub bays : (i : ℕ) → BaySound (hides m) (bay_at m i)
  -- A closed bay's record is empty.
  pub closed : is_open m 1 ≡ false → bay_at m 1 ≡ empty_bay
  -- Where the lock isn't pulsed no pulse runs.
  pub pulses : (setting_of m).pulsed ≡ false → (i : ℕ) → (bay_at m i).pulse ≡ 0
  -- Before the first RESET nothing has happened but that a kind was named.
  pub untouched : m.started ≡ false → m ≡ name_to m.named fresh_machine

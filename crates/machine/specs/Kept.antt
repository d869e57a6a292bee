-- What it takes for a property to be true of every machine that acts reach: a RESET of any fit machine makes it true, each act on a
-- started machine keeps it, and so does a name on any.
use Rattle.std.specs.Prelude.{ℕ, ◌≤◌, ◌≡◌, Bool, true}
use Rattle.bits.specs.Straps.{MOST_STRAPS}
use Rattle.kind.specs.declared.Kind.{Kind}
use Rattle.machine.specs.Record.{fits}
use Rattle.machine.specs.InForce.{written}
use Rattle.machine.specs.Acts.{reset_to, name_to, pins_to, tick_to}
use Rattle.machine.specs.declared.Machine.{Machine}

pub record Kept (P : Machine → Type 0) : Type 0 where
  pub by_reset : (straps levels : ℕ) (short : Bool) (m : Machine) → straps ≤ MOST_STRAPS → fits m ≡ true → P (reset_to straps levels short m)
  pub by_write : (a v : ℕ) (m : Machine) → m.started ≡ true → P m → P (written a v m)
  pub by_pins : (levels : ℕ) (m : Machine) → m.started ≡ true → P m → P (pins_to levels m)
  pub by_tick : (m : Machine) → m.started ≡ true → P m → P (tick_to m)
  pub by_name : (k : Kind) (m : Machine) → P m → P (name_to k m)

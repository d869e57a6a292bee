-- What the code's types can hold: a list stands for each array of a record, and has as many elements; a byte is below 256.
use Rattle.std.specs.Prelude.{ℕ, ◌<◌, ◌≡◌, List, length, get_or}
use Rattle.second.specs.declared.Second.{Second}
use Rattle.bay.specs.declared.Bay.{Bay}
use Rattle.machine.specs.Record.{bay_at}
use Rattle.machine.specs.declared.Machine.{Machine}

-- Three levels, three accepted levels, three counts.
pub record ShapedBay (b : Bay) : Type 0 where
  pub levels : length b.levels ≡ 3
  pub accepted : length b.accepted ≡ 3
  pub counts : length b.counts ≡ 3

-- Four bytes of the subsystem words, two form factors, and whether each is written.
pub record ShapedSecond (r : Second) : Type 0 where
  pub subsystem : length r.subsystem ≡ 4
  pub subsystem_written : length r.subsystem_written ≡ 4
  pub form_factors : length r.form_factors ≡ 2
  pub form_factors_written : length r.form_factors_written ≡ 2

-- Two bays.
pub record Shaped (m : Machine) : Type 0 where
  pub two : length m.bays ≡ 2
  pub bays : (i : ℕ) → ShapedBay (bay_at m i)
  pub second : ShapedSecond m.second

-- Bytes.
abbrev pub Octets : List ℕ → Type 0
Octets bytes = (i : ℕ) → get_or bytes i 0 < 256

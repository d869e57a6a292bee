-- A property that a RESET makes true and each act on a started machine keeps is true after every act: by cases on the act.
-- Assumes nothing.
use Prim.Native.Nat.{◌≤◌}
use mathlib.Core.Path.{◌≡◌, refl, ◌∙◌}
use mathlib.Core.Bool.{true}
use Rattle.bits.specs.Straps.{MOST_STRAPS}
use Rattle.machine.specs.Acts.{pins_to, tick_to, does, name_to, reset_as}
use Rattle.machine.specs.Record.{fits}
use Rattle.machine.specs.Kept.{Kept}
use Rattle.machine.specs.declared.Machine.{Machine}
use Rattle.machine.specs.declared.Act.{Act}
use Rattle.machine.specs.declared.Act.TheVariants.{Write, Read, Pins, Tick, Reset, Name}
use Rattle.machine.proofs.Addresses.{write_steady}

-- The straps of a RESET are 0-15.
unfoldable pub Proper : Act → Type 0
Proper (Write a v) = Unit {0}
Proper (Read a) = Unit {0}
Proper (Pins levels) = Unit {0}
Proper Tick = Unit {0}
Proper (Reset straps levels short) = straps ≤ MOST_STRAPS
Proper (Name k) = Unit {0}

pub act_keeps : (P : Machine → Type 0) → Kept P → (a : Act) → Proper a → (m : Machine) → fits m ≡ true → m.started ≡ true → P m → P (does a m)
unfolding does Proper
act_keeps P kept (Write a v) l m f t h = kept.by_write a v m t h
act_keeps P kept (Read a) l m f t h = h
act_keeps P kept (Pins levels) l m f t h = kept.by_pins levels m t h
act_keeps P kept Tick l m f t h = kept.by_tick m t h
act_keeps P kept (Reset straps levels short) l m f t h = kept.by_reset straps levels short m l f
act_keeps P kept (Name k) l m f t h = kept.by_name k m h

-- A started machine stays started.
pub started_kept : Kept (λ m. m.started ≡ true)
unfolding reset_as name_to pins_to tick_to
started_kept =
    record {
      by_reset = λ straps levels short m l f. refl;
      by_write = λ a v m t h. (write_steady a v m).started ∙ h;
      by_pins = λ levels m t h. h;
      by_tick = λ m t h. h;
      by_name = λ k m h. h;
    }

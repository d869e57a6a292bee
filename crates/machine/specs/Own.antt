-- What acts are to the registers that only the second kind has (document 03, "Registers" and "State"), in the words of their own promise
-- (second/specs/First.antt): of any writes to a byte the first stands, until a RESET frees it.
use Rattle.std.specs.Prelude.{ℕ, cond, List, [], ◌∷◌}
use Rattle.kind.specs.Kind.{is_second}
use Rattle.second.specs.Record.{reset}
use Rattle.second.specs.First.{Write as Once, subsystem, form_factor, sfr, written_all}
use Rattle.second.specs.declared.Second.{Second}
use Rattle.machine.specs.Record.{is_open}
use Rattle.machine.specs.Registers.{Row, at, find}
use Rattle.machine.specs.declared.Machine.{Machine}
use Rattle.machine.specs.declared.Act.{Act}
use Rattle.machine.specs.declared.Act.TheVariants.{Write, Read, Pins, Tick, Reset, Name}

-- A write of 08h-0Bh, 15h, 21h while bay 1 is open, or FCh is one ..
unfoldable pub own_rows : Machine → ℕ → List (Row (List Once))
own_rows m v =
    at 0x08 (subsystem 0 v ∷ [])
    ∷ at 0x09 (subsystem 1 v ∷ [])
    ∷ at 0x0A (subsystem 2 v ∷ [])
    ∷ at 0x0B (subsystem 3 v ∷ [])
    ∷ at 0x15 (form_factor 0 v ∷ [])
    ∷ at 0x21 (cond (is_open m 1) (form_factor 1 v ∷ []) [])
    ∷ at 0xFC (sfr v ∷ [])
    ∷ []

-- .. in the second kind; no other is.
unfoldable pub own_writes : Machine → ℕ → ℕ → List Once
own_writes m a v = cond (is_second m.kind) (find a (own_rows m v) []) []

-- A RESET of either kind frees some of them; nothing else alters them.
unfoldable pub own_after : Machine → Act → Second
own_after m (Write a v) = written_all (own_writes m a v) m.second
own_after m (Read a) = m.second
own_after m (Pins levels) = m.second
own_after m Tick = m.second
own_after m (Reset straps levels short) = reset m.second
own_after m (Name k) = m.second

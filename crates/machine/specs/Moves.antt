-- What moves a bay of a machine (document 01, "Bay moves" and "Registers").
use Rattle.std.specs.Prelude.{ℕ, Bool, true, false, ◌&&◌, ◌||◌, eqb}
use Rattle.machine.specs.Record.{is_open}
use Rattle.machine.specs.After.{bcer_own, closes}
use Rattle.machine.specs.declared.Machine.{Machine}
use Rattle.machine.specs.declared.Act.{Act}
use Rattle.machine.specs.declared.Act.TheVariants.{Write, Read, Pins, Tick, Reset, Name}

-- A TICK and a write of its BCER while it is open, a RESET, and for bay 1 the write that closes it: nothing else.
abbrev pub moves_bay : Machine → ℕ → Act → Bool
moves_bay m i (Write a v) = eqb a (bcer_own m i) && is_open m i || closes m i a v
moves_bay m i (Read a) = false
moves_bay m i (Pins levels) = false
moves_bay m i Tick = is_open m i
moves_bay m i (Reset straps levels short) = true
moves_bay m i (Name k) = false

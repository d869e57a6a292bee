-- What becomes of a bay's REMREQ_STS at each act (document 01, "Registers" and "Bay moves"; document 02, request 1).
use Rattle.std.specs.Prelude.{ℕ, Bool, false, not, ◌&&◌, ◌||◌, eqb}
use Rattle.bits.specs.Bits.{bit}
use Rattle.bay.specs.Table.{press_over}
use Rattle.machine.specs.Record.{bay_at, is_open}
use Rattle.machine.specs.Setting.{hides}
use Rattle.machine.specs.Acts.{does}
use Rattle.machine.specs.After.{bstr_own, closes}
use Rattle.machine.specs.declared.Machine.{Machine}
use Rattle.machine.specs.declared.Act.{Act}
use Rattle.machine.specs.declared.Act.TheVariants.{Write, Read, Pins, Tick, Reset, Name}

abbrev pub remreq : Machine → ℕ → Bool
remreq m i = (bay_at m i).remreq_sts

-- A write clears it by a 1 in bit 3 of an open bay's BSTR, or by closing the bay.
abbrev pub clears : Machine → ℕ → ℕ → ℕ → Bool
clears m i a v = eqb a (bstr_own m i) && is_open m i && bit 3 v || closes m i a v

-- A TICK sets it by a press over a device that is present at its end; RESET clears it; nothing else alters it.
unfoldable pub remreq_after : Machine → ℕ → Act → Bool
remreq_after m i (Write a v) = remreq m i && not (clears m i a v)
remreq_after m i (Read a) = remreq m i
remreq_after m i (Pins levels) = remreq m i
remreq_after m i Tick = remreq m i || press_over (hides m) (bay_at m i) (bay_at (does Tick m) i)
remreq_after m i (Reset straps levels short) = false
remreq_after m i (Name k) = remreq m i

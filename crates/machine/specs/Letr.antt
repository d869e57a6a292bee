-- What becomes of LETR at each act (document 01, "Registers"; document 02, request 4; document 03, "State").
use Rattle.std.specs.Prelude.{ℕ, ◌%◌, not, cond, ◌&&◌}
use Rattle.kind.specs.Kind.{is_second}
use Rattle.machine.specs.After.{first_kinds}
use Rattle.machine.specs.declared.Machine.{Machine}
use Rattle.machine.specs.declared.Act.{Act}
use Rattle.machine.specs.declared.Act.TheVariants.{Write, Read, Pins, Tick, Reset, Name}

abbrev pub letr : Machine → ℕ
letr m = m.shared.lock_time

-- In the first kind a write of 40h stores bits 1-0. RESET makes it 1, or 0 if the short pulse is asked for, and 0 if it is into the second
-- kind; nothing else alters it.
unfoldable pub letr_after : Machine → Act → ℕ
letr_after m (Write a v) = cond (first_kinds m 0x40 a) (v % 4) (letr m)
letr_after m (Read a) = letr m
letr_after m (Pins levels) = letr m
letr_after m Tick = letr m
letr_after m (Reset straps levels short) = cond (not (is_second m.named) && not short) 1 0
letr_after m (Name k) = letr m

-- All that becomes of a bay at each act (document 01, "Registers" and "Bay moves"), and of the registers that the bays share at a write:
-- what an act does to one field follows from this and from the bay's own rules.
use Rattle.std.specs.Prelude.{ℕ, ◌/◌, ◌%◌, Bool, not, cond, ◌&&◌, eqb}
use Rattle.bay.specs.declared.Bay.{Bay}
use Rattle.bay.specs.Record.{empty_bay, reset_bay}
use Rattle.bay.specs.Debounce.{sampled_bay}
use Rattle.bay.specs.Moves.{ticked_bay}
use Rattle.bay.specs.Registers.{bstr_written, control_of, controlled_bay, unlocked_bay}
use Rattle.kind.specs.Kind.{is_second}
use Rattle.kind.specs.declared.Kind.{Kind}
use Rattle.kind.specs.declared.Kind.TheVariants.{First, Second}
use Rattle.machine.specs.Record.{bay_at, is_open}
use Rattle.machine.specs.Setting.{hides, setting_of}
use Rattle.machine.specs.Registers.{count_written, dbccr_to}
use Rattle.machine.specs.FirstKind.{letr_to, wait_to}
use Rattle.machine.specs.Acts.{lock_after_reset}
use Rattle.machine.specs.declared.Machine.{Machine}
use Rattle.machine.specs.declared.Shared.{Shared}
use Rattle.machine.specs.declared.Act.{Act}
use Rattle.machine.specs.declared.Act.TheVariants.{Write, Read, Pins, Tick, Reset, Name}

-- BSTR and BCER of bay 0, or else of bay 1, where this kind has them.
unfoldable pub bstr_address : Kind → ℕ → ℕ
bstr_address First i = cond (eqb i 0) 0x10 0x18
bstr_address Second i = cond (eqb i 0) 0x14 0x20

unfoldable pub bcer_address : Kind → ℕ → ℕ
bcer_address First i = cond (eqb i 0) 0x14 0x1C
bcer_address Second i = cond (eqb i 0) 0x10 0x18

-- So in the kind in force.
abbrev pub bstr_own : Machine → ℕ → ℕ
bstr_own m i = bstr_address m.kind i

abbrev pub bcer_own : Machine → ℕ → ℕ
bcer_own m i = bcer_address m.kind i

-- The first write of DBCCR with count 1 closes bay 1.
abbrev pub closes : Machine → ℕ → ℕ → ℕ → Bool
closes m i a v = eqb a 0x0C && eqb (count_written m.kind v) 1 && not m.shared.dbccr_written && not (eqb i 0)

-- The first write of SFR opens both locks, in the second kind.
abbrev pub unlocks : Machine → ℕ → Bool
unlocks m a = is_second m.kind && eqb a 0xFC && not m.second.sfr_written

-- The four levels of bay 0, or else of bay 1.
abbrev pub own_levels : ℕ → ℕ → ℕ
own_levels i levels = cond (eqb i 0) (levels / 16) (levels % 16)

-- A write of its BCER or its BSTR while it is open, the one that closes it and the one that opens its lock. No other touches it, be it of
-- LETR, of 42h or of a byte that only the second kind has.
unfoldable pub bay_written : Machine → ℕ → ℕ → ℕ → Bay
bay_written m i a v =
    cond (eqb a (bcer_own m i) && is_open m i) (controlled_bay (hides m) (control_of v) (setting_of m) (bay_at m i))
    (cond (eqb a (bstr_own m i) && is_open m i) (bstr_written v (bay_at m i))
    (cond (closes m i a v) empty_bay (cond (unlocks m a) (unlocked_bay (bay_at m i)) (bay_at m i))))

-- PINS and TICK while it is open, and RESET.
unfoldable pub bay_after : Machine → ℕ → Act → Bay
bay_after m i (Write a v) = bay_written m i a v
bay_after m i (Read a) = bay_at m i
bay_after m i (Pins levels) = cond (is_open m i) (sampled_bay (own_levels i levels) (bay_at m i)) (bay_at m i)
bay_after m i Tick = cond (is_open m i) (ticked_bay (hides m) (setting_of m) (bay_at m i)) (bay_at m i)
bay_after m i (Reset straps levels short) = reset_bay (own_levels i levels) (lock_after_reset m.named straps)
bay_after m i (Name k) = bay_at m i

-- A write of a register that only the first kind has.
abbrev pub first_kinds : Machine → ℕ → ℕ → Bool
first_kinds m x a = not (is_second m.kind) && eqb a x

-- The shared registers: DBCCR by its first write, and in the first kind LETR and 42h by any.
unfoldable pub shared_written : Machine → ℕ → ℕ → Shared
shared_written m a v =
    cond (eqb a 0x0C && not m.shared.dbccr_written) (dbccr_to m.kind v m.shared)
    (cond (first_kinds m 0x40 a) (letr_to v m.shared) (cond (first_kinds m 0x42 a) (wait_to v m.shared) m.shared))

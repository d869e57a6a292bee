-- The first kind's register map (document 01, "Registers"; document 001, Table 5; document 02, request 6).
use Rattle.std.specs.Prelude.{ℕ, ◌%◌, List, [], ◌∷◌}
use Rattle.machine.specs.Record.{become}
use Rattle.machine.specs.Registers.{Row, at, find, dbccr_of, bstr_at, bcer_at, dbccr_write, bstr_write, bcer_write}
use Rattle.machine.specs.declared.Machine.{Machine}
use Rattle.machine.specs.declared.Shared.{Shared}

-- What reads where.
unfoldable pub first_registers : Machine → List (Row ℕ)
first_registers m =
    at 0x00 0x55
    ∷ at 0x01 0x10
    ∷ at 0x04 0x01
    ∷ at 0x0C (dbccr_of m.shared)
    ∷ at 0x10 (bstr_at m 0)
    ∷ at 0x14 (bcer_at m 0)
    ∷ at 0x18 (bstr_at m 1)
    ∷ at 0x1C (bcer_at m 1)
    ∷ at 0x40 (m.shared.lock_time % 4)
    ∷ at 0x42 (m.shared.wait_time % 256)
    ∷ []

-- Every other address reads 0.
unfoldable pub first_register : Machine → ℕ → ℕ
first_register m a = find a (first_registers m) 0

-- LETR: bits 1-0.
abbrev pub letr_to : ℕ → Shared → Shared
letr_to v r =
    record { dbccr_written = r.dbccr_written; seclock = r.seclock; bay_count = r.bay_count; lock_time = v % 4; wait_time = r.wait_time }

unfoldable pub letr_write : ℕ → Machine → Machine
letr_write v m = become (letr_to v m.shared) m.phase m.bays m

-- 42h: all eight bits, the ticks for which a device seats.
abbrev pub wait_to : ℕ → Shared → Shared
wait_to v r =
    record { dbccr_written = r.dbccr_written; seclock = r.seclock; bay_count = r.bay_count; lock_time = r.lock_time; wait_time = v }

unfoldable pub wait_write : ℕ → Machine → Machine
wait_write v m = become (wait_to v m.shared) m.phase m.bays m

-- What a write does, by address.
unfoldable pub first_writes : ℕ → Machine → List (Row Machine)
first_writes v m =
    at 0x0C (dbccr_write v m)
    ∷ at 0x10 (bstr_write 0 v m)
    ∷ at 0x14 (bcer_write 0 v m)
    ∷ at 0x18 (bstr_write 1 v m)
    ∷ at 0x1C (bcer_write 1 v m)
    ∷ at 0x40 (letr_write v m)
    ∷ at 0x42 (wait_write v m)
    ∷ []

-- At every other address it is without effect.
unfoldable pub first_written : ℕ → ℕ → Machine → Machine
first_written a v m = find a (first_writes v m) m

-- The second kind's register map (document 03, "Registers"; document 000): registers of four bytes, or two, lowest byte at the lowest
-- address, read and written by single bytes.
use Rattle.std.specs.Prelude.{ℕ, ◌%◌, cond, List, [], ◌∷◌, eqb}
use Rattle.bay.specs.declared.Bay.{Bay}
use Rattle.bay.specs.Registers.{unlocked_bay}
use Rattle.second.specs.Record.{byte}
use Rattle.second.specs.Once.{after_subsystem_write, form_factor_written, after_sfr_write}
use Rattle.second.specs.declared.Second.{Second}
use Rattle.machine.specs.Record.{bay_at, is_open}
use Rattle.machine.specs.Registers.{Row, at, find, dbccr_of, bstr_at, bcer_at, dbccr_write, bstr_write, bcer_write}
use Rattle.machine.specs.declared.Machine.{Machine}

-- BSTR of bay 1 is at 20h, the only number that document 000 prints for it (O1); BAY_FF is in the byte after BSTR.
abbrev pub BSTR_1 : ℕ
BSTR_1 = 0x20

abbrev pub FORM_FACTOR_1 : ℕ
FORM_FACTOR_1 = 0x21

-- The subsystem words, byte by byte, and BAY_FF of a bay, bits 2-0; that of a closed one reads 0.
unfoldable pub subsystem_at : Machine → ℕ → ℕ
subsystem_at m k = byte m.second.subsystem k % 256

unfoldable pub form_factor_at : Machine → ℕ → ℕ
form_factor_at m i = cond (is_open m i) (byte m.second.form_factors (cond (eqb i 0) 0 1) % 8) 0

-- What reads where.
unfoldable pub second_registers : Machine → List (Row ℕ)
second_registers m =
    at 0x00 0x60
    ∷ at 0x01 0x12
    ∷ at 0x04 0x01
    ∷ at 0x08 (subsystem_at m 0)
    ∷ at 0x09 (subsystem_at m 1)
    ∷ at 0x0A (subsystem_at m 2)
    ∷ at 0x0B (subsystem_at m 3)
    ∷ at 0x0C (dbccr_of m.shared)
    ∷ at 0x10 (bcer_at m 0)
    ∷ at 0x14 (bstr_at m 0)
    ∷ at 0x15 (form_factor_at m 0)
    ∷ at 0x18 (bcer_at m 1)
    ∷ at BSTR_1 (bstr_at m 1)
    ∷ at FORM_FACTOR_1 (form_factor_at m 1)
    ∷ at 0xFC (m.second.sfr % 256)
    ∷ []

-- An address or bit not named reads 0.
unfoldable pub second_register : Machine → ℕ → ℕ
second_register m a = find a (second_registers m) 0

-- The same machine with these registers of the second kind's own, and these bays.
abbrev pub with_second : Second → List Bay → Machine → Machine
with_second second bays m =
    record {
      started = m.started;
      straps = m.straps;
      kind = m.kind;
      named = m.named;
      shared = m.shared;
      second = second;
      phase = m.phase;
      bays = bays;
    }

-- 08h-0Bh: each byte once after each RESET.
unfoldable pub subsystem_write : ℕ → ℕ → Machine → Machine
subsystem_write k v m = with_second (after_subsystem_write k v m.second) m.bays m

-- 15h and 21h: once in the controller's life. That of a closed bay takes no write, which doesn't count as one.
unfoldable pub form_factor_write : ℕ → ℕ → Machine → Machine
form_factor_write i v m = cond (is_open m i) (with_second (form_factor_written i v m.second) m.bays m) m

-- FCh: once after each RESET. The first write also makes LOCK_CTL, PWR_CTL and the pulse of both bays 0, and starts no pulse (l.645, O6).
unfoldable pub sfr_write : ℕ → Machine → Machine
sfr_write v m =
    cond m.second.sfr_written m
    (with_second (after_sfr_write v m.second) (unlocked_bay (bay_at m 0) ∷ unlocked_bay (bay_at m 1) ∷ []) m)

-- What a write does, by address.
unfoldable pub second_writes : ℕ → Machine → List (Row Machine)
second_writes v m =
    at 0x08 (subsystem_write 0 v m)
    ∷ at 0x09 (subsystem_write 1 v m)
    ∷ at 0x0A (subsystem_write 2 v m)
    ∷ at 0x0B (subsystem_write 3 v m)
    ∷ at 0x0C (dbccr_write v m)
    ∷ at 0x10 (bcer_write 0 v m)
    ∷ at 0x14 (bstr_write 0 v m)
    ∷ at 0x15 (form_factor_write 0 v m)
    ∷ at 0x18 (bcer_write 1 v m)
    ∷ at BSTR_1 (bstr_write 1 v m)
    ∷ at FORM_FACTOR_1 (form_factor_write 1 v m)
    ∷ at 0xFC (sfr_write v m)
    ∷ []

-- An address not named takes no write.
unfoldable pub second_written : ℕ → ℕ → Machine → Machine
second_written a v m = find a (second_writes v m) m

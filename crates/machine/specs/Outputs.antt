-- The nine outputs (document 01, "Replies and refusal numbers" and "Bay moves").
use Rattle.std.specs.Prelude.{ℕ, ◌+◌, ◌*◌, Bool, cond, ◌&&◌, ◌||◌}
use Rattle.bits.specs.Bits.{put}
use Rattle.bay.specs.Outputs.{bay_outputs, interrupts}
use Rattle.machine.specs.Record.{bay_at, is_open}
use Rattle.machine.specs.Setting.{hides, is_lit, setting_of}
use Rattle.machine.specs.declared.Machine.{Machine}

-- A bay's outputs. A closed bay's are 0.
unfoldable pub nibble : Machine → ℕ → ℕ
nibble m i = cond (is_open m i) (bay_outputs (hides m) (setting_of m) (is_lit m.kind m.phase) (bay_at m i)) 0

-- The interrupt condition holds in an open bay.
unfoldable pub wants : Machine → ℕ → Bool
wants m i = is_open m i && interrupts (bay_at m i)

-- Bit 8 to 0: power 0, lock pin 0, green 0, yellow 0, the same for bay 1, interrupt asserted. A state not started has outputs 000.
unfoldable pub outputs : Machine → ℕ
outputs m = cond m.started (nibble m 0 * 32 + nibble m 1 * 2 + put 0 (wants m 0 || wants m 1)) 0

-- What becomes of 42h and of a bay's wait at each act (document 02, request 6).
use Rattle.std.specs.Prelude.{ℕ, cond, ◌&&◌, eqb}
use Rattle.bay.specs.Waits.{wait_ticked, wait_written_by}
use Rattle.machine.specs.Record.{bay_at, is_open}
use Rattle.machine.specs.Setting.{hides, setting_of}
use Rattle.machine.specs.After.{bcer_own, closes, first_kinds}
use Rattle.machine.specs.declared.Machine.{Machine}
use Rattle.machine.specs.declared.Act.{Act}
use Rattle.machine.specs.declared.Act.TheVariants.{Write, Read, Pins, Tick, Reset, Name}

abbrev pub wait_time : Machine → ℕ
wait_time m = m.shared.wait_time

-- In the first kind a write of 42h stores the byte. RESET makes it 0; nothing else alters it.
unfoldable pub wait_time_after : Machine → Act → ℕ
wait_time_after m (Write a v) = cond (first_kinds m 0x42 a) v (wait_time m)
wait_time_after m (Read a) = wait_time m
wait_time_after m (Pins levels) = wait_time m
wait_time_after m Tick = wait_time m
wait_time_after m (Reset straps levels short) = 0
wait_time_after m (Name k) = wait_time m

abbrev pub wait_of : Machine → ℕ → ℕ
wait_of m i = (bay_at m i).wait

-- A TICK and a write of its BCER alter it while the bay is open; the write that closes the bay makes it 0, and so does RESET. Nothing else
-- alters it: no new value of 42h, no write of BSTR or SFR, no sample, no name.
unfoldable pub wait_after : Machine → ℕ → Act → ℕ
wait_after m i (Write a v) =
    cond (eqb a (bcer_own m i) && is_open m i) (wait_written_by (hides m) v (setting_of m) (bay_at m i)) (cond (closes m i a v) 0 (wait_of m i))
wait_after m i (Read a) = wait_of m i
wait_after m i (Pins levels) = wait_of m i
wait_after m i Tick = cond (is_open m i) (wait_ticked (hides m) (setting_of m) (bay_at m i)) (wait_of m i)
wait_after m i (Reset straps levels short) = 0
wait_after m i (Name k) = wait_of m i

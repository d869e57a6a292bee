-- The layout as a table: a place, and what stands there in the image of a state. The header for C has the same places.
use Rattle.std.specs.Prelude.{ℕ, ◌+◌, ◌/◌, ◌%◌, List, [], ◌∷◌, ◌++◌}
use Rattle.kind.specs.Kind.{is_second}
use Rattle.second.specs.Record.{byte, flag}
use Rattle.bay.specs.Record.{N1394, NUSB, NREMREQ, level, accepted_level, count}
use Rattle.bay.specs.declared.Bay.{Bay}
use Rattle.machine.specs.Record.{bay0, bay1}
use Rattle.machine.specs.declared.Machine.{Machine}
use Rattle.image.specs.Save.{flag_byte}

-- A bay, its flags from one place on and its numbers from another.
abbrev pub bay_places : Bay → ℕ → ℕ → List (ℕ × ℕ)
bay_places b flags numbers =
    (flags + 0, flag_byte (level b N1394))
    ∷ (flags + 1, flag_byte (level b NUSB))
    ∷ (flags + 2, flag_byte (level b NREMREQ))
    ∷ (flags + 3, flag_byte (accepted_level b N1394))
    ∷ (flags + 4, flag_byte (accepted_level b NUSB))
    ∷ (flags + 5, flag_byte (accepted_level b NREMREQ))
    ∷ (flags + 6, flag_byte b.n_sl)
    ∷ (flags + 7, flag_byte b.remreq_sts)
    ∷ (flags + 8, flag_byte b.devstschg)
    ∷ (flags + 9, flag_byte b.control.lock_ctl)
    ∷ (flags + 10, flag_byte b.control.remreq_en)
    ∷ (flags + 11, flag_byte b.control.devstschg_en)
    ∷ (flags + 12, flag_byte b.control.remevtwak_en)
    ∷ (flags + 13, flag_byte b.control.pwr_ctl)
    ∷ (numbers + 0, count b N1394)
    ∷ (numbers + 1, count b NUSB)
    ∷ (numbers + 2, count b NREMREQ)
    ∷ (numbers + 3, b.state)
    ∷ (numbers + 4, b.control.request)
    ∷ (numbers + 5, b.pulse / 256)
    ∷ (numbers + 6, b.pulse % 256)
    ∷ (numbers + 7, b.wait / 256)
    ∷ (numbers + 8, b.wait % 256)
    ∷ []

abbrev pub places_of : Machine → List (ℕ × ℕ)
places_of m =
    ((0, 4)
    ∷ (1, flag_byte m.started)
    ∷ (2, flag_byte (is_second m.kind))
    ∷ (3, flag_byte (is_second m.named))
    ∷ (4, flag_byte m.shared.dbccr_written)
    ∷ (5, flag_byte m.shared.seclock)
    ∷ (6, flag_byte (flag m.second.subsystem_written 0))
    ∷ (7, flag_byte (flag m.second.subsystem_written 1))
    ∷ (8, flag_byte (flag m.second.subsystem_written 2))
    ∷ (9, flag_byte (flag m.second.subsystem_written 3))
    ∷ (10, flag_byte (flag m.second.form_factors_written 0))
    ∷ (11, flag_byte (flag m.second.form_factors_written 1))
    ∷ (12, flag_byte m.second.sfr_written)
    ∷ (41, m.straps)
    ∷ (42, m.shared.bay_count)
    ∷ (43, m.shared.lock_time)
    ∷ (44, m.shared.wait_time)
    ∷ (45, m.phase)
    ∷ (46, byte m.second.subsystem 0)
    ∷ (47, byte m.second.subsystem 1)
    ∷ (48, byte m.second.subsystem 2)
    ∷ (49, byte m.second.subsystem 3)
    ∷ (50, byte m.second.form_factors 0)
    ∷ (51, byte m.second.form_factors 1)
    ∷ (52, m.second.sfr)
    ∷ [])
    ++ (bay_places (bay0 m.bays) 13 53 ++ bay_places (bay1 m.bays) 27 62)

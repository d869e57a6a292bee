-- The bytes of a state: every field of its record, in the layout's order.
use Rattle.std.specs.Prelude.{ℕ, Bool, cond, List, [], ◌∷◌, ◌++◌, map}
use Rattle.pairs.specs.Pairs.{two_bytes}
use Rattle.bus.specs.declared.Progress.{Progress}
use Rattle.bus.specs.declared.Progress.TheVariants.{Idle, Opened, Addressed, Register, Data, Again, Reading, Writing, Sending}
use Rattle.kind.specs.Kind.{is_second}
use Rattle.second.specs.Record.{byte, flag}
use Rattle.second.specs.declared.Second.{Second}
use Rattle.bay.specs.Record.{N1394, NUSB, NREMREQ, level, accepted_level, count}
use Rattle.bay.specs.declared.Bay.{Bay}
use Rattle.machine.specs.Record.{bay0, bay1}
use Rattle.machine.specs.declared.Machine.{Machine}
use Rattle.dock.specs.declared.Controller.{Controller}
use Rattle.image.specs.Layout.{LAYOUT}

abbrev pub flag_byte : Bool → ℕ
flag_byte b = cond b 1 0

-- The fourteen flags and the nine numbers of a bay, of whose pulse and wait each has two bytes.
abbrev pub bay_flags : Bay → List Bool
bay_flags b =
    level b N1394 ∷ level b NUSB ∷ level b NREMREQ ∷ accepted_level b N1394 ∷ accepted_level b NUSB ∷ accepted_level b NREMREQ ∷ b.n_sl
    ∷ b.remreq_sts ∷ b.devstschg ∷ b.control.lock_ctl ∷ b.control.remreq_en ∷ b.control.devstschg_en
    ∷ b.control.remevtwak_en ∷ b.control.pwr_ctl ∷ []

abbrev pub bay_numbers : Bay → List ℕ
bay_numbers b = count b N1394 ∷ count b NUSB ∷ count b NREMREQ ∷ b.state ∷ b.control.request ∷ (two_bytes b.pulse ++ two_bytes b.wait)

-- The seven of each of the second kind's own registers.
abbrev pub second_flags : Second → List Bool
second_flags r =
    flag r.subsystem_written 0 ∷ flag r.subsystem_written 1 ∷ flag r.subsystem_written 2 ∷ flag r.subsystem_written 3
    ∷ flag r.form_factors_written 0 ∷ flag r.form_factors_written 1 ∷ r.sfr_written ∷ []

abbrev pub second_numbers : Second → List ℕ
second_numbers r =
    byte r.subsystem 0 ∷ byte r.subsystem 1 ∷ byte r.subsystem 2 ∷ byte r.subsystem 3
    ∷ byte r.form_factors 0 ∷ byte r.form_factors 1 ∷ r.sfr ∷ []

-- Those of a machine.
abbrev pub flags_of : Machine → List Bool
flags_of m =
    m.started ∷ is_second m.kind ∷ is_second m.named ∷ m.shared.dbccr_written ∷ m.shared.seclock
    ∷ (second_flags m.second ++ (bay_flags (bay0 m.bays) ++ bay_flags (bay1 m.bays)))

abbrev pub numbers_of : Machine → List ℕ
numbers_of m =
    m.straps ∷ m.shared.bay_count ∷ m.shared.lock_time ∷ m.shared.wait_time ∷ m.phase
    ∷ (second_numbers m.second ++ (bay_numbers (bay0 m.bays) ++ bay_numbers (bay1 m.bays)))

-- Which command in progress, and the bytes that it holds, or 0.
unfoldable pub progress_bytes : Progress → List ℕ
progress_bytes Idle = 0 ∷ 0 ∷ 0 ∷ []
progress_bytes Opened = 1 ∷ 0 ∷ 0 ∷ []
progress_bytes Addressed = 2 ∷ 0 ∷ 0 ∷ []
progress_bytes (Register r) = 3 ∷ r ∷ 0 ∷ []
progress_bytes (Data r v) = 4 ∷ r ∷ v ∷ []
progress_bytes (Again r) = 5 ∷ r ∷ 0 ∷ []
progress_bytes (Reading v) = 6 ∷ v ∷ 0 ∷ []
progress_bytes (Writing r) = 7 ∷ r ∷ 0 ∷ []
progress_bytes (Sending r v) = 8 ∷ r ∷ v ∷ []

unfoldable pub saved : Controller → List ℕ
saved s = LAYOUT ∷ (map flag_byte (flags_of s.machine) ++ (numbers_of s.machine ++ progress_bytes s.progress))

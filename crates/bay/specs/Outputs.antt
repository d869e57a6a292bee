-- What a bay drives (document 01, "Bay moves": outputs and interrupt; document 03, "Outputs").
use Rattle.std.specs.Prelude.{ℕ, ◌+◌, Bool, not, ◌&&◌, ◌||◌, eqb, ltb}
use Rattle.std.specs.Bool.{beq}
use Rattle.bits.specs.Bits.{put}
use Rattle.bay.specs.Record.{hidden, EMPTY, INSERTED, ENABLED, REMOVAL_REQUESTED}
use Rattle.bay.specs.declared.Bay.{Bay}
use Rattle.bay.specs.declared.Setting.{Setting}

-- Lock pin: LOCK_CTL; or, where the lock is pulsed, high or low while a pulse is above 0, and else the other.
unfoldable pub lock_pin : Setting → Bay → Bool
lock_pin s b = s.pulsed && beq s.pulse_high (ltb 0 b.pulse) || not s.pulsed && b.control.lock_ctl

-- A device that is hidden shows by the green lamp, with DEVSTSCHG_EN (document 03, "Outputs").
abbrev pub awaited : Bool → Bay → Bool
awaited hides b = hidden hides b.wait && eqb b.state EMPTY && b.control.devstschg_en

-- Green: Enabled; or Inserted, or an awaited device, in the half of the phase in which a flashing lamp is lit.
unfoldable pub green : Bool → Bool → Bay → Bool
green hides lit b = eqb b.state ENABLED || (awaited hides b || eqb b.state INSERTED) && lit

-- Yellow: Removal Requested in that half.
unfoldable pub yellow : Bool → Bay → Bool
yellow lit b = eqb b.state REMOVAL_REQUESTED && lit

-- Bit 3 to 0: power, which is PWR_CTL, lock pin, green, yellow.
unfoldable pub bay_outputs : Bool → Setting → Bool → Bay → ℕ
bay_outputs hides s lit b = put 3 b.control.pwr_ctl + put 2 (lock_pin s b) + put 1 (green hides lit b) + put 0 (yellow lit b)

-- Interrupt: REMREQ_STS with REMREQ_EN or DEVSTSCHG with DEVSTSCHG_EN.
unfoldable pub interrupts : Bay → Bool
interrupts b = b.remreq_sts && b.control.remreq_en || b.devstschg && b.control.devstschg_en

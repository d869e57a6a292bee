-- What SFR means (document 03, "Registers" and "Bay moves"): bits 7-5 ITO, 4-1 SOL, 0 SPD.
use Rattle.std.specs.Prelude.{ℕ, ◌*◌, ◌/◌, ◌%◌, Bool, cond, ltb}
use Rattle.bits.specs.Bits.{bit}
use Rattle.second.specs.declared.Second.{Second}

abbrev pub ito : Second → ℕ
ito s = s.sfr / 32 % 8

abbrev pub sol : Second → ℕ
sol s = s.sfr / 2 % 16

abbrev pub spd : Second → Bool
spd s = bit 0 s.sfr

-- A wait is 80 x ITO ticks (800 ms each).
unfoldable pub wait_ticks_of : Second → ℕ
wait_ticks_of s = ito s * 80

-- With SOL 0 the lock pin is LOCK_CTL; else the lock is pulsed ..
unfoldable pub pulsed : Second → Bool
pulsed s = ltb 0 (sol s)

-- .. for SOL x 5 ticks with SPD 0, SOL x 80 with SPD 1 (50 and 800 ms).
unfoldable pub pulse_ticks_of : Second → ℕ
pulse_ticks_of s = sol s * cond (spd s) 80 5

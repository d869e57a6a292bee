-- The two lines (document 02, request 7): a sample byte's bit 1 is SCLK, bit 0 SDAT, others are ignored.
use Rattle.std.specs.Prelude.{ℕ, ◌+◌, Bool, true, false, cond, Option, Some, None, eqb, leb}
use Rattle.bits.specs.Bits.{bit}
use Rattle.wire.specs.declared.Lines.{Lines}
use Rattle.wire.specs.declared.Shown.{Shown}
use Rattle.wire.specs.declared.Shown.TheVariants.{Start, Stop, Timeout, Bit}

abbrev pub sclk : ℕ → Bool
sclk sample = bit 1 sample

abbrev pub sdat : ℕ → Bool
sdat sample = bit 0 sample

-- SCLK low for more than 17,500 samples in a row (35 ms) gives one TIMEOUT for that stretch.
abbrev pub MOST_LOW : ℕ
MOST_LOW = 17500

-- SCLK's last level and the low run are one number: low exactly while it is above 0. It stays at 17,501 until SCLK is high.
abbrev pub run_after : Bool → ℕ → ℕ
run_after true run = 0
run_after false run = cond (leb run MOST_LOW) (run + 1) run

unfoldable pub lines_after : Lines → ℕ → Lines
lines_after l sample = record { sdat = sdat sample; low = run_after (sclk sample) l.low }

-- START and STOP are SDAT falling and rising while SCLK stays high.
abbrev pub while_high : Bool → Bool → Option Shown
while_high true true = None
while_high true false = Some Start
while_high false true = Some Stop
while_high false false = None

-- A bit is SDAT at the first high sample of SCLK.
abbrev pub when_high : Lines → Bool → Option Shown
when_high l now = cond (eqb l.low 0) (while_high l.sdat now) (Some (Bit now))

-- TIMEOUT comes with the 17,501st low sample, once.
abbrev pub when_low : Lines → Option Shown
when_low l = cond (eqb l.low MOST_LOW) (Some Timeout) None

unfoldable pub shown_by : Lines → ℕ → Option Shown
shown_by l sample = cond (sclk sample) (when_high l (sdat sample)) (when_low l)

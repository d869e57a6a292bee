-- The held state (document 02, request 7).
use Rattle.std.specs.Prelude.{◌+◌, Bool, true, ◌&&◌, leb}
use Rattle.wire.specs.Levels.{MOST_LOW}
use Rattle.wire.specs.Nine.{waiting}
use Rattle.wire.specs.declared.Wire.{Wire}
use Rattle.wire.specs.declared.Listening.TheVariants.{Nothing}

-- A fresh held state: both lines high, no bits, nothing listened for.
unfoldable pub fresh_wire : Wire
fresh_wire = record { lines = record { sdat = true; low = 0 }; ear = waiting Nothing }

-- Refusal 1: over 8 bits, or a low run over 17,501.
unfoldable pub fits : Wire → Bool
fits w = leb w.ear.bits 8 && leb w.lines.low (MOST_LOW + 1)

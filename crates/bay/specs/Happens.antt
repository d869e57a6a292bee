-- What happens to a bay from one RESET to the next, while it is open, and what each of its inputs sees of that.
use Rattle.std.specs.Prelude.{ℕ, ◌-◌, Bool, List, [], ◌∷◌, ◌++◌}
use Rattle.bits.specs.Bits.{bit}
use Rattle.bay.specs.Record.{level, accepted_level, count}
use Rattle.bay.specs.Debounce.{sampled_bay}
use Rattle.bay.specs.Debounced.{Line, Seen, Tick, Sample}
use Rattle.bay.specs.Moves.{ticked_bay}
use Rattle.bay.specs.Registers.{bstr_written, controlled_bay, unlocked_bay}
use Rattle.bay.specs.declared.Bay.{Bay}
use Rattle.bay.specs.declared.Control.{Control}
use Rattle.bay.specs.declared.Setting.{Setting}

-- A TICK, PINS with its four levels, a write of BSTR, a write of BCER, and the first write of SFR; a TICK and a write of BCER each with what the shared registers
-- make of the rules then. Whether a wait hides the device stays from one RESET to the next.
pub data Happens : Type 0 where
  tick : Setting → Happens
  pins : ℕ → Happens
  bstr : ℕ → Happens
  bcer : Control → Setting → Happens
  unlock : Happens

unfoldable pub happens : Bool → Happens → Bay → Bay
happens hides (tick s) b = ticked_bay hides s b
happens hides (pins levels) b = sampled_bay levels b
happens hides (bstr v) b = bstr_written v b
happens hides (bcer c s) b = controlled_bay hides c s b
happens hides unlock b = unlocked_bay b

unfoldable pub happens_all : Bool → List Happens → Bay → Bay
happens_all hides [] b = b
happens_all hides (x ∷ xs) b = happens_all hides xs (happens hides x b)

-- Input i of a bay as it stands.
abbrev pub line : Bay → ℕ → Line
line b i = record { level = level b i; accepted = accepted_level b i; count = count b i }

-- What it sees: every TICK, its own level in each PINS (n1394, nUSB, nREMREQ from bit 3 down), and nothing of a write.
abbrev pub seen_of : ℕ → Happens → List Seen
seen_of i (tick s) = Tick ∷ []
seen_of i (pins levels) = Sample (bit (3 - i) levels) ∷ []
seen_of i (bstr v) = []
seen_of i (bcer c s) = []
seen_of i unlock = []

abbrev pub seen : ℕ → List Happens → List Seen
seen i [] = []
seen i (x ∷ xs) = seen_of i x ++ seen i xs

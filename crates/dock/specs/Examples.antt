-- The bench examples that are to be proved, P1 to P12, as one list (document 01, "Bench examples"). R is RESET C0BFh (bay 0 holds a
-- USB device); N is C0FFh; w a=v is a whole write at address 90h.
use Rattle.std.specs.Prelude.{ℕ, ◌+◌, Bool, true, false, ◌&&◌, List, [], ◌∷◌, ◌++◌, map, eqb, replicate}
use Rattle.std.specs.Bool.{beq}
use Rattle.bits.specs.Bits.{bit}
use Rattle.machine.specs.Outputs.{outputs}
use Rattle.machine.specs.InForce.{reading}
use Rattle.dock.specs.Answers.{refusal_of, reply_of, byte_of, outputs_of, Answer}
use Rattle.dock.specs.Step.{step_of}
use Rattle.dock.specs.Record.{fresh_controller}
use Rattle.dock.specs.Run.{after}
use Rattle.dock.specs.declared.Controller.{Controller}

-- ---- the paper's notation as event words

abbrev pub R : List ℕ
R = 0xC0BF ∷ []

abbrev pub N : List ℕ
N = 0xC0FF ∷ []

abbrev pub w : ℕ → ℕ → List ℕ
w a v = 0x0000 ∷ 0x4090 ∷ (0x4000 + a) ∷ (0x4000 + v) ∷ 0x2000 ∷ []

abbrev pub pins : ℕ → List ℕ
pins levels = (0x8000 + levels) ∷ []

abbrev pub ticks : ℕ → List ℕ
ticks n = replicate n 0xA000

-- ---- what an example shows, after its words from a fresh controller

pub data Shows : Type 0 where
  -- an address reads a value
  reads : ℕ → ℕ → Shows
  -- lock pin 0, bit 7 of the outputs, is high
  lock_pin_0 : Bool → Shows
  -- the nine outputs
  drives : ℕ → Shows
  -- one word more is answered with this refusal, reply, byte and outputs
  answers : ℕ → ℕ → ℕ → ℕ → ℕ → Shows

pub record Example : Type 0 where
  pub words : List ℕ
  pub shows : Shows

abbrev numbers : Answer → ℕ → ℕ → ℕ → ℕ → Bool
numbers a refusal reply byte out = eqb (refusal_of a) refusal && eqb (reply_of a) reply && eqb (byte_of a) byte && eqb (outputs_of a) out

abbrev shown : Controller → Shows → Bool
shown s (reads a v) = eqb (reading s.machine a) v
shown s (lock_pin_0 high) = beq (bit 7 (outputs s.machine)) high
shown s (drives n) = eqb (outputs s.machine) n
shown s (answers word refusal reply byte out) = numbers (step_of s word).answer refusal reply byte out

abbrev pub Holds : Example → Bool
Holds e = shown (after fresh_controller e.words) e.shows

abbrev pub all_hold : List Example → Bool
all_hold [] = true
all_hold (e ∷ es) = Holds e && all_hold es

abbrev pub gives : List ℕ → Shows → Example
gives ws s = record { words = ws; shows = s }

-- ---- the examples

abbrev P1_P5 : List Example
P1_P5 =
    gives R (reads 0x10 0x05)
    ∷ gives (R ++ w 0x14 0x04) (reads 0x10 0x15)
    ∷ gives (R ++ w 0x14 0x24) (reads 0x10 0x25)
    ∷ gives (R ++ w 0x14 0x01) (reads 0x14 0x00)
    ∷ gives (R ++ w 0x14 0x01 ++ w 0x14 0x81) (reads 0x14 0x81)
    ∷ gives (N ++ w 0x14 0x81) (reads 0x14 0x80)
    ∷ []

abbrev P6_P7 : List Example
P6_P7 =
    gives (N ++ w 0x14 0x04 ++ pins 0xBF ++ ticks 9) (reads 0x10 0x00)
    ∷ gives (N ++ w 0x14 0x04 ++ pins 0xBF ++ ticks 10) (reads 0x10 0x15)
    ∷ gives (N ++ w 0x14 0x04 ++ pins 0xBF ++ ticks 5 ++ pins 0xFF ++ pins 0xBF ++ ticks 9) (reads 0x10 0x00)
    ∷ []

-- P9 is P8 with 42 for 40.
abbrev removed : ℕ → List ℕ
removed v = R ++ w 0x10 0x04 ++ w 0x14 v ++ pins 0xFF ++ ticks 10

abbrev P8_P9 : List Example
P8_P9 =
    gives (removed 0x40) (reads 0x10 0x00)
    ∷ gives (removed 0x40) (reads 0x14 0x00)
    ∷ gives (removed 0x42) (reads 0x10 0x04)
    ∷ gives (removed 0x42) (reads 0x14 0x02)
    ∷ []

abbrev P10_P11 : List Example
P10_P11 =
    gives (N ++ w 0x0C 0x12 ++ w 0x0C 0x01) (reads 0x0C 0x12)
    ∷ gives (N ++ w 0x0C 0xE1) (reads 0x0C 0x01)
    ∷ []

-- Lock pin 0 low through 11 ticks, high after the 12th. Bit 12 of its RESET asks for the short pulse (document 02, request 4).
abbrev unlocked : ℕ → List ℕ
unlocked n = 0xD1FF ∷ (w 0x14 0x80 ++ w 0x14 0x00 ++ ticks n)

abbrev low : ℕ → Example
low n = gives (unlocked n) (lock_pin_0 false)

abbrev P12 : List Example
P12 =
    map low (0 ∷ 1 ∷ 2 ∷ 3 ∷ 4 ∷ 5 ∷ 6 ∷ 7 ∷ 8 ∷ 9 ∷ 10 ∷ 11 ∷ [])
    ++ gives (unlocked 12) (lock_pin_0 true) ∷ []

unfoldable pub examples : List Example
examples = P1_P5 ++ P6_P7 ++ P8_P9 ++ P10_P11 ++ P12

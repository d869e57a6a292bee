-- The bench examples of the second kind that are to be proved, Q1 to Q25 and the trace after them, as one list (document 03, "Bench examples").
-- The second kind is named on a fresh controller; then each is the paper's line, in its order: calls, and what holds between them. R is RESET
-- C0BFh (bay 0 holds a USB device); N is C0FFh; w a=v is a write at 90h.
use Rattle.std.specs.Prelude.{ℕ, zero, suc, ◌+◌, Bool, true, false, ◌&&◌, List, [], ◌∷◌, ◌++◌, map, eqb, replicate}
use Rattle.std.specs.Bool.{beq}
use Rattle.bits.specs.Bits.{bit}
use Rattle.machine.specs.Outputs.{outputs}
use Rattle.machine.specs.InForce.{reading}
use Rattle.dock.specs.Answers.{refusal_of, reply_of, byte_of, Answer}
use Rattle.dock.specs.Step.{step_of}
use Rattle.dock.specs.Name.{name_of, naming_refusal}
use Rattle.dock.specs.Record.{fresh_controller}
use Rattle.dock.specs.Run.{Call, word, naming, after_call}
use Rattle.dock.specs.declared.Controller.{Controller}

-- ---- what an example is made of

pub data Line : Type 0 where
  -- a call, and the number with which it is refused; 0 where it is accepted
  calls : Call → ℕ → Line
  -- a word that is accepted, with this reply and byte
  answers : ℕ → ℕ → ℕ → Line
  -- an address reads a value
  reads_at : ℕ → ℕ → Line
  -- the nine outputs, and one of them by its bit
  nine_outputs : ℕ → Line
  output_bit : ℕ → Bool → Line

abbrev refusal_to : Controller → Call → ℕ
refusal_to s (word n) = refusal_of (step_of s n).answer
refusal_to s (naming kind) = naming_refusal (name_of s kind).naming

abbrev accepted : Answer → ℕ → ℕ → Bool
accepted a reply byte = eqb (refusal_of a) 0 && eqb (reply_of a) reply && eqb (byte_of a) byte

-- The lines hold from a state on, one after the other.
abbrev holds_from : Controller → List Line → Bool
holds_from s [] = true
holds_from s (calls c refusal ∷ ls) = eqb (refusal_to s c) refusal && holds_from (after_call s c) ls
holds_from s (answers n reply byte ∷ ls) = accepted (step_of s n).answer reply byte && holds_from (step_of s n).controller ls
holds_from s (reads_at a v ∷ ls) = eqb (reading s.machine a) v && holds_from s ls
holds_from s (nine_outputs n ∷ ls) = eqb (outputs s.machine) n && holds_from s ls
holds_from s (output_bit k high ∷ ls) = beq (bit k (outputs s.machine)) high && holds_from s ls

abbrev name : ℕ → List Line
name kind = calls (naming kind) 0 ∷ []

abbrev pub Holds : List Line → Bool
Holds example = holds_from fresh_controller (name 2 ++ example)

abbrev pub all_hold : List (List Line) → Bool
all_hold [] = true
all_hold (e ∷ es) = Holds e && all_hold es

-- ---- the paper's notation: calls

abbrev RESET : ℕ → List Line
RESET n = calls (word n) 0 ∷ []

abbrev R : List Line
R = RESET 0xC0BF

abbrev N : List Line
N = RESET 0xC0FF

abbrev START : List Line
START = calls (word 0x0000) 0 ∷ []

abbrev STOP : List Line
STOP = calls (word 0x2000) 0 ∷ []

abbrev TIMEOUT : List Line
TIMEOUT = calls (word 0xE000) 0 ∷ []

abbrev PINS : ℕ → List Line
PINS levels = calls (word (0x8000 + levels)) 0 ∷ []

abbrev ticks : ℕ → List Line
ticks n = replicate n (calls (word 0xA000) 0)

-- A BYTE with its reply, and a TAKE with the byte that it gives; one that the host doesn't ACK; one that gives none.
abbrev ACK : ℕ → List Line
ACK byte = answers (0x4000 + byte) 1 0x00 ∷ []

abbrev no_ACK : ℕ → List Line
no_ACK byte = answers (0x4000 + byte) 2 0x00 ∷ []

abbrev TAKEWithACK : ℕ → List Line
TAKEWithACK v = answers 0x6001 3 v ∷ []

abbrev TAKE : ℕ → List Line
TAKE v = answers 0x6000 3 v ∷ []

abbrev TAKEReply4 : List Line
TAKEReply4 = answers 0x6000 4 0xFF ∷ []

abbrev ACKs : List ℕ → List Line
ACKs bytes = map (λ byte. answers (0x4000 + byte) 1 0x00) bytes

-- w a=v,.. and w a=v: every byte is ACKed.
abbrev w_all : ℕ → List ℕ → List Line
w_all a vs = START ++ ACKs (0x90 ∷ a ∷ vs) ++ STOP

abbrev w : ℕ → ℕ → List Line
w a v = w_all a (v ∷ [])

-- A read as far as the own read byte.
abbrev read_begun : ℕ → List Line
read_begun a = START ++ ACK 0x90 ++ ACK a ++ START ++ ACK 0x91

-- A number that names no kind.
abbrev kind_refused : ℕ → List Line
kind_refused kind = calls (naming kind) 14 ∷ []

-- ---- the paper's notation: what holds

abbrev reads : ℕ → ℕ → List Line
reads a v = reads_at a v ∷ []

-- From an address on.
abbrev reads_from : ℕ → List ℕ → List Line
reads_from a [] = []
reads_from a (v ∷ vs) = reads_at a v ∷ reads_from (a + 1) vs

abbrev zeros : ℕ → List ℕ
zeros n = replicate n 0x00

abbrev outputs_are : ℕ → List Line
outputs_are n = nine_outputs n ∷ []

abbrev lock_pin_0 : Bool → List Line
lock_pin_0 high = output_bit 7 high ∷ []

abbrev green_0 : Bool → List Line
green_0 on = output_bit 6 on ∷ []

-- Now, and after each of n ticks.
abbrev through : ℕ → List Line → List Line
through zero holds = holds
through (suc n) holds = holds ++ ticks 1 ++ through n holds

-- ---- the examples

-- All 256 addresses.
abbrev Q1 : List (List Line)
Q1 =
    (reads_from 0x00 (zeros 256) ++ outputs_are 0x000
    ++ N ++ reads_from 0x00 (0x60 ∷ 0x12 ∷ 0x00 ∷ 0x00 ∷ 0x01 ∷ (zeros 7 ++ 0x02 ∷ zeros 243)) ++ outputs_are 0x000)
    ∷ []

abbrev Q2_Q3 : List (List Line)
Q2_Q3 =
    (R ++ reads 0x14 0x05 ++ reads 0x10 0x00 ++ w 0x10 0x04 ++ reads 0x14 0x15 ++ outputs_are 0x041)
    ∷ (R ++ w 0x10 0x24 ++ reads 0x14 0x25)
    ∷ []

abbrev Q4 : List (List Line)
Q4 =
    (R ++ w 0x10 0x01 ++ reads 0x10 0x00 ++ w 0x10 0x81 ++ reads 0x10 0x81 ++ outputs_are 0x180
    ++ N ++ w 0x10 0x81 ++ reads 0x10 0x80)
    ∷ []

abbrev Q5 : List (List Line)
Q5 =
    (N ++ w_all 0x08 (0x34 ∷ 0x12 ∷ 0x78 ∷ []) ++ w_all 0x08 (0xFF ∷ 0xFF ∷ 0xFF ∷ 0x56 ∷ []) ++ reads_from 0x08 (0x34 ∷ 0x12 ∷ 0x78 ∷ 0x56 ∷ [])
    ++ N ++ reads_from 0x08 (0x34 ∷ 0x12 ∷ 0x78 ∷ 0x56 ∷ [])
    ++ w 0x08 0x99 ++ reads_from 0x08 (0x99 ∷ 0x12 ∷ 0x78 ∷ 0x56 ∷ []))
    ∷ []

abbrev Q6 : List (List Line)
Q6 =
    (N ++ w 0x0C 0x1F ++ w 0x0C 0x01 ++ reads 0x0C 0x12
    ++ N ++ w 0x0C 0x13 ++ reads 0x0C 0x12
    ++ N ++ w 0x0C 0x00 ++ w 0x0C 0x12 ++ reads 0x0C 0x00
    ++ N ++ w 0x0D 0x11 ++ w 0x0C 0xE1 ++ reads 0x0C 0x01 ++ reads 0x0D 0x00)
    ∷ []

abbrev Q7 : List (List Line)
Q7 = (RESET 0xC0EF ++ reads 0x14 0x00 ++ w 0x0C 0x12 ++ reads 0x14 0x80 ++ PINS 0xFF ++ reads 0x14 0x00) ∷ []

abbrev Q8 : List (List Line)
Q8 =
    (N ++ w 0x15 0x0A ++ reads 0x15 0x02
    ++ N ++ reads 0x15 0x02
    ++ w 0x15 0x01 ++ w_all 0x20 (0xFF ∷ 0x01 ∷ []) ++ reads 0x15 0x02 ++ reads 0x21 0x01)
    ∷ []

abbrev Q9 : List (List Line)
Q9 =
    (RESET 0xC0FB ++ w 0x21 0x02 ++ w 0x0C 0x01 ++ w 0x18 0xAD ++ reads 0x18 0x00 ++ reads 0x20 0x00 ++ reads 0x21 0x00
    ++ RESET 0xC0FB ++ reads 0x18 0x00 ++ reads 0x20 0x05 ++ reads 0x21 0x02)
    ∷ []

abbrev Q10 : List (List Line)
Q10 =
    (N ++ read_begun 0xFF ++ TAKEWithACK 0x00 ++ TAKEWithACK 0x60 ++ TAKE 0x12
    ++ START ++ no_ACK 0x91
    ++ N ++ w_all 0xFC (0x40 ∷ 1 ∷ 2 ∷ 3 ∷ 4 ∷ []) ++ reads 0xFC 0x40 ++ reads_from 0xFD (zeros 3) ++ reads 0x00 0x60)
    ∷ []

-- As far as the data byte, and no STOP.
abbrev written : List Line
written = R ++ START ++ ACK 0x90 ++ ACK 0x10 ++ ACK 0x81 ++ reads 0x10 0x81

abbrev Q11 : List (List Line)
Q11 =
    (written ++ START ++ no_ACK 0x90 ++ reads 0x10 0x81)
    ∷ (written ++ TIMEOUT ++ no_ACK 0x90 ++ reads 0x10 0x81)
    ∷ []

abbrev Q12 : List (List Line)
Q12 =
    (R ++ read_begun 0x14 ++ PINS 0xFF ++ ticks 10 ++ reads 0x14 0x04 ++ TAKEWithACK 0x05 ++ TAKE 0x00 ++ TAKEReply4)
    ∷ (R ++ read_begun 0x13 ++ TAKEWithACK 0x00 ++ PINS 0xFF ++ ticks 10 ++ TAKE 0x05)
    ∷ []

-- On for 50 ticks, off for 50, and so on: a turn of the phase, and into the next.
abbrev Q13 : List (List Line)
Q13 =
    (R ++ w 0x10 0x04
    ++ through 49 (green_0 true) ++ ticks 1 ++ through 49 (green_0 false)
    ++ ticks 1 ++ through 49 (green_0 true) ++ ticks 1 ++ through 49 (green_0 false)
    ++ ticks 1 ++ through 49 (green_0 true) ++ ticks 1 ++ green_0 false)
    ∷ []

-- With this SFR: high through so many ticks, low after the next.
abbrev pulse : ℕ → ℕ → List Line
pulse sfr n =
    N ++ w 0xFC sfr ++ w 0x10 0x80 ++ lock_pin_0 false ++ w 0x10 0x00 ++ through n (lock_pin_0 true) ++ ticks 1 ++ lock_pin_0 false

abbrev Q14 : List (List Line)
Q14 =
    (N ++ w 0x10 0x80 ++ lock_pin_0 true ++ w 0x10 0x00 ++ lock_pin_0 false)
    ∷ pulse 0x02 4
    ∷ pulse 0x1F 1199
    ∷ []

abbrev Q15 : List (List Line)
Q15 =
    (R ++ w 0x10 0xA1 ++ outputs_are 0x1C0
    ++ w 0xFC 0x02 ++ reads 0x10 0x20 ++ outputs_are 0x040
    ++ w 0x10 0x81 ++ w 0xFC 0x00 ++ reads 0x10 0xA1 ++ reads 0xFC 0x02)
    ∷ []

abbrev Q16 : List (List Line)
Q16 =
    (N ++ w 0xFC 0x20 ++ w 0x10 0x04 ++ PINS 0xBF ++ ticks 10 ++ reads 0x14 0x00 ++ outputs_are 0x040
    ++ w 0x10 0xA5 ++ w 0x10 0x04 ++ reads 0x10 0x24 ++ reads 0x14 0x00
    ++ ticks 79 ++ reads 0x14 0x00 ++ ticks 1 ++ reads 0x14 0x15 ++ outputs_are 0x001)
    ∷ (N ++ w 0xFC 0x20 ++ PINS 0x9F ++ through 10 (outputs_are 0x000) ++ reads 0x14 0x00
    ++ through 79 (outputs_are 0x000) ++ reads 0x14 0x00 ++ ticks 1 ++ reads 0x14 0x05 ++ outputs_are 0x000)
    ∷ []

abbrev Q17 : List (List Line)
Q17 =
    (N ++ w 0xFC 0x40 ++ w 0x10 0x04 ++ PINS 0xBF ++ ticks 10 ++ PINS 0xFF ++ ticks 9 ++ outputs_are 0x040
    ++ ticks 1 ++ outputs_are 0x000 ++ reads 0x14 0x00
    ++ ticks 150 ++ outputs_are 0x000 ++ reads 0x14 0x00)
    ∷ []

abbrev Q18 : List (List Line)
Q18 =
    (R ++ w 0x10 0x2C ++ PINS 0x9F ++ ticks 4 ++ reads 0x14 0x25 ++ ticks 1 ++ reads 0x14 0x3D ++ outputs_are 0x021)
    ∷ (N ++ w 0x10 0x08 ++ PINS 0xDF ++ ticks 10 ++ reads 0x14 0x00)
    ∷ (R ++ w 0x10 0x48 ++ PINS 0x9F ++ ticks 10 ++ reads 0x14 0x4D)
    ∷ []

abbrev Q19 : List (List Line)
Q19 =
    (R ++ w 0x14 0x04 ++ w 0x10 0x40 ++ PINS 0xFF ++ ticks 10 ++ reads 0x14 0x00 ++ reads 0x10 0x00)
    ∷ (R ++ w 0x14 0x04 ++ w 0x10 0x42 ++ PINS 0xFF ++ ticks 10 ++ reads 0x14 0x04 ++ reads 0x10 0x02)
    ∷ []

abbrev Q20 : List (List Line)
Q20 =
    (RESET 0xCFFF ++ START ++ ACK 0x96 ++ reads 0x10 0x00)
    ∷ (RESET 0xCFFF ++ START ++ no_ACK 0x90 ++ reads 0x10 0x00)
    ∷ (kind_refused 0 ++ kind_refused 3 ++ N ++ name 1 ++ reads 0x00 0x60 ++ N ++ reads 0x00 0x55)
    ∷ []

abbrev Q21 : List (List Line)
Q21 =
    (N ++ w 0xFC 0x20 ++ w 0x10 0x04 ++ PINS 0xBF ++ ticks 80 ++ PINS 0xFF ++ ticks 10 ++ reads 0x14 0x00 ++ outputs_are 0x000)
    ∷ (N ++ w 0xFC 0x20 ++ w 0x10 0x0C ++ PINS 0xBF ++ ticks 85 ++ PINS 0x9F ++ ticks 5 ++ reads 0x14 0x1D ++ outputs_are 0x001)
    ∷ (N ++ w 0xFC 0x20 ++ w 0x10 0x04 ++ PINS 0x7F ++ ticks 30 ++ PINS 0xBF ++ ticks 10 ++ reads 0x14 0x00
    ++ ticks 50 ++ reads 0x14 0x15)
    ∷ []

abbrev Q22 : List (List Line)
Q22 =
    (N ++ w 0xFC 0x20 ++ PINS 0xBF ++ ticks 10 ++ outputs_are 0x000
    ++ w 0x10 0x04 ++ outputs_are 0x040 ++ reads 0x14 0x00
    ++ w 0x10 0x00 ++ ticks 80 ++ reads 0x14 0x05
    ++ w 0x10 0x04 ++ reads 0x14 0x15)
    ∷ []

abbrev Q23 : List (List Line)
Q23 =
    (N ++ w 0xFC 0x04 ++ w 0x10 0x80 ++ w 0x10 0x00 ++ ticks 7 ++ w 0x10 0x80 ++ lock_pin_0 true
    ++ w 0x10 0x00 ++ through 9 (lock_pin_0 true) ++ ticks 1 ++ lock_pin_0 false)
    ∷ []

abbrev Q24 : List (List Line)
Q24 =
    (N ++ w 0x08 0x34 ++ w 0x15 0x02 ++ name 1 ++ N ++ name 2 ++ N ++ reads 0x08 0x34 ++ reads 0x15 0x02
    ++ w 0x15 0x01 ++ reads 0x15 0x02 ++ w 0x08 0x01 ++ reads 0x08 0x01)
    ∷ (N ++ w 0x0C 0x01 ++ w 0x21 0x05 ++ N ++ w 0x21 0x03 ++ reads 0x21 0x03)
    ∷ []

abbrev Q25 : List (List Line)
Q25 =
    (R ++ w 0x10 0x04 ++ START ++ ACK 0x90 ++ ACK 0x10 ++ name 1 ++ ACK 0x24 ++ reads 0x14 0x25
    ++ RESET 0xC0BF ++ no_ACK 0x24 ++ reads 0x00 0x55)
    ∷ []

-- A word of the trace with its reply and byte; outputs 000 throughout.
abbrev told : ℕ → ℕ → ℕ → List Line
told n reply byte = answers n reply byte ∷ outputs_are 0x000

abbrev trace : List (List Line)
trace =
    (told 0xC0FF 0 0x00
    ++ told 0x0000 0 0x00 ++ told 0x4090 1 0x00 ++ told 0x400B 1 0x00 ++ told 0x4077 1 0x00 ++ told 0x4012 1 0x00 ++ told 0x4055 1 0x00 ++ told 0x2000 0 0x00
    ++ told 0x0000 0 0x00 ++ told 0x4090 1 0x00 ++ told 0x400A 1 0x00 ++ told 0x0000 0 0x00 ++ told 0x4091 1 0x00
    ++ told 0x6001 3 0x00 ++ told 0x6001 3 0x77 ++ told 0x6001 3 0x12 ++ told 0x6000 3 0x00 ++ told 0x6000 4 0xFF)
    ∷ []

unfoldable pub second_examples : List (List Line)
second_examples =
    Q1 ++ Q2_Q3 ++ Q4 ++ Q5 ++ Q6 ++ Q7 ++ Q8 ++ Q9 ++ Q10 ++ Q11 ++ Q12 ++ Q13 ++ Q14 ++ Q15 ++ Q16 ++ Q17 ++ Q18 ++ Q19 ++ Q20 ++ Q21 ++ Q22 ++ Q23 ++ Q24 ++ Q25
    ++ trace

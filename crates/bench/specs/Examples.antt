-- Lines as a person types them, at address 90h and over levels as they are, and the event words that they send.
use Rattle.std.specs.Prelude.{ℕ, List, [], ◌∷◌, ◌++◌, Some, None, Ok, Err}
use Prim.Native.String.{String}
use Rattle.script.specs.Text.{characters}
use Rattle.script.specs.Lines.{Line, argument_of, line_of}
use Rattle.bench.specs.Docks.{levels_at}
use Rattle.bench.specs.Orders.{words_of, fresh_bench, after_line}
use Rattle.bench.specs.declared.Bench.{Bench}

pub record Example : Type 0 where
  pub levels : ℕ
  pub typed : String
  pub words : List ℕ

abbrev from : ℕ → String → List ℕ → Example
from l t ws = record { levels = l; typed = t; words = ws }

abbrev line_words : ℕ → List ℕ → Line → List ℕ
line_words l t (Ok (Some o)) = words_of 0x90 l o t
line_words l t (Ok None) = []
line_words l t (Err m) = []

-- The words of a line, over levels.
abbrev pub words_typed : ℕ → String → List ℕ
words_typed l typed = line_words l (argument_of (characters typed)) (line_of (characters typed))

abbrev pub typed_words : Example → List ℕ
typed_words e = words_typed e.levels e.typed

-- What a person does at a bay sends one PINS, kind 4, with the levels.
abbrev hand : ℕ → String → ℕ → Example
hand l t w = from l t (w ∷ [])

-- Each input of each bay falls alone ..
abbrev falling : List Example
falling =
    hand 0xFF "insert 0 1394" 0x807F
    ∷ hand 0xFF "insert 0 usb" 0x80BF
    ∷ hand 0xFF "press 0" 0x80DF
    ∷ hand 0xFF "secure 0" 0x80EF
    ∷ hand 0xFF "insert 1 1394" 0x80F7
    ∷ hand 0xFF "insert 1 usb" 0x80FB
    ∷ hand 0xFF "press 1" 0x80FD
    ∷ hand 0xFF "secure 1" 0x80FE
    ∷ []

-- .. and rises alone, but for the two contacts of a cartridge.
abbrev rising : List Example
rising =
    hand 0x00 "remove 0" 0x80C0
    ∷ hand 0x00 "release 0" 0x8020
    ∷ hand 0x00 "unsecure 0" 0x8010
    ∷ hand 0x00 "remove 1" 0x800C
    ∷ hand 0x00 "release 1" 0x8002
    ∷ hand 0x00 "unsecure 1" 0x8001
    ∷ []

-- A USB cartridge is in bay 0: its button, another cartridge for bay 1, and its leave; then what changes no level.
abbrev stay : List Example
stay =
    hand 0xBF "press 0" 0x809F
    ∷ hand 0x9F "insert 1 1394" 0x8097
    ∷ hand 0x97 "release 0" 0x80B7
    ∷ hand 0xB7 "remove 0" 0x80F7
    ∷ hand 0x00 "press 0" 0x8000
    ∷ hand 0xFF "remove 1" 0x80FF
    ∷ []

-- The other verbs send what they say, whatever the levels are.
abbrev plain : List Example
plain =
    from 0xFF "reset C0BF" (0xC0BF ∷ [])
    ∷ from 0xFF "reset D1FF" (0xD1FF ∷ [])
    ∷ from 0xFF "pins 9F" (0x809F ∷ [])
    ∷ from 0xFF "tick 3" (0xA000 ∷ 0xA000 ∷ 0xA000 ∷ [])
    ∷ from 0xFF "w 14=04" (0x0000 ∷ 0x4090 ∷ 0x4014 ∷ 0x4004 ∷ 0x2000 ∷ [])
    ∷ from 0xFF "r 10" (0x0000 ∷ 0x4090 ∷ 0x4010 ∷ 0x0000 ∷ 0x4091 ∷ 0x6000 ∷ [])
    ∷ from 0xFF "w 08=34,12,78" (0x0000 ∷ 0x4090 ∷ 0x4008 ∷ 0x4034 ∷ 0x4012 ∷ 0x4078 ∷ 0x2000 ∷ [])
    ∷ from 0xFF "r FF-01" (0x0000 ∷ 0x4090 ∷ 0x40FF ∷ 0x0000 ∷ 0x4091 ∷ 0x6001 ∷ 0x6001 ∷ 0x6000 ∷ [])
    ∷ from 0xFF "start" (0x0000 ∷ [])
    ∷ from 0xFF "stop" (0x2000 ∷ [])
    ∷ from 0xFF "byte 90" (0x4090 ∷ [])
    ∷ from 0xFF "take ack" (0x6001 ∷ [])
    ∷ from 0xFF "take nack" (0x6000 ∷ [])
    ∷ from 0xFF "timeout" (0xE000 ∷ [])
    ∷ from 0xFF "word D0FF" (0xD0FF ∷ [])
    ∷ from 0xFF "at 96" []
    ∷ from 0xFF "out" []
    ∷ from 0xFF "save" []
    ∷ from 0xFF "load 01" []
    ∷ from 0xFF "kind 2" []
    ∷ from 0xFF "chassis 2" []
    ∷ from 0xFF "dock 1" []
    ∷ []

unfoldable pub examples : List Example
examples = falling ++ rising ++ stay ++ plain

-- Document 03's trace as it is typed after `kind 2`, and its words ("Bench examples", at the end).
unfoldable pub trace_lines : List String
trace_lines = "reset C0FF" ∷ "w 0B=77,12,55" ∷ "r 0A-0D" ∷ "take nack" ∷ []

unfoldable pub trace_words : List ℕ
trace_words =
    0xC0FF ∷ 0x0000 ∷ 0x4090 ∷ 0x400B ∷ 0x4077 ∷ 0x4012 ∷ 0x4055 ∷ 0x2000
    ∷ 0x0000 ∷ 0x4090 ∷ 0x400A ∷ 0x0000 ∷ 0x4091 ∷ 0x6001 ∷ 0x6001 ∷ 0x6001 ∷ 0x6000 ∷ 0x6000 ∷ []

-- A line on a fresh bench, one after it, and the words that this sends.
pub record Loading : Type 0 where
  pub before : String
  pub typed : String
  pub words : List ℕ

-- The words of a line, over the levels of the dock that is chosen.
abbrev pub words_on : Bench → String → List ℕ
words_on b typed = words_typed (levels_at b.dock b.levels) typed

abbrev pub loaded_words : Loading → List ℕ
loaded_words e = words_on (after_line (characters e.before) fresh_bench) e.typed

abbrev loading : String → String → ℕ → Loading
loading b t w = record { before = b; typed = t; words = w ∷ [] }

-- A USB cartridge is in bay 0 of the state that is loaded; in the last three it isn't loaded: a phase of 200, a byte lost, another
-- version.
unfoldable pub loadings : List Loading
loadings =
    loading "load 0401000000000000000000000001000101000101000101010100010101010101010100000000000000000000000A00000000000000000000020200000000000000000000000000031400" "press 0" 0x809F
    ∷ loading "load 0401000000000000000000000001000101000101000101010100010101010101010100000000000000000000000a00000000000000000000020200000000000000000000000000031400 # both cases" "press 0" 0x809F
    ∷ loading "load 0401000000000000000000000001000101000101000101010100010101010101010100000000000000000000000A00000000000000000000020200000000000000000000000000031400" "remove 0" 0x80FF
    ∷ loading "load 040100000000000000000000000100010100010100010101010001010101010101010000000000000000000000C800000000000000000000020200000000000000000000000000031400" "press 0" 0x80DF
    ∷ loading "load 0401000000000000000000000001000101000101000101010100010101010101010100000000000000000000000A000000000000000000000202000000000000000000000000000314" "press 0" 0x80DF
    ∷ loading "load 0301000000000000000000000001000101000101000101010100010101010101010100000000000000000000000A00000000000000000000020200000000000000000000000000031400" "press 0" 0x80DF
    ∷ []

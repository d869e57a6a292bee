-- The layout of a state's image. Its version comes first; then the flags, each a byte of 0 or 1; then the numbers; then the command in
-- progress, which is three bytes.
use Rattle.std.specs.Prelude.{ℕ}

-- The version rises whenever a byte, what it may hold or the length changes.
abbrev pub LAYOUT : ℕ
LAYOUT = 4

abbrev pub BYTES : ℕ
BYTES = 74

-- Where the flags begin, where they end and the numbers begin, and where these end and the command in progress begins.
abbrev pub FLAGS : ℕ
FLAGS = 1

abbrev pub NUMBERS : ℕ
NUMBERS = 41

abbrev pub PROGRESS : ℕ
PROGRESS = 71

-- A trace whose input comes in pieces: the controller after the words so far, and the high byte that waits for its low byte.
use Rattle.std.specs.Prelude.{ℕ, List, [], ◌∷◌, ◌++◌, None, Some}
use Rattle.std.specs.declared.option.Option.{Option}
use Rattle.dock.specs.Record.{fresh_controller}
use Rattle.dock.specs.Run.{after}
use Rattle.pairs.specs.Pairs.{words_in, lone_in}
use Rattle.trace.specs.Text.{lines_of, odd_for}
use Rattle.trace.specs.declared.pieces.Trace.{Trace}

-- The byte that waits, and a lone byte as one that waits.
abbrev pub held : Option ℕ → List ℕ
held None = []
held (Some b) = b ∷ []

abbrev pub waiting_for : List ℕ → Option ℕ
waiting_for [] = None
waiting_for (b ∷ rest) = Some b

-- The bytes whose words a piece completes: the one that waited and its own.
abbrev pub joined : Trace → List ℕ → List ℕ
joined t input = held t.waiting ++ input

-- A piece's lines, and the trace afterwards.
unfoldable pub lines_fed : Trace → List ℕ → List ℕ
lines_fed t input = lines_of t.controller (words_in (joined t input))

unfoldable pub trace_fed : Trace → List ℕ → Trace
trace_fed t input = record { controller = after t.controller (words_in (joined t input)); waiting = waiting_for (lone_in (joined t input)) }

-- Before the first piece the header is put out, and nothing waits.
unfoldable pub begun : Trace
begun = record { controller = fresh_controller; waiting = None }

-- After the last piece a byte that still waits is a lone one.
unfoldable pub ending_of : Trace → List ℕ
ending_of t = odd_for (held t.waiting)

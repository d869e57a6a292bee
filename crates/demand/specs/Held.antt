-- Calls on a state held: which of their words count.
use Rattle.std.specs.Prelude.{ℕ, ◌*◌, cond, List, [], ltb, length}
use Rattle.batch.specs.Record.{RECORD}
use Rattle.batch.specs.Batch.{MOST_WORDS}

-- A batch with room for so many record bytes takes all of its words, and none where it is refused with 5 or 4.
unfoldable pub taken : List ℕ → ℕ → List ℕ
taken ws room = cond (ltb MOST_WORDS (length ws)) [] (cond (ltb room (RECORD * length ws)) [] ws)

-- The bytes of a queue.
use Rattle.std.specs.Prelude.{ℕ, ◌+◌, ◌-◌, ◌*◌, ◌%◌, cond, List, [], ◌∷◌, ◌++◌, eqb, length, take, drop}
use Rattle.pairs.specs.Pairs.{bytes_of}
use Rattle.queue.specs.Record.{PLACES}
use Rattle.queue.specs.declared.Queue.{Queue}
use Rattle.queue_image.specs.Layout.{LAYOUT, BYTES, START, COUNT, WORDS}

unfoldable pub saved : Queue → List ℕ
saved q = LAYOUT ∷ bytes_of (q.start ∷ q.count ∷ q.words)

-- In place of as many bytes; others stay as they are.
unfoldable pub saved_in : Queue → List ℕ → List ℕ
saved_in q bytes = cond (eqb (length bytes) BYTES) (saved q) bytes

-- New bytes in place of as many, from a place on.
abbrev pub over : ℕ → List ℕ → List ℕ → List ℕ
over at new bytes = take at bytes ++ (new ++ drop (length new) (drop at bytes))

-- The place of the word that was put last.
abbrev pub newest : ℕ → ℕ → ℕ
newest start count = (start + count + (PLACES - 1)) % PLACES

-- What a put of a word changes, where this is the queue after it: the count, and the word at its place.
unfoldable pub put_in : Queue → ℕ → List ℕ → List ℕ
put_in q w bytes =
    cond (eqb (length bytes) BYTES) (over (WORDS + 2 * newest q.start q.count) (bytes_of (w ∷ [])) (over COUNT (bytes_of (q.count ∷ [])) bytes)) bytes

-- What a take changes: start and count.
unfoldable pub take_in : Queue → List ℕ → List ℕ
take_in q bytes = cond (eqb (length bytes) BYTES) (over START (bytes_of (q.start ∷ q.count ∷ [])) bytes) bytes

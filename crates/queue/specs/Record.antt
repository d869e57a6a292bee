-- The queue record (document 02, request 8).
use Rattle.std.specs.Prelude.{ℕ, zero, suc, ◌+◌, ◌%◌, Bool, ◌&&◌, List, [], ◌∷◌, ltb, leb, get_or, replicate}
use Rattle.queue.specs.declared.Queue.{Queue}

-- A queue of 128 waiting words.
abbrev pub PLACES : ℕ
PLACES = 128

unfoldable pub empty_queue : Queue
empty_queue = record { words = replicate PLACES 0; start = 0; count = 0 }

-- A queue record is fit when its start is 0-127 and its count 0-128.
unfoldable pub in_range : ℕ → ℕ → Bool
in_range start count = ltb start PLACES && leb count PLACES

abbrev pub fits : Queue → Bool
fits q = in_range q.start q.count

-- The words waiting, oldest first: as many as the count says, from the start on, and after the last place from the first.
abbrev pub words_from : List ℕ → ℕ → ℕ → List ℕ
words_from ring at zero = []
words_from ring at (suc n) = get_or ring at 0 ∷ words_from ring ((at + 1) % PLACES) n

unfoldable pub waiting : Queue → List ℕ
waiting q = words_from q.words q.start q.count

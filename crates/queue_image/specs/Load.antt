-- Any bytes as a queue: each string of as many bytes whose first is the layout's is the image of exactly one, fit or not.
use Rattle.std.specs.Prelude.{ℕ, ◌+◌, Bool, cond, ◌&&◌, Option, Some, None, List, eqb, length, get_or, drop}
use Rattle.pairs.specs.Pairs.{wide, words_in}
use Rattle.queue.specs.Record.{empty_queue}
use Rattle.queue.specs.declared.Queue.{Queue}
use Rattle.queue_image.specs.Layout.{LAYOUT, BYTES, START, COUNT, WORDS}

unfoldable pub is_image : List ℕ → Bool
is_image bytes = eqb (length bytes) BYTES && eqb (get_or bytes 0 0) LAYOUT

-- The number in the two bytes from a place on.
abbrev number_at : List ℕ → ℕ → ℕ
number_at bytes at = wide (get_or bytes at 0) (get_or bytes (at + 1) 0)

unfoldable pub queue_in : List ℕ → Queue
queue_in bytes = record { words = words_in (drop WORDS bytes); start = number_at bytes START; count = number_at bytes COUNT }

-- The queue of any bytes, where they are an image.
unfoldable pub queue_of : List ℕ → Option Queue
queue_of bytes = cond (is_image bytes) (Some (queue_in bytes)) None

-- The queue of any bytes: an empty one where they are no image.
unfoldable pub load_of : List ℕ → Queue
load_of bytes = cond (is_image bytes) (queue_in bytes) empty_queue

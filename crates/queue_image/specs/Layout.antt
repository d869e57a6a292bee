-- The image of a queue: a version, start and count in two bytes each, and the ring's 128 words, two bytes each; the high byte comes first.
use Rattle.std.specs.Prelude.{ℕ}

abbrev pub LAYOUT : ℕ
LAYOUT = 1

abbrev pub BYTES : ℕ
BYTES = 261

-- Where start, count and ring begin.
abbrev pub START : ℕ
START = 1

abbrev pub COUNT : ℕ
COUNT = 3

abbrev pub WORDS : ℕ
WORDS = 5

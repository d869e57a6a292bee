-- Words as bytes, high byte first (document 01, "Bench examples", and every number of two bytes in an image).
use Rattle.std.specs.Prelude.{ℕ, ◌+◌, ◌*◌, ◌/◌, ◌%◌, List, [], ◌∷◌, ◌++◌}

-- The number of two bytes.
abbrev pub wide : ℕ → ℕ → ℕ
wide high low = high * 256 + low

-- The two bytes of a number.
abbrev pub two_bytes : ℕ → List ℕ
two_bytes n = n / 256 ∷ n % 256 ∷ []

-- The words in a list of bytes.
unfoldable pub words_in : List ℕ → List ℕ
words_in [] = []
words_in (b ∷ []) = []
words_in (high ∷ (low ∷ rest)) = wide high low ∷ words_in rest

-- The lone last byte, where there is one.
unfoldable pub lone_in : List ℕ → List ℕ
lone_in [] = []
lone_in (b ∷ []) = b ∷ []
lone_in (high ∷ (low ∷ rest)) = lone_in rest

-- The bytes of words.
unfoldable pub bytes_of : List ℕ → List ℕ
bytes_of [] = []
bytes_of (w ∷ ws) = two_bytes w ++ bytes_of ws

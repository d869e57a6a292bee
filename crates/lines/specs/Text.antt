-- Texts: the characters of one, by their ASCII numbers, and how many a page has room for.
use Rattle.std.specs.Prelude.{ℕ, zero, suc, List, [], ◌∷◌, ◌++◌, length, drop}
use Prim.Native.Char.{code}
use Prim.Native.String.{String, len, char_at}

-- A text's characters: n of them, from a place on.
abbrev characters_from : String → ℕ → ℕ → List ℕ
characters_from t at zero = []
characters_from t at (suc n) = code (char_at t at) ∷ characters_from t (suc at) n

abbrev pub characters : String → List ℕ
characters t = characters_from t 0 (len t)

abbrev pub PAGE : ℕ
PAGE = 75776

-- A buffer with a text at its start; the bytes past it are unchanged.
unfoldable pub written : List ℕ → List ℕ → List ℕ
written text buffer = text ++ drop (length text) buffer

-- Texts: characters by their numbers, blanks, words.
use Rattle.std.specs.Prelude.{ℕ, Bool, true, false, cond, List, [], ◌∷◌, length, take, drop, eqb, leb, Option, Some, None}
use Prim.Native.Char.{code}
use Prim.Native.String.{String, [] as «end», ◌∷◌ as ◌then◌}
use Rattle.std.specs.Bool.{beq}
use Rattle.std.specs.List.{prefix_len, position_or_len}
use Rattle.std.specs.Str.{bytes_eq}

-- The characters of a text, by their numbers.
abbrev pub characters : String → List ℕ
characters «end» = []
characters (c then s) = code c ∷ characters s

-- What is typed is this text.
abbrev pub says : String → List ℕ → Bool
says s t = bytes_eq t (characters s)

-- A space and every control character is a blank.
unfoldable pub blank : ℕ → Bool
blank c = leb c (code " ")

-- How many characters in front are all blanks (true), or are none (false).
abbrev pub leading : Bool → List ℕ → ℕ
leading b t = prefix_len (λ c. beq (blank c) b) t

-- A text without the blanks in front, its first word, and what follows that.
unfoldable pub trimmed : List ℕ → List ℕ
trimmed t = drop (leading true t) t

unfoldable pub first : List ℕ → List ℕ
first t = take (leading false (trimmed t)) (trimmed t)

unfoldable pub rest : List ℕ → List ℕ
rest t = drop (leading false (trimmed t)) (trimmed t)

-- Its only word, empty where it has none; nothing where it has more.
unfoldable pub only : List ℕ → Option (List ℕ)
only t = cond (eqb (length (trimmed (rest t))) 0) (Some (first t)) None

-- Where a character first stands in a text, and the text's length where it doesn't.
abbrev pub index_of : ℕ → List ℕ → ℕ
index_of b l = position_or_len (λ c. eqb c b) l

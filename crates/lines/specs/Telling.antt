-- A program that hears an input in pieces and puts out a text: what is true of the text, the state and the number of characters; and
-- what a run comes to.
use Rattle.std.specs.Prelude.{◌≡◌, ℕ, ◌+◌, ◌≤◌, List, [], ◌++◌, length}
use Rattle.std.specs.declared.option.Option.{Option}
use Rattle.std.specs.Io.KnownBytes.{Consumes, Appends}

pub record TellingLaws {S : Type 0} (text : S → List ℕ → List ℕ) (after : S → List ℕ → S) (ending : S → List ℕ) (most : ℕ → ℕ) (hears : S → ℕ → Type 0) : Type 0 where
  -- A cut changes neither the text nor the state.
  pub text_none : (s : S) → text s [] ≡ []
  pub after_none : (s : S) → after s [] ≡ s
  pub text_append : (s : S) (xs ys : List ℕ) → text s (xs ++ ys) ≡ text s xs ++ text (after s xs) ys
  pub after_append : (s : S) (xs ys : List ℕ) → after s (xs ++ ys) ≡ after (after s xs) ys
  -- Not more characters than this, of so many bytes or fewer, and at the end.
  pub text_most : (s : S) (xs : List ℕ) (n : ℕ) → length xs ≤ n → length (text s xs) ≤ most n
  pub ending_most : (s : S) (n : ℕ) → length (ending s) ≤ most n
  -- What can be counted at once can be counted in parts.
  pub hears_on : (s : S) (xs : List ℕ) (n : ℕ) → hears s (length xs + n) → hears (after s xs) n
  pub hears_fewer : (s : S) (m n : ℕ) → m ≤ n → hears s n → hears s m

-- Where the reader's bytes and the writer's are known: some have been heard, and behind what the writer held stands their text.
pub record Tells (text : List ℕ → List ℕ) (left₀ left held₀ held : Option (List ℕ)) : Type 0 where
  pub bytes : List ℕ
  pub heard : Consumes left₀ left bytes
  pub told : Appends held₀ held (text bytes)

-- A run's text: what stood in front, that of the bytes, and the ending.
abbrev pub run_text : {S : Type 0} → (S → List ℕ → List ℕ) → (S → List ℕ → S) → (S → List ℕ) → S → List ℕ → List ℕ → List ℕ
run_text text after ending start front bytes = front ++ (text start bytes ++ ending (after start bytes))

-- The debounce promise, for any length (document 01, "Bay moves"; document 02, request 5): what an input sees, what becomes of it, and
-- what is promised of that.
use Rattle.std.specs.Prelude.{ℕ, suc, ◌+◌, ◌<◌, ◌≡◌, ◌≢◌, Bool, true, not, ◌&&◌, List, [], ◌∷◌, ◌++◌}
use Rattle.bay.specs.Debounce.{differs, debounce, restart}

-- An input: its level as last sampled, its accepted level and its count.
pub record Line : Type 0 where
  pub level : Bool
  pub accepted : Bool
  pub count : ℕ

-- At rest: the level is the accepted one, and nothing is counted.
abbrev pub rest_line : Bool → Line
rest_line a = record { level = a; accepted = a; count = 0 }

-- Its level has differed from this accepted one for n ticks.
abbrev pub differing : Bool → ℕ → Line
differing a n = record { level = not a; accepted = a; count = n }

-- What it sees: a TICK, or a sample of its level.
pub data Seen : Type 0 where
  Tick : Seen
  Sample : Bool → Seen

-- What that makes of it, where a level is accepted at `length` ticks.
unfoldable pub sees : ℕ → Seen → Line → Line
sees length Tick i =
    let j = debounce length i.level i.accepted i.count in record { level = i.level; accepted = j.accepted; count = j.count }
sees length (Sample l) i = record { level = l; accepted = i.accepted; count = restart l i.accepted i.count }

unfoldable pub sees_all : ℕ → List Seen → Line → Line
sees_all length [] i = i
sees_all length (x ∷ xs) i = sees_all length xs (sees length x i)

-- ---- what can be said of what it sees

-- How many TICKs.
abbrev pub ticks_in : List Seen → ℕ
ticks_in [] = 0
ticks_in (Tick ∷ xs) = suc (ticks_in xs)
ticks_in (Sample l ∷ xs) = ticks_in xs

-- No sample agrees with this accepted level.
abbrev pub apart : Bool → List Seen → Bool
apart a [] = true
apart a (Tick ∷ xs) = apart a xs
apart a (Sample l ∷ xs) = differs l a && apart a xs

-- Somewhere a sample leaves this accepted level, and through `length` TICKs none comes back to it.
pub record Stretch (length : ℕ) (a : Bool) (xs : List Seen) : Type 0 where
  pub before : List Seen
  pub within : List Seen
  pub after : List Seen
  pub split : xs ≡ before ++ (Sample (not a) ∷ (within ++ after))
  pub none_back : apart a within ≡ true
  pub whole : ticks_in within ≡ length

-- ---- the promise

-- Of an input over a length: `run` tells it after each list of what happens, and `seen` what it sees of the list.
pub record Debounced (length : ℕ) {Event : Type 0} (seen : List Event → List Seen) (run : List Event → Line) : Type 0 where
  -- An input at rest stays so while no sample leaves its level, and one that does begins the count at 0.
  pub at_rest : (a : Bool) (xs : List Event) → run [] ≡ rest_line a → apart (not a) (seen xs) ≡ true → run xs ≡ rest_line a
  pub begins : (a : Bool) (xs : List Event) → run [] ≡ rest_line a → seen xs ≡ Sample (not a) ∷ [] → run xs ≡ differing a 0
  -- A level that differs from the accepted one, with no sample that agrees with that: before its `length` ticks are full the accepted
  -- level is the old one, and the count tells how many there were ..
  pub not_before :
      (a : Bool) (n : ℕ) (xs : List Event) → run [] ≡ differing a n → apart a (seen xs) ≡ true → n + ticks_in (seen xs) < length
      → run xs ≡ differing a (n + ticks_in (seen xs))
  -- .. and in the last of them it is accepted, and the count is 0.
  pub in_the_last :
      (a : Bool) (n : ℕ) (xs : List Event) → run [] ≡ differing a n → n < length → apart a (seen xs) ≡ true
      → n + ticks_in (seen xs) ≡ length → run xs ≡ rest_line (not a)
  -- One that returns in time is not accepted, and leaves nothing behind.
  pub returned :
      (a : Bool) (n : ℕ) (xs : List Event) (ys : List Seen) → run [] ≡ differing a n → seen xs ≡ ys ++ (Sample a ∷ [])
      → apart a ys ≡ true → n + ticks_in ys < length → run xs ≡ rest_line a
  -- From rest, and so after each level that was accepted, another is accepted only over a full length of its own.
  pub needs_its_own : (a : Bool) (xs : List Event) → run [] ≡ rest_line a → (run xs).accepted ≢ a → Stretch length a (seen xs)
  -- The count stays below the length.
  pub below : (xs : List Event) → (run []).count < length → (run xs).count < length

-- The promise of a byte that is written once (document 03, "Registers"): of any writes, to it and to others, the first to it stands.
use Rattle.std.specs.Prelude.{ℕ, ◌%◌, ◌≡◌, Bool, true, false, cond, ◌||◌, List, [], ◌∷◌, eqb}
use Rattle.second.specs.Once.{after_subsystem_write, form_factor_written, after_sfr_write}
use Rattle.second.specs.declared.Second.{Second}

-- A write of a byte of the subsystem words, of a bay's BAY_FF, or of SFR.
pub data Write : Type 0 where
  subsystem : ℕ → ℕ → Write
  form_factor : ℕ → ℕ → Write
  sfr : ℕ → Write

unfoldable pub written : Write → Second → Second
written (subsystem i v) s = after_subsystem_write i v s
written (form_factor i v) s = form_factor_written i v s
written (sfr v) s = after_sfr_write v s

unfoldable pub written_all : List Write → Second → Second
written_all [] s = s
written_all (w ∷ ws) s = written_all ws (written w s)

-- What a write is to one byte: for byte k of the subsystem words, for bay k's BAY_FF, for SFR; and what it gives it.
abbrev pub for_subsystem : ℕ → Write → Bool
for_subsystem k (subsystem i v) = eqb i k
for_subsystem k (form_factor i v) = false
for_subsystem k (sfr v) = false

abbrev pub for_form_factor : ℕ → Write → Bool
for_form_factor k (subsystem i v) = false
for_form_factor k (form_factor i v) = eqb i k
for_form_factor k (sfr v) = false

abbrev pub for_sfr : Write → Bool
for_sfr (subsystem i v) = false
for_sfr (form_factor i v) = false
for_sfr (sfr v) = true

abbrev pub given : Write → ℕ
given (subsystem i v) = v
given (form_factor i v) = v % 8
given (sfr v) = v

-- The first of some writes that is for it, and whether there is one.
abbrev pub first_of : (Write → Bool) → List Write → ℕ → ℕ
first_of mine [] other = other
first_of mine (w ∷ ws) other = cond (mine w) (given w) (first_of mine ws other)

abbrev pub any_of : (Write → Bool) → List Write → Bool
any_of mine [] = false
any_of mine (w ∷ ws) = mine w || any_of mine ws

-- The promise, of a byte: which writes are for it, what it holds and whether it is written.
pub record FirstStands (mine : Write → Bool) (holds : Second → ℕ) (taken : Second → Bool) : Type 0 where
  pub stands : (ws : List Write) (s : Second) → holds (written_all ws s) ≡ cond (taken s) (holds s) (first_of mine ws (holds s))
  pub marked : (ws : List Write) (s : Second) → taken (written_all ws s) ≡ (taken s || any_of mine ws)

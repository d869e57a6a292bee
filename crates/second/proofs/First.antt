-- Of any writes the first to a byte stands: by what one write makes of the byte, and by induction on the list. Assumes nothing.
use Prim.Native.Nat.{ℕ, zero, suc, ◌<◌}
use native.Mathlib.Omega.{arith}
use mathlib.Core.Path.{◌≡◌, refl, ◌∙◌}
use mathlib.Core.Bool.{Bool, true, false, cond, ◌||◌, or-true, or-false}
use mathlib.Core.List.{List, [], ◌∷◌}
use Rattle.second.specs.Record.{byte, flag}
use Rattle.second.specs.Once.{once, after_subsystem_write, form_factor_written, after_sfr_write}
use Rattle.second.specs.First.{Write, subsystem, form_factor, sfr, written, written_all, for_subsystem, for_form_factor, for_sfr, given, first_of, any_of, FirstStands}
use Rattle.second.specs.declared.Second.{Second}

-- A byte of which each write makes what it makes of a byte that is written once.
module _ (mine : Write → Bool) (holds : Second → ℕ) (taken : Second → Bool)
    (byte_step : (w : Write) (s : Second) → holds (written w s) ≡ once (mine w) (taken s) (holds s) (given w))
    (flag-step : (w : Write) (s : Second) → taken (written w s) ≡ (taken s || mine w)) where
  stands : (ws : List Write) (s : Second) → holds (written_all ws s) ≡ cond (taken s) (holds s) (first_of mine ws (holds s))
  unfolding written_all
  stands [] s = same (taken s)
    where
      same : (t : Bool) → holds s ≡ cond t (holds s) (holds s)
      same true = refl
      same false = refl
  stands (w ∷ ws) s = stands ws (written w s) ∙ rw (byte_step w s, flag-step w s) (go (taken s) (mine w))
    where
      go :
          (t u : Bool)
          → cond (t || u) (once u t (holds s) (given w)) (first_of mine ws (once u t (holds s) (given w)))
          ≡ cond t (holds s) (cond u (given w) (first_of mine ws (holds s)))
      go true true = refl
      go true false = refl
      go false true = refl
      go false false = refl

  marked : (ws : List Write) (s : Second) → taken (written_all ws s) ≡ (taken s || any_of mine ws)
  unfolding written_all
  marked [] s = same (taken s)
    where
      same : (t : Bool) → t ≡ (t || false)
      same true = refl
      same false = refl
  marked (w ∷ ws) s = marked ws (written w s) ∙ rw (flag-step w s) (go (taken s) (mine w))
    where
      go : (t u : Bool) → (t || u || any_of mine ws) ≡ (t || (u || any_of mine ws))
      go true u = refl
      go false u = refl

  first_stands : FirstStands mine holds taken
  first_stands = record { stands = stands; marked = marked }

-- ---- each of the seven bytes

subsystem_byte : (k : ℕ) → k < 4 → (w : Write) (s : Second) → byte (written w s).subsystem k ≡ once (for_subsystem k w) (flag s.subsystem_written k) (byte s.subsystem k) (given w)
unfolding written after_subsystem_write form_factor_written after_sfr_write
subsystem_byte zero l (subsystem i v) s = refl
subsystem_byte (suc zero) l (subsystem i v) s = refl
subsystem_byte (suc (suc zero)) l (subsystem i v) s = refl
subsystem_byte (suc (suc (suc zero))) l (subsystem i v) s = refl
subsystem_byte (suc (suc (suc (suc k)))) l (subsystem i v) s = absurd (omega arith)
subsystem_byte k l (form_factor i v) s = refl
subsystem_byte k l (sfr v) s = refl

subsystem_flag : (k : ℕ) → k < 4 → (w : Write) (s : Second) → flag (written w s).subsystem_written k ≡ (flag s.subsystem_written k || for_subsystem k w)
unfolding written after_subsystem_write form_factor_written after_sfr_write
subsystem_flag zero l (subsystem i v) s = refl
subsystem_flag (suc zero) l (subsystem i v) s = refl
subsystem_flag (suc (suc zero)) l (subsystem i v) s = refl
subsystem_flag (suc (suc (suc zero))) l (subsystem i v) s = refl
subsystem_flag (suc (suc (suc (suc k)))) l (subsystem i v) s = absurd (omega arith)
subsystem_flag k l (form_factor i v) s = rw or-false
subsystem_flag k l (sfr v) s = rw or-false

-- 08h to 0Bh ..
pub subsystem_first : (k : ℕ) → k < 4 → FirstStands (for_subsystem k) (λ s. byte s.subsystem k) (λ s. flag s.subsystem_written k)
subsystem_first k l = first_stands _ _ _ (subsystem_byte k l) (subsystem_flag k l)

factor_byte : (k : ℕ) → k < 2 → (w : Write) (s : Second) → byte (written w s).form_factors k ≡ once (for_form_factor k w) (flag s.form_factors_written k) (byte s.form_factors k) (given w)
unfolding written after_subsystem_write form_factor_written after_sfr_write
factor_byte zero l (form_factor i v) s = refl
factor_byte (suc zero) l (form_factor i v) s = refl
factor_byte (suc (suc k)) l (form_factor i v) s = absurd (omega arith)
factor_byte k l (subsystem i v) s = refl
factor_byte k l (sfr v) s = refl

factor_flag : (k : ℕ) → k < 2 → (w : Write) (s : Second) → flag (written w s).form_factors_written k ≡ (flag s.form_factors_written k || for_form_factor k w)
unfolding written after_subsystem_write form_factor_written after_sfr_write
factor_flag zero l (form_factor i v) s = refl
factor_flag (suc zero) l (form_factor i v) s = refl
factor_flag (suc (suc k)) l (form_factor i v) s = absurd (omega arith)
factor_flag k l (subsystem i v) s = rw or-false
factor_flag k l (sfr v) s = rw or-false

-- .. 15h and 21h ..
pub form_factor_first : (k : ℕ) → k < 2 → FirstStands (for_form_factor k) (λ s. byte s.form_factors k) (λ s. flag s.form_factors_written k)
form_factor_first k l = first_stands _ _ _ (factor_byte k l) (factor_flag k l)

sfr_byte : (w : Write) (s : Second) → (written w s).sfr ≡ once (for_sfr w) s.sfr_written s.sfr (given w)
unfolding written after_subsystem_write form_factor_written after_sfr_write
sfr_byte (subsystem i v) s = refl
sfr_byte (form_factor i v) s = refl
sfr_byte (sfr v) s = refl

sfr_flag : (w : Write) (s : Second) → (written w s).sfr_written ≡ (s.sfr_written || for_sfr w)
unfolding written after_subsystem_write form_factor_written after_sfr_write
sfr_flag (subsystem i v) s = rw or-false
sfr_flag (form_factor i v) s = rw or-false
sfr_flag (sfr v) s = rw or-true

-- .. and FCh.
pub sfr_first : FirstStands for_sfr (λ s. s.sfr) (λ s. s.sfr_written)
sfr_first = first_stands _ _ _ sfr_byte sfr_flag

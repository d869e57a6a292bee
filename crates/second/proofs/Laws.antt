-- What a RESET leaves of the second kind's own registers, that they stay fit, and what SFR means bit by bit (document 03, "Registers"
-- and "State"). Assumes nothing.
use Prim.Native.Nat.{ℕ, zero, suc, ◌+◌, ◌*◌, ◌/◌, ◌%◌, ◌≤◌, ◌<◌}
use native.Mathlib.Omega.{arith}
use mathlib.Core.Path.{◌≡◌, refl}
use mathlib.Core.Logic.{◌↔◌}
use mathlib.Core.Bool.{Bool, true, false, not, cond, ◌&&◌, and-eq-true_iff}
use mathlib.Core.List.{[], ◌∷◌, map}
use lib.Dec.{eqb, leb}
use borrow.Author.Tests.{leb-true, le-leb, ltb-true, lt-ltb, eq-eqb, ne_eqb}
use Rattle.bits.specs.Bits.{put}
use Rattle.second.specs.Record.{byte, flag, fresh, reset, fits}
use Rattle.second.specs.Once.{after_subsystem_write, form_factor_written, after_sfr_write}
use Rattle.second.specs.Sfr.{ito, sol, spd, wait_ticks_of, pulsed, pulse_ticks_of}
use Rattle.second.specs.First.{Write, subsystem, form_factor, sfr, written}
use Rattle.second.specs.declared.Second.{Second}

-- ---- RESET

-- 08h-0Bh stay and can be written again; SFR is 0 and can be too; BAY_FF and whether it is written stay.
pub record Resets (before after : Second) : Type 0 where
  pub subsystem_kept : after.subsystem ≡ before.subsystem
  pub subsystem_free : (k : ℕ) → flag after.subsystem_written k ≡ false
  pub sfr_cleared : (after.sfr ≡ 0) × (after.sfr_written ≡ false)
  pub factors_kept : (after.form_factors ≡ before.form_factors) × (after.form_factors_written ≡ before.form_factors_written)

free : (k : ℕ) → flag (false ∷ false ∷ false ∷ false ∷ []) k ≡ false
free zero = refl
free (suc zero) = refl
free (suc (suc zero)) = refl
free (suc (suc (suc zero))) = refl
free (suc (suc (suc (suc k)))) = refl

pub resets : (s : Second) → Resets s (reset s)
unfolding reset
resets s = record { subsystem_kept = refl; subsystem_free = free; sfr_cleared = (refl, refl); factors_kept = (refl, refl) }

-- ---- fit

-- BAY_FF is 0-7, in both bays.
pub fit_parts : (s : Second) → (fits s ≡ true) ↔ ((byte s.form_factors 0 ≤ 7) × (byte s.form_factors 1 ≤ 7))
unfolding fits
fit_parts s = (
  λ h. let both = (and-eq-true_iff (leb (byte s.form_factors 0) 7) (leb (byte s.form_factors 1) 7)).0 h in (leb-true _ _ both.0, leb-true _ _ both.1),
  λ h. rw (le-leb _ _ h.0, le-leb _ _ h.1),
)

pub fresh_fit : fits fresh ≡ true
unfolding fits fresh
fresh_fit = refl

pub reset_fit : (s : Second) → fits s ≡ true → fits (reset s) ≡ true
unfolding fits reset
reset_fit s h = h

-- Three bits are stored of a byte.
stored : (t : Bool) (v n : ℕ) → n ≤ 7 → v ≤ 7 → cond t v n ≤ 7
stored true v n h l = l
stored false v n h l = h

pub written_fit : (w : Write) (s : Second) → fits s ≡ true → fits (written w s) ≡ true
unfolding written after_subsystem_write form_factor_written after_sfr_write
written_fit (subsystem i v) s h = (fit_parts (written (subsystem i v) s)).1 ((fit_parts s).0 h)
written_fit (form_factor i v) s h =
    let both = (fit_parts s).0 h in
    (fit_parts (written (form_factor i v) s)).1 (
      stored (eqb i 0 && not (flag s.form_factors_written 0)) _ _ both.0 (omega arith),
      stored (eqb i 1 && not (flag s.form_factors_written 1)) _ _ both.1 (omega arith),
    )
written_fit (sfr v) s h = (fit_parts (written (sfr v) s)).1 ((fit_parts s).0 h)

-- ---- SFR

-- Bits 7-5, 4-1 and 0 of the byte that it holds.
pub record Fields (i n : ℕ) (p : Bool) (s : Second) : Type 0 where
  pub bits_7_5 : ito s ≡ i
  pub bits_4_1 : sol s ≡ n
  pub bit_0 : spd s ≡ p

pub sfr_fields : (i n : ℕ) (p : Bool) (s : Second) → i < 8 → n < 16 → s.sfr ≡ i * 32 + n * 2 + put 0 p → Fields i n p s
sfr_fields i n true s l m e = record { bits_7_5 = omega (arith, e); bits_4_1 = omega (arith, e); bit_0 = rw e (eq-eqb ((i * 32 + n * 2 + 1) / 1 % 2) 1 (omega arith)) }
sfr_fields i n false s l m e = record { bits_7_5 = omega (arith, e); bits_4_1 = omega (arith, e); bit_0 = rw e (ne_eqb ((i * 32 + n * 2 + 0) / 1 % 2) 1 (λ q. omega (arith, q))) }

-- A record with this SFR.
abbrev holding : ℕ → Second
holding v =
    record {
      subsystem = [];
      subsystem_written = [];
      form_factors = [];
      form_factors_written = [];
      sfr = v;
      sfr_written = true;
    }

-- The ticks of a wait for ITO 0 to 7, and of a pulse for SOL 0 to 15 with SPD 0 and with SPD 1.
pub waits : map (λ i. wait_ticks_of (holding (i * 32))) (0 ∷ 1 ∷ 2 ∷ 3 ∷ 4 ∷ 5 ∷ 6 ∷ 7 ∷ []) ≡ 0 ∷ 80 ∷ 160 ∷ 240 ∷ 320 ∷ 400 ∷ 480 ∷ 560 ∷ []
unfolding wait_ticks_of
waits = refl

pub short_pulses :
    map (λ n. pulse_ticks_of (holding (n * 2))) (0 ∷ 1 ∷ 2 ∷ 3 ∷ 4 ∷ 5 ∷ 6 ∷ 7 ∷ 8 ∷ 9 ∷ 10 ∷ 11 ∷ 12 ∷ 13 ∷ 14 ∷ 15 ∷ [])
    ≡ 0 ∷ 5 ∷ 10 ∷ 15 ∷ 20 ∷ 25 ∷ 30 ∷ 35 ∷ 40 ∷ 45 ∷ 50 ∷ 55 ∷ 60 ∷ 65 ∷ 70 ∷ 75 ∷ []
unfolding pulse_ticks_of
short_pulses = refl

pub long_pulses :
    map (λ n. pulse_ticks_of (holding (n * 2 + 1))) (0 ∷ 1 ∷ 2 ∷ 3 ∷ 4 ∷ 5 ∷ 6 ∷ 7 ∷ 8 ∷ 9 ∷ 10 ∷ 11 ∷ 12 ∷ 13 ∷ 14 ∷ 15 ∷ [])
    ≡ 0 ∷ 80 ∷ 160 ∷ 240 ∷ 320 ∷ 400 ∷ 480 ∷ 560 ∷ 640 ∷ 720 ∷ 800 ∷ 880 ∷ 960 ∷ 1040 ∷ 1120 ∷ 1200 ∷ []
unfolding pulse_ticks_of
long_pulses = refl

-- They depend on these fields alone.
pub wait_by : (s t : Second) → ito s ≡ ito t → wait_ticks_of s ≡ wait_ticks_of t
unfolding wait_ticks_of
wait_by s t e = rw e

pub pulse_by : (s t : Second) → sol s ≡ sol t → spd s ≡ spd t → pulse_ticks_of s ≡ pulse_ticks_of t
unfolding pulse_ticks_of
pulse_by s t e f = rw (e, f)

-- The lock is pulsed exactly where SOL is above 0.
pub pulsed_by : (s : Second) → (pulsed s ≡ true) ↔ (0 < sol s)
unfolding pulsed
pulsed_by s = (ltb-true 0 (sol s), lt-ltb 0 (sol s))

-- So a wait has 560 ticks at most, and a pulse 1200.
pub most_wait_lem : (s : Second) → wait_ticks_of s ≤ 560
unfolding wait_ticks_of
most_wait_lem s = omega arith

pub most_pulse_lem : (s : Second) → pulse_ticks_of s ≤ 1200
unfolding pulse_ticks_of
most_pulse_lem s = go (spd s)
  where
    go : (t : Bool) → sol s * cond t 80 5 ≤ 1200
    go true = omega arith
    go false = omega arith

-- Each input of a bay is debounced, presence over 10 ticks and the removal request over 5: whatever happens to the bay, an input goes as
-- one that sees its own part of it. By cases on what happens and on the input. Assumes nothing.
use Prim.Native.Nat.{ℕ, zero, suc, ◌-◌, ◌<◌}
use native.Mathlib.Omega.{arith}
use mathlib.Core.Path.{◌≡◌, refl, ◌∙◌}
use mathlib.Core.Bool.{Bool, true}
use mathlib.Core.List.{List, [], ◌∷◌, ◌++◌}
use Rattle.bits.specs.Bits.{bit}
use Rattle.bay.specs.Record.{ticks_for, level, accepted_level, empty_bay, reset_bay}
use Rattle.bay.specs.Debounce.{sampled_bay}
use Rattle.bay.specs.Debounced.{Tick, rest_line, sees, sees_all, Debounced}
use Rattle.bay.specs.Moves.{moved_to, moved_bay, ticked_bay}
use Rattle.bay.specs.Registers.{bstr_written, controlled_bay, unlocked_bay}
use Rattle.bay.specs.Sound.{Sound}
use Rattle.bay.specs.Happens.{Happens, tick, pins, bstr, bcer, unlock, happens, happens_all, line, seen_of, seen}
use Rattle.bay.specs.declared.Bay.{Bay}
use Rattle.bay.specs.declared.Setting.{Setting}
use Rattle.bay.proofs.Debounced.{sees_more, debounced_as}

-- What happens in two lists, one after the other.
pub happens_more : (hides : Bool) (xs ys : List Happens) (b : Bay) → happens_all hides (xs ++ ys) b ≡ happens_all hides ys (happens_all hides xs b)
unfolding happens_all
happens_more hides [] ys b = refl
happens_more hides (x ∷ xs) ys b = happens_more hides xs ys (happens hides x b)

-- What an input sees of what happens is what becomes of it.
pub input_sees : (hides : Bool) (x : Happens) (b : Bay) (i : ℕ) → i < 3 → line (happens hides x b) i ≡ sees_all (ticks_for i) (seen_of i x) (line b i)
unfolding happens sees_all sees ticked_bay moved_bay moved_to sampled_bay bstr_written controlled_bay unlocked_bay
input_sees hides (tick s) b zero l = refl
input_sees hides (tick s) b (suc zero) l = refl
input_sees hides (tick s) b (suc (suc zero)) l = refl
input_sees hides (tick s) b (suc (suc (suc i))) l = absurd (omega arith)
input_sees hides (pins levels) b zero l = refl
input_sees hides (pins levels) b (suc zero) l = refl
input_sees hides (pins levels) b (suc (suc zero)) l = refl
input_sees hides (pins levels) b (suc (suc (suc i))) l = absurd (omega arith)
input_sees hides (bstr v) b i l = refl
input_sees hides (bcer c s) b i l = refl
input_sees hides unlock b i l = refl

follows : (hides : Bool) (xs : List Happens) (b : Bay) (i : ℕ) → i < 3 → line (happens_all hides xs b) i ≡ sees_all (ticks_for i) (seen i xs) (line b i)
unfolding happens_all sees_all
follows hides [] b i l = refl
follows hides (x ∷ xs) b i l =
    follows hides xs (happens hides x b) i l ∙ rw (input_sees hides x b i l, ← (sees_more (ticks_for i) (seen_of i x) (seen i xs) (line b i)))

above_0 : (i : ℕ) → i < 3 → 0 < ticks_for i
above_0 zero l = omega arith
above_0 (suc zero) l = omega arith
above_0 (suc (suc zero)) l = omega arith
above_0 (suc (suc (suc i))) l = absurd (omega arith)

-- The promise, of each input over its length ..
pub bay_debounced : (hides : Bool) (b : Bay) (i : ℕ) → i < 3 → Debounced (ticks_for i) (seen i) (λ xs. line (happens_all hides xs b) i)
unfolding happens_all
bay_debounced hides b i l = debounced_as (ticks_for i) (above_0 i l) (seen i) (λ xs. line (happens_all hides xs b) i) (λ xs. follows hides xs b i l)

-- .. which is 10 ticks for presence and 5 for the removal request.
pub presence_debounced : (hides : Bool) (b : Bay) (i : ℕ) → i < 2 → Debounced 10 (seen i) (λ xs. line (happens_all hides xs b) i)
presence_debounced hides b zero l = bay_debounced hides b 0 (omega arith)
presence_debounced hides b (suc zero) l = bay_debounced hides b 1 (omega arith)
presence_debounced hides b (suc (suc i)) l = absurd (omega arith)

pub button_debounced : (hides : Bool) (b : Bay) → Debounced 5 (seen 2) (λ xs. line (happens_all hides xs b) 2)
button_debounced hides b = bay_debounced hides b 2 (omega arith)

-- ---- where it begins

-- RESET leaves each input at rest at the level given, and the closing of the bay at 1.
pub reset_line_lem : (levels : ℕ) (lock : Bool) (i : ℕ) → i < 3 → line (reset_bay levels lock) i ≡ rest_line (bit (3 - i) levels)
unfolding reset_bay
reset_line_lem levels lock zero l = refl
reset_line_lem levels lock (suc zero) l = refl
reset_line_lem levels lock (suc (suc zero)) l = refl
reset_line_lem levels lock (suc (suc (suc i))) l = absurd (omega arith)

pub empty_line : (i : ℕ) → i < 3 → line empty_bay i ≡ rest_line true
unfolding empty_bay
empty_line zero l = refl
empty_line (suc zero) l = refl
empty_line (suc (suc zero)) l = refl
empty_line (suc (suc (suc i))) l = absurd (omega arith)

-- In a sound bay an input whose level is the accepted one is at rest: ticks before that don't count.
pub resting : (hides : Bool) (b : Bay) (i : ℕ) → Sound hides b → level b i ≡ accepted_level b i → line b i ≡ rest_line (accepted_level b i)
resting hides b i s e = rw (e, s.still i e)

-- A TICK makes of it what it makes of an input.
pub ticked_line : (hides : Bool) (s : Setting) (b : Bay) (i : ℕ) → i < 3 → line (ticked_bay hides s b) i ≡ sees (ticks_for i) Tick (line b i)
unfolding happens sees_all
ticked_line hides s b i l = input_sees hides (tick s) b i l

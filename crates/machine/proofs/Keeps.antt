-- An act that leaves the outputs as they were does so. Assumes nothing.
use Prim.Native.Nat.{ℕ, ◌/◌, ◌%◌}
use mathlib.Core.Path.{◌≡◌, refl, sym}
use mathlib.Core.Bool.{Bool, true, false, cond, beq, and-eq-true_iff, true≢false}
use mathlib.Core.List.{[], ◌∷◌}
use Rattle.bay.specs.declared.Bay.{Bay}
use Rattle.bay.specs.declared.Setting.{Setting}
use Rattle.bay.specs.Debounce.{sampled_bay}
use Rattle.bay.specs.Moves.{ticked_bay, rests}
use Rattle.bay.specs.Outputs.{bay_outputs, lock_pin, green, yellow, interrupts}
use Rattle.bay.proofs.Taut.{pick}
use Rattle.bay.proofs.Ticks.{rested}
use Rattle.machine.specs.Record.{bay_at, bay_in, is_open, open_by, become}
use Rattle.machine.specs.Setting.{hides, setting_of, first_setting, is_lit, second_setting}
use Rattle.machine.specs.Outputs.{nibble, wants, outputs}
use Rattle.machine.specs.Acts.{sampled_at, ticked_at, pins_to, tick_to, next_phase, does, restful, keeps_lit, keeps, name_to}
use Rattle.machine.specs.declared.Machine.{Machine}
use Rattle.machine.specs.declared.Act.{Act}
use Rattle.machine.specs.declared.Act.TheVariants.{Write, Read, Pins, Tick, Reset, Name}
use Rattle.kind.specs.declared.Kind.{Kind}

-- Two bays that drive the same.
record Alike (b c : Bay) : Type 0 where
  pub drives : (hides : Bool) (s : Setting) (lit : Bool) → bay_outputs hides s lit c ≡ bay_outputs hides s lit b
  pub asks : interrupts c ≡ interrupts b

sampled_alike : (levels : ℕ) (b : Bay) → Alike b (sampled_bay levels b)
unfolding sampled_bay bay_outputs lock_pin green yellow interrupts
sampled_alike levels b = record { drives = λ hides s lit. refl; asks = refl }

rested_alike : (hides : Bool) (s : Setting) (b : Bay) → rests b ≡ true → Alike b (ticked_bay hides s b)
unfolding bay_outputs lock_pin green yellow interrupts
rested_alike hides s b e = record { drives = λ hides' s' lit. rw (rested hides s b e); asks = rw (rested hides s b e) }

-- A bay that a TICK leaves as it is, open or closed.
pub unmoved : (m : Machine) (i : ℕ) → ticked_bay (hides m) (setting_of m) (bay_at m i) ≡ bay_at m i → ticked_at m i ≡ bay_at m i
unfolding ticked_at
unmoved m i e = pick (λ b. b ≡ bay_at m i) (is_open m i) (λ o. e) (λ o. refl)

-- A machine whose bays drive the same, with the lamps lit as before, has the same outputs.
same_outputs :
    (m : Machine) (phase : ℕ) (b c : Bay) → is_lit m.kind m.phase ≡ is_lit m.kind phase → Alike (bay_at m 0) b → Alike (bay_at m 1) c
    → outputs (become m.shared phase (b ∷ c ∷ []) m) ≡ outputs m
unfolding outputs nibble wants bay_in open_by hides setting_of first_setting second_setting
same_outputs m phase b c lit p q = rw (← lit, p.drives, p.asks, q.drives, q.asks)

-- A bay that may be passed by.
passed_by : (m : Machine) (i : ℕ) (b : Bay) → Alike (bay_at m i) b → Alike (bay_at m i) (cond (is_open m i) b (bay_at m i))
passed_by m i b p = pick (Alike (bay_at m i)) (is_open m i) (λ e. p) (λ e. record { drives = λ hides s lit. refl; asks = refl })

-- A name changes no output.
same_outputs_named : (k : Kind) (m : Machine) → outputs (name_to k m) ≡ outputs m
unfolding name_to outputs nibble wants hides setting_of first_setting second_setting
same_outputs_named k m = refl

pub kept_outputs : (a : Act) (m : Machine) → keeps a m ≡ true → outputs (does a m) ≡ outputs m
unfolding does keeps pins_to tick_to sampled_at ticked_at restful
kept_outputs (Write a v) m e = absurd (true≢false (sym e))
kept_outputs (Read a) m e = refl
kept_outputs (Pins levels) m e =
    same_outputs m m.phase (sampled_at m 0 (levels / 16)) (sampled_at m 1 (levels % 16)) refl
    (passed_by m 0 (sampled_bay (levels / 16) (bay_at m 0)) (sampled_alike (levels / 16) (bay_at m 0)))
    (passed_by m 1 (sampled_bay (levels % 16) (bay_at m 1)) (sampled_alike (levels % 16) (bay_at m 1)))
kept_outputs Tick m e =
    let both = (and-eq-true_iff (restful m.bays) (keeps_lit m.kind m.phase)).0 e in
    let rest = (and-eq-true_iff (rests (bay_at m 0)) (rests (bay_at m 1))).0 both.0 in
    same_outputs m (next_phase m.phase) (ticked_at m 0) (ticked_at m 1) (beq_true (is_lit m.kind m.phase) (is_lit m.kind (next_phase m.phase)) both.1)
    (passed_by m 0 (ticked_bay (hides m) (setting_of m) (bay_at m 0)) (rested_alike (hides m) (setting_of m) (bay_at m 0) rest.0))
    (passed_by m 1 (ticked_bay (hides m) (setting_of m) (bay_at m 1)) (rested_alike (hides m) (setting_of m) (bay_at m 1) rest.1))
  where
    beq_true : (x y : Bool) → beq x y ≡ true → x ≡ y
    beq_true true true q = refl
    beq_true true false q = absurd (true≢false (sym q))
    beq_true false true q = absurd (true≢false (sym q))
    beq_true false false q = refl
kept_outputs (Reset straps levels short) m e = absurd (true≢false (sym e))
kept_outputs (Name k) m e = same_outputs_named k m

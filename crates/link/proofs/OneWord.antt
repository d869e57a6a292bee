-- A step is a batch of one word. Assumes nothing.
use Prim.Native.Nat.{ℕ}
use native.Mathlib.Omega.{arith}
use mathlib.Core.Path.{◌≡◌, refl, ap, sym, ◌∙◌}
use mathlib.Core.Bool.{Bool, true, false, cond}
use mathlib.Core.List.{List, [], ◌∷◌}
use Rattle.machine.specs.Record.{fits}
use Rattle.dock.specs.Step.{step_of}
use Rattle.dock.specs.Run.{answers_to}
use Rattle.batch.specs.Batch.{outcome_of, batch_of, buffer_after}
use Rattle.calls.specs.Numbers.{outcome_refusal}
use Rattle.batch.specs.Record.{record_of, records_of}
use Rattle.batch.proofs.Theorems.{one_word}
use Rattle.image.specs.Save.{saved}
use Rattle.image.specs.Load.{is_image, state_in}
use Rattle.link.specs.Held.{answer_in, stepped_in, outcome_in, batched_in, records_in}
use Rattle.dock.specs.declared.Refusal.TheVariants.{Unfit}
use Rattle.std.specs.Prelude.{Err, Ok}
use Rattle.calls.specs.Numbers.{Outcome}
use Rattle.calls.specs.declared.Refusal.TheVariants.{Unfit as UnfitHeld}

module _ (bytes : List ℕ) (w : ℕ) where
  pub one_state : batched_in bytes (w ∷ []) 4 ≡ stepped_in bytes w
  unfolding batched_in stepped_in batch_of
  one_state = ap (λ t. cond (is_image bytes) (saved t) bytes) (one_word (state_in bytes) w)

  -- A batch of one word with room for its record is refused only where there is no image of a fit state.
  outcome_is : outcome_in bytes 1 4 ≡ cond (is_image bytes) (cond (fits (state_in bytes).machine) (Ok 1) (Err UnfitHeld)) (Err UnfitHeld)
  unfolding outcome_in outcome_of
  outcome_is = refl

  pub one_refused : (o : Outcome) → o ≡ outcome_in bytes 1 4 → ((n : ℕ) → o ≡ Ok n → ⊥) → answer_in bytes w ≡ Err Unfit
  unfolding answer_in step_of
  one_refused o e h = go (is_image bytes) (fits (state_in bytes).machine) refl (e ∙ outcome_is)
    where
      go : (i f : Bool) → fits (state_in bytes).machine ≡ f → o ≡ cond i (cond f (Ok 1) (Err UnfitHeld)) (Err UnfitHeld) → cond i (step_of (state_in bytes) w).answer (Err Unfit) ≡ Err Unfit
      go true true f e = absurd (h 1 e)
      go true false f e = rw f refl
      go false f g e = refl

  pub one_record : (n : ℕ) → outcome_in bytes 1 4 ≡ Ok n → records_in bytes (w ∷ []) (0 ∷ 0 ∷ 0 ∷ 0 ∷ []) ≡ record_of (answer_in bytes w)
  unfolding records_in answer_in buffer_after outcome_of answers_to records_of record_of
  one_record n e = go (is_image bytes) (fits (state_in bytes).machine) refl (sym outcome_is ∙ e)
    where
      go :
          (i f : Bool) → fits (state_in bytes).machine ≡ f → cond i (cond f (Ok 1) (Err UnfitHeld)) (Err UnfitHeld) ≡ Ok n
          → cond i (buffer_after (state_in bytes) (w ∷ []) (0 ∷ 0 ∷ 0 ∷ 0 ∷ [])) (0 ∷ 0 ∷ 0 ∷ 0 ∷ []) ≡ record_of (cond i (step_of (state_in bytes) w).answer (Err Unfit))
      go true true f e = rw f refl
      go true false f e = absurd (omega (arith, ap outcome_refusal e))
      go false f g e = absurd (omega (arith, ap outcome_refusal e))

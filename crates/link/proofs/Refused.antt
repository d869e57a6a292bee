-- The calls on a state held: which bytes are refused with 1, and that a refused call leaves every byte as it came. Assumes nothing.
use Prim.Native.Nat.{ℕ, ◌*◌}
use native.Mathlib.Omega.{arith}
use mathlib.Core.Path.{◌≡◌, refl, ap, ◌∙◌}
use mathlib.Core.Logic.{◌↔◌, ◌≢◌}
use mathlib.Core.Bool.{Bool, true, false, cond, ◌&&◌, true≢false}
use mathlib.Core.List.{List}
use lib.Dec.{eqb}
use lib.ListN.{length}
use borrow.Author.Tests.{eqb-true, eqb-false, eq-eqb, ne_eqb}
use Rattle.machine.specs.Record.{fits}
use Rattle.dock.specs.Record.{fresh_controller}
use Rattle.dock.specs.Step.{step_of, told_reading, told_outputs}
use Rattle.dock.specs.Answers.{refusal_of, told_refusal}
use Rattle.dock.specs.Held.{held_refusal, told_held}
use Rattle.dock.proofs.Refusals.{refused_unchanged, exactly, Answers, reading_told, outputs_told}
use Rattle.dock.proofs.OpenRead.{held_refused}
use Rattle.batch.specs.Batch.{outcome_of, buffer_after}
use Rattle.calls.specs.Numbers.{outcome_refusal, outcome_count}
use Rattle.batch.proofs.Accepted.{refused_untouched, exactly as batch_exactly}
use Rattle.image.specs.Save.{saved}
use Rattle.image.specs.Load.{is_image, state_in}
use Rattle.image.specs.Shape.{Octets}
use Rattle.image.proofs.Whole.{image_whole}
use Rattle.image.proofs.RoundTrip.{saved_loaded}
use Rattle.link.specs.Answer.{both}
use Rattle.link.specs.Held.{begun, begun_in, answer_in, stepped_in, outcome_in, batched_in, records_in, reading_in, outputs_in, held_in}
use Rattle.dock.specs.declared.Refusal.TheVariants.{Unfit}
use Rattle.dock.specs.declared.Refusal.{Refusal}
use Rattle.std.specs.Prelude.{Err, Result}
use Rattle.calls.specs.declared.Refusal.TheVariants.{Unfit}

-- A state is begun exactly where its length is an image's; else the answer is refusal 1.
pub begin_exactly : (n : ℕ) → ((begun n ≡ 0) ↔ (n ≡ 74)) × ((begun n ≡ 1 * 65536) ↔ (n ≢ 74))
unfolding begun
begin_exactly n = go (eqb n 74) refl
  where
    go : (b : Bool) → eqb n 74 ≡ b → ((cond b (both 0 0) (both 1 0) ≡ 0) ↔ (n ≡ 74)) × ((cond b (both 0 0) (both 1 0) ≡ 1 * 65536) ↔ (n ≢ 74))
    go true e = ((λ h. eqb-true n 74 e, λ h. refl), (λ h. absurd (omega (arith, h)), λ h. absurd (h (eqb-true n 74 e))))
    go false e = ((λ h. absurd (omega (arith, h)), λ h. absurd (eqb-false n 74 e h)), (λ h. eqb-false n 74 e, λ h. refl))

-- Only then are the bytes written: they are the image of a fresh controller; else they are as they came.
pub begin_writes : (bytes : List ℕ) → (length bytes ≡ 74 → begun_in bytes ≡ saved fresh_controller) × (length bytes ≢ 74 → begun_in bytes ≡ bytes)
unfolding begun_in
begin_writes bytes = (λ h. rw (eq-eqb _ 74 h) refl, λ h. rw (ne_eqb _ 74 h) refl)

module _ (bytes : List ℕ) where
  -- What holds of bytes that are an image, and of any others, holds of all.
  by_image : (P : Bool → Type 0) → (is_image bytes ≡ true → P true) → (is_image bytes ≡ false → P false) → P (is_image bytes)
  by_image P t f = go (is_image bytes) refl
    where
      go : (b : Bool) → is_image bytes ≡ b → P b
      go true e = t e
      go false e = f e

  -- ---- a refused call leaves every byte as it came

  pub step_untouched : Octets bytes → (w : ℕ) → refusal_of (answer_in bytes w) ≢ 0 → stepped_in bytes w ≡ bytes
  unfolding answer_in stepped_in
  step_untouched o w =
      by_image
      (λ b. refusal_of (cond b (step_of (state_in bytes) w).answer (Err Unfit)) ≢ 0 → cond b (saved (step_of (state_in bytes) w).controller) bytes ≡ bytes)
      (λ i n. ap saved (refused_unchanged (state_in bytes) w n) ∙ saved_loaded bytes o (image_whole bytes i))
      (λ i n. refl)

  pub record Untouched (ws buffer : List ℕ) : Type 0 where
    pub state : batched_in bytes ws (length buffer) ≡ bytes
    pub records : records_in bytes ws buffer ≡ buffer
    pub count : outcome_count (outcome_in bytes (length ws) (length buffer)) ≡ 0

  pub batch_untouched : Octets bytes → (ws buffer : List ℕ) → outcome_refusal (outcome_in bytes (length ws) (length buffer)) ≢ 0 → Untouched ws buffer
  unfolding outcome_in batched_in records_in buffer_after
  batch_untouched o ws buffer n = go (is_image bytes) refl
    where
      go : (b : Bool) → is_image bytes ≡ b → Untouched ws buffer
      go true e =
          let u = refused_untouched (outcome_of (state_in bytes) (length ws) (length buffer)) (state_in bytes) ws buffer (rw e at n) in
          record {
            state = rw e (ap saved u.state ∙ saved_loaded bytes o (image_whole bytes e));
            records = rw e u.bytes;
            count = rw e u.count;
          }
      go false e = record { state = rw e refl; records = rw e refl; count = rw e refl }

  -- ---- refusal 1 exactly where the bytes are no image of a fit state

  -- Bytes that every call takes as a state.
  abbrev pub usable : Bool
  usable = is_image bytes && fits (state_in bytes).machine

  pub record One : Type 0 where
    pub by_step : (w : ℕ) → (refusal_of (answer_in bytes w) ≡ 1) ↔ (usable ≡ false)
    pub by_batch : (words room : ℕ) → (outcome_refusal (outcome_in bytes words room) ≡ 1) ↔ (usable ≡ false)
    pub by_reading : (a : ℕ) → (told_refusal (reading_in bytes a) ≡ 1) ↔ (usable ≡ false)
    pub by_outputs : (told_refusal (outputs_in bytes) ≡ 1) ↔ (usable ≡ false)
    pub by_held_byte : (held_refusal (held_in bytes) ≡ 1) ↔ (usable ≡ false)

  told_exactly : (t : Result ℕ Refusal) (v : ℕ) → Answers (state_in bytes) t v → (told_refusal t ≡ 1) ↔ (fits (state_in bytes).machine ≡ false)
  told_exactly t v a = go (fits (state_in bytes).machine) refl
    where
      go : (f : Bool) → fits (state_in bytes).machine ≡ f → (told_refusal t ≡ 1) ↔ (f ≡ false)
      go true e = (λ n. absurd (omega (arith, n, (a.told e).0)), λ f. absurd (true≢false f))
      go false e = (λ n. refl, λ f. (a.refused_1 e).0)

  pub refused_with_1 : One
  unfolding answer_in outcome_in reading_in outputs_in held_in
  refused_with_1 =
      record {
        by_step =
            λ w.
            by_image (λ b. (refusal_of (cond b (step_of (state_in bytes) w).answer (Err Unfit)) ≡ 1) ↔ ((b && fits (state_in bytes).machine) ≡ false))
            (λ i. (exactly (state_in bytes) w).one) (λ i. (λ e. refl, λ e. refl));
        by_batch =
            λ words room.
            by_image (λ b. (outcome_refusal (cond b (outcome_of (state_in bytes) words room) (Err Unfit)) ≡ 1) ↔ ((b && fits (state_in bytes).machine) ≡ false))
            (λ i. (batch_exactly (state_in bytes) words room).one) (λ i. (λ e. refl, λ e. refl));
        by_reading =
            λ a.
            by_image (λ b. (told_refusal (cond b (told_reading (state_in bytes) a) (Err Unfit)) ≡ 1) ↔ ((b && fits (state_in bytes).machine) ≡ false))
            (λ i. told_exactly _ _ (reading_told (state_in bytes) a)) (λ i. (λ e. refl, λ e. refl));
        by_outputs =
            by_image (λ b. (told_refusal (cond b (told_outputs (state_in bytes)) (Err Unfit)) ≡ 1) ↔ ((b && fits (state_in bytes).machine) ≡ false))
            (λ i. told_exactly _ _ (outputs_told (state_in bytes))) (λ i. (λ e. refl, λ e. refl));
        by_held_byte =
            by_image (λ b. (held_refusal (cond b (told_held (state_in bytes)) (Err Unfit)) ≡ 1) ↔ ((b && fits (state_in bytes).machine) ≡ false))
            (λ i. held_refused (state_in bytes)) (λ i. (λ e. refl, λ e. refl));
      }

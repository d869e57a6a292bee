-- The calls on a state that the caller holds, as the bytes of its image. Bytes that are no image are refused with 1, as an unfit state is.
use Rattle.std.specs.Prelude.{ℕ, cond, List, eqb, length}
use Rattle.std.specs.Prelude.{Option, Result, Err}
use Rattle.dock.specs.Record.{fresh_controller}
use Rattle.dock.specs.Step.{step_of, told_reading, told_outputs}
use Rattle.dock.specs.Name.{name_of}
use Rattle.dock.specs.Held.{told_held}
use Rattle.dock.specs.declared.Controller.{Controller}
use Rattle.batch.specs.Batch.{outcome_of, state_by, buffer_after}
use Rattle.image.specs.Layout.{BYTES}
use Rattle.image.specs.Save.{saved}
use Rattle.image.specs.Load.{is_image, state_in}
use Rattle.link.specs.Answer.{begun_as}
use Rattle.dock.specs.declared.Refusal.TheVariants.{Unfit}
use Rattle.dock.specs.declared.Refusal.{Refusal}
use Rattle.dock.specs.declared.NamingRefusal.TheVariants.{Unfit as UnfitToName}
use Rattle.dock.specs.declared.NamingRefusal.{NamingRefusal}
use Rattle.dock.specs.Answers.{Answer}
use Rattle.calls.specs.Numbers.{Outcome}
use Rattle.calls.specs.declared.Refusal.TheVariants.{Unfit as UnfitHeld}

-- What the state of an image gives, or else, where the bytes are no image, this.
abbrev pub in_image : {A : Type 0} → List ℕ → (Controller → A) → A → A
in_image bytes gives none = cond (is_image bytes) (gives (state_in bytes)) none

-- Beginning.
unfoldable pub begun : ℕ → ℕ
begun bytes = begun_as BYTES bytes

unfoldable pub begun_in : List ℕ → List ℕ
begun_in bytes = cond (eqb (length bytes) BYTES) (saved fresh_controller) bytes

-- One event: the answer, and the bytes afterwards.
unfoldable pub answer_in : List ℕ → ℕ → Answer
answer_in bytes w = in_image bytes (λ s. (step_of s w).answer) (Err Unfit)

unfoldable pub stepped_in : List ℕ → ℕ → List ℕ
stepped_in bytes w = in_image bytes (λ s. saved (step_of s w).controller) bytes

-- Many events: the outcome for so many words and so many record bytes, the bytes afterwards, and the records' buffer afterwards.
unfoldable pub outcome_in : List ℕ → ℕ → ℕ → Outcome
outcome_in bytes words room = in_image bytes (λ s. outcome_of s words room) (Err UnfitHeld)

unfoldable pub batched_in : List ℕ → List ℕ → ℕ → List ℕ
batched_in bytes ws room = in_image bytes (λ s. saved (state_by (outcome_of s (length ws) room) s ws)) bytes

unfoldable pub records_in : List ℕ → List ℕ → List ℕ → List ℕ
records_in bytes ws buffer = in_image bytes (λ s. buffer_after s ws buffer) buffer

-- Naming a kind (document 03, "Naming the kind"): what becomes of the name, and the bytes afterwards.
unfoldable pub naming_in : List ℕ → ℕ → Result (Unit {0}) NamingRefusal
naming_in bytes n = in_image bytes (λ s. (name_of s n).naming) (Err UnfitToName)

unfoldable pub named_in : List ℕ → ℕ → List ℕ
named_in bytes n = in_image bytes (λ s. saved (name_of s n).controller) bytes

-- The questions, which change nothing.
unfoldable pub reading_in : List ℕ → ℕ → Result ℕ Refusal
reading_in bytes a = in_image bytes (λ s. told_reading s a) (Err Unfit)

unfoldable pub outputs_in : List ℕ → Result ℕ Refusal
outputs_in bytes = in_image bytes told_outputs (Err Unfit)

-- The byte that an open read holds (document 02, request 7).
unfoldable pub held_in : List ℕ → Result (Option ℕ) Refusal
held_in bytes = in_image bytes told_held (Err Unfit)

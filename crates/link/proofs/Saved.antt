-- What the calls come to on the image of a record: the controller's own answers, and the image of its next state. Assumes nothing.
use Prim.Native.Nat.{ℕ}
use mathlib.Core.Path.{◌≡◌, ap}
use mathlib.Core.List.{List}
use lib.ListN.{length}
use Rattle.dock.specs.Record.{fresh_controller}
use Rattle.dock.specs.Step.{step_of, told_reading, told_outputs}
use Rattle.dock.specs.Name.{name_of}
use Rattle.dock.specs.Held.{told_held}
use Rattle.dock.specs.declared.Controller.{Controller}
use Rattle.batch.specs.Batch.{outcome_of, state_by, buffer_after}
use Rattle.image.specs.Save.{saved}
use Rattle.image.specs.Shape.{Shaped}
use Rattle.image.proofs.RoundTrip.{saved_image, state_back}
use Rattle.image.proofs.Shape.{fresh_shaped}
use Rattle.link.specs.Held.{in_image, answer_in, stepped_in, outcome_in, batched_in, records_in, naming_in, named_in, reading_in, outputs_in, held_in}

module _ (s : Controller) (h : Shaped s.machine) where
  of_image : {A : Type 0} (gives : Controller → A) (none : A) → in_image (saved s) gives none ≡ gives s
  of_image gives none = rw (saved_image s) (ap gives (state_back s h))

  pub held_answer : (w : ℕ) → answer_in (saved s) w ≡ (step_of s w).answer
  unfolding answer_in
  held_answer w = of_image (λ t. (step_of t w).answer) _

  pub held_step : (w : ℕ) → stepped_in (saved s) w ≡ saved (step_of s w).controller
  unfolding stepped_in
  held_step w = of_image (λ t. saved (step_of t w).controller) _

  pub held_outcome : (words room : ℕ) → outcome_in (saved s) words room ≡ outcome_of s words room
  unfolding outcome_in
  held_outcome words room = of_image (λ t. outcome_of t words room) _

  pub held_batch : (ws : List ℕ) (room : ℕ) → batched_in (saved s) ws room ≡ saved (state_by (outcome_of s (length ws) room) s ws)
  unfolding batched_in
  held_batch ws room = of_image (λ t. saved (state_by (outcome_of t (length ws) room) t ws)) _

  pub held_records : (ws buffer : List ℕ) → records_in (saved s) ws buffer ≡ buffer_after s ws buffer
  unfolding records_in
  held_records ws buffer = of_image (λ t. buffer_after t ws buffer) _

  pub held_naming : (n : ℕ) → naming_in (saved s) n ≡ (name_of s n).naming
  unfolding naming_in
  held_naming n = of_image (λ t. (name_of t n).naming) _

  pub held_name : (n : ℕ) → named_in (saved s) n ≡ saved (name_of s n).controller
  unfolding named_in
  held_name n = of_image (λ t. saved (name_of t n).controller) _

  pub held_reading : (a : ℕ) → reading_in (saved s) a ≡ told_reading s a
  unfolding reading_in
  held_reading a = of_image (λ t. told_reading t a) _

  pub held_outputs : outputs_in (saved s) ≡ told_outputs s
  unfolding outputs_in
  held_outputs = of_image told_outputs _

  pub held_byte : held_in (saved s) ≡ told_held s
  unfolding held_in
  held_byte = of_image told_held _

-- From the image of a fresh controller.
module _ (bytes : List ℕ) (e : bytes ≡ saved fresh_controller) where
  pub fresh_outcome : (words room : ℕ) → outcome_in bytes words room ≡ outcome_of fresh_controller words room
  fresh_outcome words room = rw e (held_outcome fresh_controller fresh_shaped words room)

  pub fresh_records : (ws buffer : List ℕ) → records_in bytes ws buffer ≡ buffer_after fresh_controller ws buffer
  fresh_records ws buffer = rw e (held_records fresh_controller fresh_shaped ws buffer)

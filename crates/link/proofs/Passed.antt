-- What passing an image comes to: the call on one state tells its answer by a record's bits, and an image that the event doesn't reach is that of
-- its state. Assumes nothing.
use Prim.Native.Nat.{ℕ}
use native.Mathlib.Omega.{arith}
use mathlib.Core.Path.{◌≡◌, sym, ◌∙◌}
use mathlib.Core.Bool.{true}
use mathlib.Core.List.{List}
use Rattle.dock.specs.Step.{step_of}
use Rattle.bay.proofs.Taut.{pick}
use Rattle.batch.specs.Decode.{number_of, answer_in, decode}
use Rattle.batch.specs.Record.{record_of}
use Rattle.batch.proofs.Theorems.{record_decodes, call_decodes}
use Rattle.chassis.specs.Chassis.{shown}
use Rattle.image.specs.Load.{is_image, state_in}
use Rattle.image.specs.Save.{saved}
use Rattle.image.specs.Shape.{Octets}
use Rattle.image.proofs.OpenRead.{held_byte_wide}
use Rattle.image.proofs.RoundTrip.{saved_loaded}
use Rattle.image.proofs.Whole.{image_whole}
use Rattle.link.specs.Answer.{value_in, told_as}
use Rattle.link.specs.Held.{answer_in as answer_of, stepped_in, outputs_in}
use Rattle.link.proofs.SixtyFour.{shown_small}
use Rattle.dock.specs.Answers.{Answer}
use Rattle.dock.specs.declared.Refusal.TheVariants.{Unfit}
use Rattle.std.specs.Prelude.{Err}

-- Of any bytes, the 32 bits of a step tell its answer.
pub step_decodes : (bytes : List ℕ) → Octets bytes → (w : ℕ) → answer_in (number_of (record_of (answer_of bytes w))) ≡ answer_of bytes w
unfolding answer_of decode
step_decodes bytes octets w =
    pick (λ (a : Answer). answer_in (number_of (record_of a)) ≡ a) (is_image bytes) (λ _. call_decodes (state_in bytes) w (held_byte_wide bytes octets))
    (λ _. record_decodes (Err Unfit) (omega arith) (omega arith))

module _ (part : List ℕ) (octets : Octets part) (image : is_image part ≡ true) where
  pub step_tells : (w : ℕ) → answer_in (number_of (record_of (answer_of part w))) ≡ (step_of (state_in part) w).answer
  unfolding answer_of
  step_tells w = step_decodes part octets w ∙ rw image

  pub step_leaves : (w : ℕ) → stepped_in part w ≡ saved (step_of (state_in part) w).controller
  unfolding stepped_in
  step_leaves w = rw image

  pub left_alone : part ≡ saved (state_in part)
  left_alone = sym (saved_loaded part octets (image_whole part image))

  pub outputs_told : value_in (told_as (outputs_in part)) ≡ shown (state_in part)
  unfolding outputs_in
  outputs_told = rw image (omega (arith, shown_small (state_in part)))

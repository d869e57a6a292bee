-- The wire cell's calls on a held state that the caller holds, as the bytes of its image (document 02, request 7). Bytes that are no image
-- are refused with 1, as an unfit held state is.
use Rattle.std.specs.Prelude.{ℕ, cond, Result, Ok, Err, List, eqb, length}
use Rattle.calls.specs.Numbers.{outcome_refusal, outcome_count}
use Rattle.calls.specs.declared.Refusal.{Refusal}
use Rattle.calls.specs.declared.Refusal.TheVariants.{Unfit}
use Rattle.wire.specs.Record.{fresh_wire}
use Rattle.wire.specs.Hear.{after}
use Rattle.wire.specs.Listen.{outcome_of, places_after}
use Rattle.wire.specs.Image.{BYTES, is_image, saved, wire_in}
use Rattle.wire.specs.declared.Wire.{Wire}
use Rattle.link.specs.Answer.{both, begun_as}

-- What the held state of an image gives, or else, where the bytes are no image, this.
abbrev pub in_image : {A : Type 0} → List ℕ → (Wire → A) → A → A
in_image bytes gives none = cond (is_image bytes) (gives (wire_in bytes)) none

-- Beginning.
unfoldable pub begun : ℕ → ℕ
begun bytes = begun_as BYTES bytes

unfoldable pub begun_in : List ℕ → List ℕ
begun_in bytes = cond (eqb (length bytes) BYTES) (saved fresh_wire) bytes

-- Listening: the outcome for these samples and so many places, as a number its refusal and its count.
unfoldable pub outcome_in : List ℕ → List ℕ → ℕ → Result ℕ Refusal
outcome_in bytes samples places = in_image bytes (λ w. outcome_of w samples places) (Err Unfit)

abbrev pub listened_as : Result ℕ Refusal → ℕ
listened_as o = both (outcome_refusal o) (outcome_count o)

-- The bytes afterwards: as they came where it was refused.
abbrev pub bytes_by : Result ℕ Refusal → Wire → List ℕ → List ℕ → List ℕ
bytes_by (Ok n) w samples bytes = saved (after w samples)
bytes_by (Err r) w samples bytes = bytes

unfoldable pub listened_in : List ℕ → List ℕ → ℕ → List ℕ
listened_in bytes samples places = in_image bytes (λ w. bytes_by (outcome_of w samples places) w samples bytes) bytes

-- The places afterwards.
unfoldable pub words_in : List ℕ → List ℕ → List ℕ → List ℕ
words_in bytes samples places = in_image bytes (λ w. places_after w samples places) places

-- The queue's calls on a queue that the caller holds, as the bytes of its image (document 02, request 8). Bytes that are no image are refused with
-- 1, as an unfit queue record is.
use Rattle.std.specs.Prelude.{ℕ, cond, Result, Ok, Err, List, [], ◌∷◌, ◌++◌, eqb}
use Rattle.queue.specs.Record.{empty_queue}
use Rattle.queue.specs.Numbers.{outcome_refusal, outcome_word}
use Rattle.queue.specs.Run.{Call, call_of, accepted_by, taken_by}
use Rattle.queue.specs.declared.Queue.{Queue}
use Rattle.queue.specs.declared.Answer.{Answer}
use Rattle.queue.specs.declared.Refusal.{Refusal}
use Rattle.queue.specs.declared.Refusal.TheVariants.{Unfit}
use Rattle.queue_image.specs.Layout.{BYTES}
use Rattle.queue_image.specs.Save.{saved_in}
use Rattle.queue_image.specs.Load.{is_image, queue_in}
use Rattle.link.specs.Answer.{both, begun_as}

-- What the queue of an image gives, or else, where the bytes are no image, this.
abbrev pub in_image : {A : Type 0} → List ℕ → (Queue → A) → A → A
in_image bytes gives none = cond (is_image bytes) (gives (queue_in bytes)) none

-- Such bytes are refused as an unfit queue record is.
abbrev pub NO_QUEUE : Refusal
NO_QUEUE = Unfit

-- The queue itself.
abbrev pub held_in : List ℕ → Result Queue Refusal
held_in bytes = in_image bytes (λ q. Ok q) (Err NO_QUEUE)

-- Beginning.
unfoldable pub begun : ℕ → ℕ
begun bytes = begun_as BYTES bytes

unfoldable pub begun_in : List ℕ → List ℕ
begun_in bytes = saved_in empty_queue bytes

-- A put or a take: the outcome, as a number its refusal and its word.
unfoldable pub outcome_in : List ℕ → Call → Result ℕ Refusal
outcome_in bytes c = in_image bytes (λ q. (call_of q c).outcome) (Err NO_QUEUE)

abbrev pub answered_as : Result ℕ Refusal → ℕ
answered_as o = both (outcome_refusal o) (outcome_word o)

-- The bytes afterwards: as they came where it was refused.
unfoldable pub kept_by : Answer ℕ → List ℕ → List ℕ
kept_by a bytes = cond (eqb (outcome_refusal a.outcome) 0) (saved_in a.queue bytes) bytes

unfoldable pub turned_in : List ℕ → Call → List ℕ
turned_in bytes c = in_image bytes (λ q. kept_by (call_of q c) bytes) bytes

-- Puts and takes in any order: the bytes after them, the words accepted, and the words taken.
unfoldable pub after_in : List ℕ → List Call → List ℕ
after_in bytes [] = bytes
after_in bytes (c ∷ cs) = after_in (turned_in bytes c) cs

unfoldable pub accepted_in : List ℕ → List Call → List ℕ
accepted_in bytes [] = []
accepted_in bytes (c ∷ cs) = accepted_by c (outcome_in bytes c) ++ accepted_in (turned_in bytes c) cs

unfoldable pub taken_in : List ℕ → List Call → List ℕ
taken_in bytes [] = []
taken_in bytes (c ∷ cs) = taken_by c (outcome_in bytes c) ++ taken_in (turned_in bytes c) cs

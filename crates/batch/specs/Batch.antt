-- Many events in one call (document 01, "Replies and refusal numbers").
use Rattle.std.specs.Prelude.{ℕ, ◌*◌, cond, List, ◌++◌, ltb, length, drop, Err, Ok}
use Rattle.machine.specs.Record.{fits}
use Rattle.dock.specs.Run.{after, answers_to}
use Rattle.dock.specs.declared.Controller.{Controller}
use Rattle.batch.specs.Record.{RECORD, records_of}
use Rattle.batch.specs.declared.Batched.{Batched}
use Rattle.calls.specs.Numbers.{Outcome}
use Rattle.calls.specs.declared.Refusal.TheVariants.{TooFewPlaces, TooMany, Unfit}

-- The most words in one batch.
abbrev pub MOST_WORDS : ℕ
MOST_WORDS = 16384

-- Order for a batch: 1, 5, 4. No words: accepted, count 0.
unfoldable pub outcome_of : Controller → ℕ → ℕ → Outcome
outcome_of s words bytes =
    cond (fits s.machine) (cond (ltb MOST_WORDS words) (Err TooMany) (cond (ltb bytes (RECORD * words)) (Err TooFewPlaces) (Ok words))) (Err Unfit)

-- A batch that is refused gives the state as given; one that isn't, the state after its words.
abbrev pub state_by : Outcome → Controller → List ℕ → Controller
state_by (Ok n) s ws = after s ws
state_by (Err why) s ws = s

unfoldable pub batch_of : Controller → List ℕ → ℕ → Batched
batch_of s ws bytes =
    record { controller = state_by (outcome_of s (length ws) bytes) s ws; outcome = outcome_of s (length ws) bytes }

-- A batch that is refused writes nothing; one that isn't writes a record for each word in order, at its own place, and bytes past
-- the last record are unchanged.
abbrev pub buffer_by : Outcome → Controller → List ℕ → List ℕ → List ℕ
buffer_by (Ok n) s ws buffer = records_of (answers_to s ws) ++ drop (RECORD * length ws) buffer
buffer_by (Err why) s ws buffer = buffer

unfoldable pub buffer_after : Controller → List ℕ → List ℕ → List ℕ
buffer_after s ws buffer = buffer_by (outcome_of s (length ws) (length buffer)) s ws buffer

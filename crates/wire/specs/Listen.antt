-- The call over a lent list of samples (document 02, request 7).
use Rattle.std.specs.Prelude.{ℕ, cond, Result, Ok, Err, List, ◌++◌, ltb, length, drop}
use Rattle.calls.specs.declared.Refusal.{Refusal}
use Rattle.calls.specs.declared.Refusal.TheVariants.{Unfit, TooFewPlaces, TooMany}
use Rattle.wire.specs.Record.{fits}
use Rattle.wire.specs.Hear.{after, words_of}
use Rattle.wire.specs.declared.Wire.{Wire}
use Rattle.wire.specs.declared.Listened.{Listened}

-- The most samples in one call.
abbrev pub MOST_SAMPLES : ℕ
MOST_SAMPLES = 16384

-- Refusals, in this order: 1 for the held state, 5 for over 16,384 samples, 4 for fewer places than samples. No samples: accepted, count 0.
unfoldable pub outcome_of : Wire → List ℕ → ℕ → Result ℕ Refusal
outcome_of w samples places =
    cond (fits w)
    (cond (ltb MOST_SAMPLES (length samples)) (Err TooMany)
    (cond (ltb places (length samples)) (Err TooFewPlaces) (Ok (length (words_of w samples)))))
    (Err Unfit)

-- Refused, the held state is as given; else it is the one after the samples.
abbrev pub state_by : Result ℕ Refusal → Wire → List ℕ → Wire
state_by (Ok n) w samples = after w samples
state_by (Err r) w samples = w

unfoldable pub listen_of : Wire → List ℕ → ℕ → Listened
listen_of w samples places = record { wire = state_by (outcome_of w samples places) w samples; outcome = outcome_of w samples places }

-- Places with words at their start; those past the last word are unchanged.
unfoldable pub written : List ℕ → List ℕ → List ℕ
written words places = words ++ drop (length words) places

-- Refused, nothing is written; else the words are, in order.
abbrev pub places_by : Result ℕ Refusal → Wire → List ℕ → List ℕ → List ℕ
places_by (Ok n) w samples places = written (words_of w samples) places
places_by (Err r) w samples places = places

unfoldable pub places_after : Wire → List ℕ → List ℕ → List ℕ
places_after w samples places = places_by (outcome_of w samples (length places)) w samples places

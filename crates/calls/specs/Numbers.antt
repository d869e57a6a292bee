-- The paper's numbers of what a call over lent lists answers (document 01, "Replies and refusal numbers"; document 02, request 7): 1 for what is
-- held and isn't fit, 5 for a list that is too long, 4 for too few places, and 0 with a count where it wasn't refused.
use Rattle.std.specs.Prelude.{ℕ, Result, Ok, Err}
use Rattle.calls.specs.declared.Refusal.{Refusal}
use Rattle.calls.specs.declared.Refusal.TheVariants.{Unfit, TooFewPlaces, TooMany}

abbrev pub number_of : Refusal → ℕ
number_of Unfit = 1
number_of TooFewPlaces = 4
number_of TooMany = 5

-- What such a call answers: how many were taken or written, or why it was refused.
abbrev pub Outcome : Type 0
Outcome = Result ℕ Refusal

abbrev pub outcome_refusal : Outcome → ℕ
outcome_refusal (Ok n) = 0
outcome_refusal (Err r) = number_of r

abbrev pub outcome_count : Outcome → ℕ
outcome_count (Ok n) = n
outcome_count (Err r) = 0

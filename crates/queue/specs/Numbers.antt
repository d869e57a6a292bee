-- The paper's numbers of an answer (document 02, request 8): 1 for an unfit queue record, 7 queue full, 8 queue empty, each with word 0.
use Rattle.std.specs.Prelude.{ℕ, Result, Ok, Err}
use Rattle.queue.specs.declared.Refusal.{Refusal}
use Rattle.queue.specs.declared.Refusal.TheVariants.{Unfit, Full, Empty}

abbrev pub number_of : Refusal → ℕ
number_of Unfit = 1
number_of Full = 7
number_of Empty = 8

abbrev pub outcome_refusal : {T : Type 0} → Result T Refusal → ℕ
outcome_refusal (Ok x) = 0
outcome_refusal (Err r) = number_of r

-- The word taken.
abbrev pub outcome_word : Result ℕ Refusal → ℕ
outcome_word (Ok w) = w
outcome_word (Err r) = 0

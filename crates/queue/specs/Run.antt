-- Puts and takes in any order (document 02, request 8): what they accepted and gave, by the numbers of their answers alone.
use Rattle.std.specs.Prelude.{ℕ, cond, Result, Ok, Err, List, [], ◌∷◌, ◌++◌, eqb}
use Rattle.queue.specs.Numbers.{outcome_refusal, outcome_word}
use Rattle.queue.specs.Turns.{put_of, take_of}
use Rattle.queue.specs.declared.Queue.{Queue}
use Rattle.queue.specs.declared.Answer.{Answer}
use Rattle.queue.specs.declared.Refusal.{Refusal}

pub data Call : Type 0 where
  put : ℕ → Call
  take : Call

-- A put gives no word, which is 0 as a number.
abbrev pub no_word : Result (Unit {0}) Refusal → Result ℕ Refusal
no_word (Ok given) = Ok 0
no_word (Err r) = Err r

abbrev pub numbered : Answer (Unit {0}) → Answer ℕ
numbered a = record { queue = a.queue; outcome = no_word a.outcome }

abbrev pub call_of : Queue → Call → Answer ℕ
call_of q (put w) = numbered (put_of q w)
call_of q take = take_of q

-- The queue afterwards.
unfoldable pub after : Queue → List Call → Queue
after q [] = q
after q (c ∷ cs) = after (call_of q c).queue cs

-- The words of a call that isn't refused, and none else.
abbrev unless_refused : ℕ → ℕ → List ℕ
unless_refused refusal w = cond (eqb refusal 0) (w ∷ []) []

-- A put accepts its word, and a take gives the one that it answers.
abbrev pub accepted_by : Call → Result ℕ Refusal → List ℕ
accepted_by (put w) o = unless_refused (outcome_refusal o) w
accepted_by take o = []

abbrev pub taken_by : Call → Result ℕ Refusal → List ℕ
taken_by (put w) o = []
taken_by take o = unless_refused (outcome_refusal o) (outcome_word o)

-- The words accepted, and the words taken, in order.
unfoldable pub accepted : Queue → List Call → List ℕ
accepted q [] = []
accepted q (c ∷ cs) = accepted_by c (call_of q c).outcome ++ accepted (call_of q c).queue cs

unfoldable pub taken : Queue → List Call → List ℕ
taken q [] = []
taken q (c ∷ cs) = taken_by c (call_of q c).outcome ++ taken (call_of q c).queue cs

-- A put and a take (document 02, request 8).
use Rattle.std.specs.Prelude.{ℕ, ◌+◌, ◌-◌, ◌%◌, cond, Ok, Err, eqb, get_or, set}
use Rattle.queue.specs.Record.{PLACES, fits}
use Rattle.queue.specs.declared.Queue.{Queue}
use Rattle.queue.specs.declared.Refusal.{Refusal}
use Rattle.queue.specs.declared.Refusal.TheVariants.{Unfit, Full, Empty}
use Rattle.queue.specs.declared.Answer.{Answer}

-- A refusal returns the queue as it came.
abbrev pub refused : {T : Type 0} → Refusal → Queue → Answer T
refused r q = record { outcome = Err r; queue = q }

-- The place so many after another, round the ring.
abbrev pub place : ℕ → ℕ → ℕ
place start after = (start + after) % PLACES

-- An accepted put: the word goes to the place after those that wait, and the start stays.
abbrev pub with_word : Queue → ℕ → Queue
with_word q w = record { words = set q.words (place q.start q.count) w; start = q.start; count = q.count + 1 }

abbrev pub accepts : Queue → ℕ → Answer (Unit {0})
accepts q w = record { outcome = Ok tt; queue = with_word q w }

-- An accepted take: the start moves by one, 127 to 0, and the ring's old word stays where it stood.
abbrev pub without_oldest : Queue → Queue
without_oldest q = record { words = q.words; start = place q.start 1; count = q.count - 1 }

abbrev pub gives : Queue → Answer ℕ
gives q = record { outcome = Ok (get_or q.words q.start 0); queue = without_oldest q }

-- Refusals: 1 for an unfit record, then 7 for a full queue. Every word is accepted.
unfoldable pub put_of : Queue → ℕ → Answer (Unit {0})
put_of q w = cond (fits q) (cond (eqb q.count PLACES) (refused Full q) (accepts q w)) (refused Unfit q)

-- Refusals: 1, then 8 for an empty queue.
unfoldable pub take_of : Queue → Answer ℕ
take_of q = cond (fits q) (cond (eqb q.count 0) (refused Empty q) (gives q)) (refused Unfit q)

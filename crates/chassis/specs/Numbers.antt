-- The paper's numbers of an answer (document 02, request 9).
use Rattle.std.specs.Prelude.{ℕ, Err, Ok, Result}
use Rattle.bus.specs.Reply.{reply_number, reply_byte}
use Rattle.chassis.specs.declared.Refusal.{Refusal}
use Rattle.chassis.specs.declared.Refusal.TheVariants.{WrongLength, Unfit, StrayBit, Absent, NotStarted, AddressTaken}
use Rattle.bus.specs.declared.Reply.{Reply}

abbrev pub refusal_number : Refusal → ℕ
refusal_number WrongLength = 9
refusal_number Unfit = 1
refusal_number StrayBit = 2
refusal_number Absent = 10
refusal_number NotStarted = 3
refusal_number AddressTaken = 11

abbrev pub answer_refusal : Result Reply Refusal → ℕ
answer_refusal (Ok r) = 0
answer_refusal (Err x) = refusal_number x

-- Document 01's reply and byte; with a refusal both are 0.
abbrev pub answer_reply : Result Reply Refusal → ℕ
answer_reply (Ok r) = reply_number r
answer_reply (Err x) = 0

abbrev pub answer_byte : Result Reply Refusal → ℕ
answer_byte (Ok r) = reply_byte r
answer_byte (Err x) = 0

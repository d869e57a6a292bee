-- A record read back: the four fields of its four bytes, and the answer that has them (document 01, "Replies and refusal numbers").
use Rattle.std.specs.Prelude.{ℕ, ◌+◌, ◌*◌, ◌/◌, ◌%◌, ◌^◌, List, [], ◌∷◌, get_or, Err}
use Rattle.bus.specs.declared.Reply.{Reply}
use Rattle.bus.specs.declared.Reply.TheVariants.{Nothing, Ack, NoAck, Driven, NotDriven}
use Rattle.dock.specs.Answers.{Answer, done_with}
use Rattle.dock.specs.declared.Refusal.TheVariants.{NotStarted, StrayBit, Unfit}

-- Four bytes as one number, most significant first.
abbrev pub number_of : List ℕ → ℕ
number_of r = ((get_or r 0 0 * 256 + get_or r 1 0) * 256 + get_or r 2 0) * 256 + get_or r 3 0

-- A reply by its number and byte.
abbrev pub reply_by : ℕ → ℕ → Reply
reply_by n byte = get_or (Nothing ∷ Ack ∷ NoAck ∷ Driven byte ∷ []) n NotDriven

-- An answer by its refusal, reply and outputs.
abbrev pub answer_by : ℕ → Reply → ℕ → Answer
answer_by refusal reply outputs = get_or (done_with reply outputs ∷ Err Unfit ∷ Err (StrayBit outputs) ∷ []) refusal (Err NotStarted)

-- The fields of a record's 32 bits, ..
abbrev pub refusal_bits : ℕ → ℕ
refusal_bits n = n / 2 ^ 28

abbrev pub reply_bits : ℕ → ℕ
reply_bits n = n / 2 ^ 25 % 8

abbrev pub byte_bits : ℕ → ℕ
byte_bits n = n / 2 ^ 17 % 256

abbrev pub output_bits : ℕ → ℕ
output_bits n = n / 2 ^ 8 % 512

-- .. and the answer that they tell.
unfoldable pub answer_in : ℕ → Answer
answer_in n = answer_by (refusal_bits n) (reply_by (reply_bits n) (byte_bits n)) (output_bits n)

unfoldable pub decode : List ℕ → Answer
decode r = answer_in (number_of r)

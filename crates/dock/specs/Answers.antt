-- The paper's numbers of an answer (document 01, "Replies and refusal numbers"): the table's columns, case by case.
use Rattle.std.specs.Prelude.{ℕ, Result, Ok, Err}
use Rattle.bus.specs.Reply.{reply_number, reply_byte}
use Rattle.bus.specs.declared.Reply.{Reply}
use Rattle.bus.specs.declared.Reply.TheVariants.{Nothing}
use Rattle.dock.specs.declared.Done.{Done}
use Rattle.dock.specs.declared.Numbers.{Numbers}
use Rattle.dock.specs.declared.Refusal.{Refusal}
use Rattle.dock.specs.declared.Refusal.TheVariants.{Unfit, StrayBit, NotStarted}

-- What the single call answers.
abbrev pub Answer : Type 0
Answer = Result Done Refusal

-- The event was acted on, with this reply and these outputs.
abbrev pub done_with : Reply → ℕ → Answer
done_with r o = Ok (record { reply = r; outputs = o })

abbrev pub refusal_number : Refusal → ℕ
refusal_number Unfit = 1
refusal_number (StrayBit o) = 2
refusal_number NotStarted = 3

-- The outputs are told with refusal 2 alone, as they were.
abbrev pub refused_outputs : Refusal → ℕ
refused_outputs Unfit = 0
refused_outputs (StrayBit o) = o
refused_outputs NotStarted = 0

abbrev pub refusal_of : Answer → ℕ
refusal_of (Ok d) = 0
refusal_of (Err why) = refusal_number why

abbrev pub reply_of : Answer → ℕ
reply_of (Ok d) = reply_number d.reply
reply_of (Err why) = 0

-- What the host sees of it, as the bus has it: nothing with a refusal.
abbrev pub reply_in : Answer → Reply
reply_in (Ok d) = d.reply
reply_in (Err why) = Nothing

abbrev pub byte_of : Answer → ℕ
byte_of (Ok d) = reply_byte d.reply
byte_of (Err why) = 0

abbrev pub outputs_of : Answer → ℕ
outputs_of (Ok d) = d.outputs
outputs_of (Err why) = refused_outputs why

-- All four of them.
abbrev pub numbers_of : Answer → Numbers
numbers_of a = record { refusal = refusal_of a; reply = reply_of a; byte = byte_of a; outputs = outputs_of a }

-- A question about a state: an unfit state is refused with 1 and value 0.
abbrev pub told_refusal : Result ℕ Refusal → ℕ
told_refusal (Ok v) = 0
told_refusal (Err why) = refusal_number why

abbrev pub told_value : Result ℕ Refusal → ℕ
told_value (Ok v) = v
told_value (Err why) = 0

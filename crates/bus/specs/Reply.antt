-- Replies (document 01, "Replies and refusal numbers"): 0 for START, STOP, PINS, TICK, RESET, TIMEOUT; 1 ACK or 2 no ACK for BYTE;
-- 3 byte driven or 4 not driven for TAKE. The byte is 0 except with 3 (the value) and 4 (255).
use Rattle.std.specs.Prelude.{ℕ}
use Rattle.bus.specs.declared.Reply.{Reply}
use Rattle.bus.specs.declared.Reply.TheVariants.{Nothing, Ack, NoAck, Driven, NotDriven}

abbrev pub reply_number : Reply → ℕ
reply_number Nothing = 0
reply_number Ack = 1
reply_number NoAck = 2
reply_number (Driven v) = 3
reply_number NotDriven = 4

abbrev pub reply_byte : Reply → ℕ
reply_byte Nothing = 0
reply_byte Ack = 0
reply_byte NoAck = 0
reply_byte (Driven v) = v
reply_byte NotDriven = 255

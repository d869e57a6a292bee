-- The record of an answer (document 01, "Replies and refusal numbers"): four bytes, with refusal 4 bits, reply 3, byte 8, outputs 9,
-- eight zero bits, most significant first.
use Rattle.std.specs.Prelude.{ℕ, ◌+◌, ◌*◌, ◌/◌, ◌%◌, List, [], ◌∷◌, ◌++◌}
use Rattle.dock.specs.Answers.{refusal_of, reply_of, byte_of, outputs_of, Answer}

-- The bytes of a record.
abbrev pub RECORD : ℕ
RECORD = 4

-- The fields side by side.
abbrev pub fields : ℕ → ℕ → ℕ → ℕ → ℕ
fields refusal reply byte outputs = (((refusal * 8 + reply) * 256 + byte) * 512 + outputs) * 256

unfoldable pub record_number : Answer → ℕ
record_number a = fields (refusal_of a % 16) (reply_of a % 8) (byte_of a) (outputs_of a % 512)

-- Four bytes, most significant first.
abbrev pub bytes_of : ℕ → List ℕ
bytes_of n = n / 16777216 % 256 ∷ n / 65536 % 256 ∷ n / 256 % 256 ∷ n % 256 ∷ []

unfoldable pub record_of : Answer → List ℕ
record_of a = bytes_of (record_number a)

-- One record for each answer in order.
unfoldable pub records_of : List Answer → List ℕ
records_of [] = []
records_of (a ∷ rest) = record_of a ++ records_of rest

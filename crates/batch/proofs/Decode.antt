-- A record decodes to the answer it was made of: the fields lie side by side, each within its bits. Assumes nothing.
use Prim.Native.Nat.{ℕ, zero, suc, ◌<◌}
use native.Mathlib.Omega.{arith}
use native.Mathlib.Nat.{div-div-eq-div-mul, mod-eq_of_lt}
use mathlib.Core.Path.{◌≡◌, refl, ◌∙◌}
use mathlib.Core.Logic.{◌≢◌}
use Rattle.bus.specs.Reply.{reply_number, reply_byte}
use Rattle.bus.specs.declared.Reply.{Reply}
use Rattle.bus.specs.declared.Reply.TheVariants.{Nothing, Ack, NoAck, Driven, NotDriven}
use Rattle.dock.specs.Answers.{refusal_of, reply_of, byte_of, outputs_of, Answer, done_with}
use Rattle.batch.specs.Record.{fields, record_number, bytes_of, record_of}
use Rattle.batch.specs.Decode.{number_of, reply_by, answer_by, refusal_bits, reply_bits, byte_bits, output_bits, answer_in, decode}
use Rattle.dock.specs.declared.Refusal.TheVariants.{NotStarted, StrayBit, Unfit}
use Rattle.std.specs.Prelude.{Err, Ok}

-- Four bytes make the number again.
bytes_back : (n : ℕ) → n < 4294967296 → number_of (bytes_of n) ≡ n
bytes_back n h = rw (← (div-div-eq-div-mul n 65536 256), ← (div-div-eq-div-mul n 256 256)) (omega arith)

-- The fields come apart again.
fields_back :
    (r p b o : ℕ) → r < 16 → p < 8 → b < 256 → o < 512
    → answer_in (fields r p b o) ≡ answer_by r (reply_by p b) o
unfolding answer_in
fields_back r p b o hr hp hb ho = rw (first, second, third, fourth)
  where
    first : refusal_bits (fields r p b o) ≡ r
    first = omega arith

    second : reply_bits (fields r p b o) ≡ p
    second = omega arith

    third : byte_bits (fields r p b o) ≡ b
    third = omega arith

    fourth : output_bits (fields r p b o) ≡ o
    fourth = omega arith

-- An answer is the one with its numbers.
reply_back : (r : Reply) (o : ℕ) → answer_by 0 (reply_by (reply_number r) (reply_byte r)) o ≡ done_with r o
reply_back Nothing o = refl
reply_back Ack o = refl
reply_back NoAck o = refl
reply_back (Driven v) o = refl
reply_back NotDriven o = refl

answer_back : (a : Answer) → answer_by (refusal_of a) (reply_by (reply_of a) (byte_of a)) (outputs_of a) ≡ a
answer_back (Ok d) = reply_back d.reply d.outputs
answer_back (Err Unfit) = refl
answer_back (Err (StrayBit o)) = refl
answer_back (Err NotStarted) = refl

pub reply_small : (r : Reply) → reply_number r < 8
reply_small Nothing = omega arith
reply_small Ack = omega arith
reply_small NoAck = omega arith
reply_small (Driven v) = omega arith
reply_small NotDriven = omega arith

numbers_small : (a : Answer) → (refusal_of a < 16) × (reply_of a < 8)
numbers_small (Ok d) = (omega arith, reply_small d.reply)
numbers_small (Err Unfit) = omega arith
numbers_small (Err (StrayBit o)) = omega arith
numbers_small (Err NotStarted) = omega arith

number_is : (a : Answer) → byte_of a < 256 → outputs_of a < 512 → record_number a ≡ fields (refusal_of a) (reply_of a) (byte_of a) (outputs_of a)
unfolding record_number
number_is a hb ho = let h = numbers_small a in rw (mod-eq_of_lt h.0, mod-eq_of_lt h.1, mod-eq_of_lt ho)

number_small : (r p b o : ℕ) → r < 16 → p < 8 → b < 256 → o < 512 → fields r p b o < 4294967296
number_small r p b o hr hp hb ho = omega arith

-- Of an answer whose byte is a byte and whose outputs are nine bits.
pub decoded : (a : Answer) → byte_of a < 256 → outputs_of a < 512 → decode (record_of a) ≡ a
unfolding decode record_of
decoded a hb ho =
    let h = numbers_small a in
    rw (number_is a hb ho, bytes_back (fields (refusal_of a) (reply_of a) (byte_of a) (outputs_of a)) (number_small _ _ _ _ h.0 h.1 hb ho))
    (fields_back _ _ _ _ h.0 h.1 hb ho ∙ answer_back a)

-- Past the tables: a reply that isn't driven, and a controller that isn't started.
pub reply_past : (n byte : ℕ) → n ≢ 0 → n ≢ 1 → n ≢ 2 → n ≢ 3 → reply_by n byte ≡ NotDriven
reply_past zero byte a b c d = absurd (a refl)
reply_past (suc zero) byte a b c d = absurd (b refl)
reply_past (suc (suc zero)) byte a b c d = absurd (c refl)
reply_past (suc (suc (suc zero))) byte a b c d = absurd (d refl)
reply_past (suc (suc (suc (suc n)))) byte a b c d = refl

pub answer_past : (n : ℕ) (reply : Reply) (outputs : ℕ) → n ≢ 0 → n ≢ 1 → n ≢ 2 → answer_by n reply outputs ≡ Err NotStarted
answer_past zero reply outputs a b c = absurd (a refl)
answer_past (suc zero) reply outputs a b c = absurd (b refl)
answer_past (suc (suc zero)) reply outputs a b c = absurd (c refl)
answer_past (suc (suc (suc n))) reply outputs a b c = refl

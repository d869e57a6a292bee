-- The numbers of an answer that isn't refused, written out: document 01's replies, and the byte beside each. Assumes nothing.
use Prim.Native.Nat.{ℕ}
use mathlib.Core.Path.{◌≡◌, refl}
use Rattle.bus.specs.declared.Reply.{Reply}
use Rattle.bus.specs.declared.Reply.TheVariants.{Nothing, Ack, NoAck, Driven, NotDriven}
use Rattle.chassis.specs.Numbers.{answer_refusal, answer_reply, answer_byte}
use Rattle.std.specs.Prelude.{Ok}

pub record Numbered (r : Reply) (reply byte : ℕ) : Type 0 where
  pub accepted : answer_refusal (Ok r) ≡ 0
  pub reply_is : answer_reply (Ok r) ≡ reply
  pub byte_is : answer_byte (Ok r) ≡ byte

pub record Written : Type 0 where
  pub nothing : Numbered Nothing 0 0
  pub ack : Numbered Ack 1 0
  pub no_ack : Numbered NoAck 2 0
  pub driven : (v : ℕ) → Numbered (Driven v) 3 v
  pub not_driven : Numbered NotDriven 4 255

pub written : Written
written =
    record {
      nothing = record { accepted = refl; reply_is = refl; byte_is = refl };
      ack = record { accepted = refl; reply_is = refl; byte_is = refl };
      no_ack = record { accepted = refl; reply_is = refl; byte_is = refl };
      driven = λ v. record { accepted = refl; reply_is = refl; byte_is = refl };
      not_driven = record { accepted = refl; reply_is = refl; byte_is = refl };
    }

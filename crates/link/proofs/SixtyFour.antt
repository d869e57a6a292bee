-- The answer of 64 bits: each of its numbers is within its bits, and division tells it back. Assumes nothing.
use Prim.Native.Nat.{ℕ, zero, suc, ◌/◌, ◌%◌, ◌<◌, ◌^◌}
use native.Mathlib.Omega.{arith}
use mathlib.Core.Path.{◌≡◌, refl}
use mathlib.Core.Bool.{Bool, true, false}
use mathlib.Core.List.{List, [], ◌∷◌}
use lib.Dec.{eqb, ltb}
use lib.ListN.{length, get_or, take, drop}
use borrow.Author.Tests.{eqb-true, eqb-false, ltb-true, ltb-false}
use Rattle.event.specs.Words.{unpacked}
use Rattle.event.proofs.Theorems.{words_refused}
use Rattle.bay.proofs.Taut.{pick}
use Rattle.machine.specs.Record.{fits}
use Rattle.machine.proofs.Ranges.{outputs_nine_bits}
use Rattle.dock.specs.Answers.{told_value}
use Rattle.dock.specs.Record.{fresh_controller}
use Rattle.dock.specs.Step.{told_outputs}
use Rattle.dock.specs.declared.Controller.{Controller}
use Rattle.batch.proofs.Decode.{reply_small}
use Rattle.chassis.specs.Chassis.{shown, told_of}
use Rattle.chassis.proofs.Widths.{Held, told_byte_wide}
use Rattle.chassis.specs.Numbers.{refusal_number, answer_refusal, answer_reply, answer_byte}
use Rattle.chassis.specs.declared.Refusal.{Refusal}
use Rattle.chassis.specs.declared.Refusal.TheVariants.{WrongLength, Unfit, StrayBit, Absent, NotStarted, AddressTaken}
use Rattle.chassis.specs.declared.Told.{Told}
use Rattle.chassis.proofs.Accepting.{sent}
use Rattle.chassis.proofs.AtPlace.{at_each_place}
use Rattle.chassis.proofs.Refusals.{exactly, refused_unchanged}
use Rattle.image.specs.Shape.{Octets}
use Rattle.image.proofs.OpenRead.{held_byte_wide}
use Rattle.link.proofs.Parts.{octets_part}
use Rattle.link.specs.Lists.{images_in, not_images, parts_of, parts_in, states_of, states_in, all_images, refused_with, told_in, chassis_as}
use Rattle.std.specs.Prelude.{Result, Ok, Err}
use Rattle.event.specs.declared.Event.{Event}
use Rattle.event.specs.declared.NoEvent.{NoEvent}
use Rattle.dock.specs.declared.Refusal.{Refusal as Unread}
use Rattle.bus.specs.declared.Reply.{Reply}

refusal_small : (x : Refusal) → refusal_number x < 12
refusal_small WrongLength = omega arith
refusal_small Unfit = omega arith
refusal_small StrayBit = omega arith
refusal_small Absent = omega arith
refusal_small NotStarted = omega arith
refusal_small AddressTaken = omega arith

pub answer_small : (a : Result Reply Refusal) → (answer_refusal a < 12) × (answer_reply a < 8)
answer_small (Ok r) = (omega arith, reply_small r)
answer_small (Err x) = (refusal_small x, omega arith)

-- ---- what division tells back

pub record Fields (t : Told) (answer : ℕ) : Type 0 where
  pub refusal : answer / 2 ^ 60 ≡ answer_refusal t.answer
  pub reply : answer / 2 ^ 57 % 8 ≡ answer_reply t.answer
  pub byte : answer / 2 ^ 49 % 256 ≡ answer_byte t.answer
  pub zero_bit : answer / 2 ^ 48 % 2 ≡ 0
  pub first : answer / 2 ^ 36 % 4096 ≡ get_or t.outputs 0 0
  pub second : answer / 2 ^ 24 % 4096 ≡ get_or t.outputs 1 0
  pub third : answer / 2 ^ 12 % 4096 ≡ get_or t.outputs 2 0
  pub fourth : answer % 4096 ≡ get_or t.outputs 3 0

fields : (t : Told) → answer_byte t.answer < 256 → ((i : ℕ) → get_or t.outputs i 0 < 512) → Fields t (chassis_as t)
unfolding chassis_as
fields t b o =
    let s = answer_small t.answer in
    record {
      refusal = omega (arith, s.0, s.1, b, o 0, o 1, o 2, o 3);
      reply = omega (arith, s.0, s.1, b, o 0, o 1, o 2, o 3);
      byte = omega (arith, s.0, s.1, b, o 0, o 1, o 2, o 3);
      zero_bit = omega (arith, s.0, s.1, b, o 0, o 1, o 2, o 3);
      first = omega (arith, s.0, s.1, b, o 0, o 1, o 2, o 3);
      second = omega (arith, s.0, s.1, b, o 0, o 1, o 2, o 3);
      third = omega (arith, s.0, s.1, b, o 0, o 1, o 2, o 3);
      fourth = omega (arith, s.0, s.1, b, o 0, o 1, o 2, o 3);
    }

-- ---- outputs are nine bits

none_small : (i : ℕ) → get_or (0 ∷ 0 ∷ 0 ∷ 0 ∷ []) i 0 < 512
none_small zero = omega arith
none_small (suc zero) = omega arith
none_small (suc (suc zero)) = omega arith
none_small (suc (suc (suc zero))) = omega arith
none_small (suc (suc (suc (suc i)))) = omega arith

pub shown_small : (c : Controller) → shown c < 512
unfolding told_outputs
shown_small c = pick (λ (v : Result ℕ Unread). told_value v < 512) (fits c.machine) (λ f. outputs_nine_bits c.machine) (λ f. omega arith)

told_small : (cs : List Controller) (n w i : ℕ) → get_or (told_of cs n w).outputs i 0 < 512
told_small cs n w i = go (eqb refusal 0) refl
  where
    refusal : ℕ
    refusal = answer_refusal (told_of cs n w).answer

    at_place : refusal ≡ 0 → (u : Result Event NoEvent) → unpacked w ≡ u → get_or (told_of cs n w).outputs i 0 < 512
    at_place r (Err why) u = absurd (((exactly cs n w).none.0 r).2 ((words_refused w).0 u))
    at_place r (Ok e) u = by_place (ltb i (length cs)) refl
      where
        by_place : (b : Bool) → ltb i (length cs) ≡ b → get_or (told_of cs n w).outputs i 0 < 512
        by_place true l = rw ((at_each_place cs n w e i fresh_controller (sent cs n w e u r)).outputs (ltb-true i (length cs) l)) (shown_small _)
        by_place false l = rw ((at_each_place cs n w e i fresh_controller (sent cs n w e u r)).nothing_here (ltb-false i (length cs) l)) (omega arith)

    go : (b : Bool) → eqb refusal 0 ≡ b → get_or (told_of cs n w).outputs i 0 < 512
    go true r = at_place (eqb-true refusal 0 r) (unpacked w) refl
    go false r = rw (refused_unchanged cs n w (eqb-false refusal 0 r)).outputs (none_small i)

-- ---- the byte is a byte

states_hold : (k : ℕ) (bytes : List ℕ) → Octets bytes → Held (states_of (parts_of k bytes))
unfolding parts_of Held
states_hold zero bytes o = tt
states_hold (suc k) bytes o = let octets = octets_part bytes o in (held_byte_wide (take 74 bytes) octets.0, states_hold k (drop 74 bytes) octets.1)

-- So each number of the answer stands in its bits.
pub list_fields : (bytes : List ℕ) (n w : ℕ) → Octets bytes → Fields (told_in bytes n w) (chassis_as (told_in bytes n w))
unfolding told_in
list_fields bytes n w o = fields (told_in bytes n w) (by_verdict Byte (λ x. omega arith) told_byte) (λ i. by_verdict (Nine i) (λ x. none_small i) (told_small (states_in bytes) n w i))
  where
    Byte : Told → Type 0
    Byte t = answer_byte t.answer < 256

    Nine : ℕ → Told → Type 0
    Nine i t = get_or t.outputs i 0 < 512

    told_byte : Byte (told_of (states_in bytes) n w)
    told_byte = told_byte_wide (states_in bytes) n w (states_hold (images_in (length bytes)) bytes o)

    by_verdict : (P : Told → Type 0) → ((x : Refusal) → P (refused_with x)) → P (told_of (states_in bytes) n w) → P (told_in bytes n w)
    by_verdict P refuses gives = pick P (not_images (length bytes)) (λ _. refuses WrongLength) (λ _. pick P (all_images (parts_in bytes)) (λ _. gives) (λ _. refuses Unfit))

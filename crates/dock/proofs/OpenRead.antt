-- The byte that an open read holds (document 02, request 7) is the byte that a TAKE would drive; and where none is held. By cases on the three
-- tests of a step and on the command. Assumes nothing.
use Prim.Native.Nat.{ℕ, ◌+◌}
use native.Mathlib.Omega.{arith}
use mathlib.Core.Path.{◌≡◌, refl, ap, ◌∙◌}
use mathlib.Core.Logic.{◌↔◌, ◌≢◌}
use mathlib.Core.Bool.{Bool, true, false, cond}
use Rattle.event.specs.Words.{unpacked}
use Rattle.event.specs.declared.Event.TheVariants as event
use Rattle.event.proofs.Theorems.{by_kind}
use Rattle.bus.specs.Progress.{known_to, held_known, held_by}
use Rattle.bus.specs.declared.Progress.{Progress}
use Rattle.bus.specs.declared.Progress.TheVariants.{Idle, Opened, Addressed, Register, Data, Again, Reading, Writing, Sending}
use Rattle.bus.specs.declared.Reply.{Reply}
use Rattle.bus.specs.declared.Reply.TheVariants as reply
use Rattle.bay.proofs.Taut.{pick}
use Rattle.machine.specs.Record.{fits, fresh_machine}
use Rattle.machine.specs.Outputs.{outputs}
use Rattle.machine.specs.InForce.{reading}
use Rattle.machine.proofs.Fit.{fresh_fit}
use Rattle.dock.specs.Record.{fresh_controller}
use Rattle.dock.specs.Events.{turn_of, next, take_known, read_at}
use Rattle.dock.specs.Answers.{refusal_of, reply_of, byte_of, Answer, done_with}
use Rattle.dock.specs.Step.{takes, refused, done_step, step_of}
use Rattle.dock.specs.Held.{held_refusal, held_value, as_held, held_fit, told_held}
use Rattle.dock.specs.declared.Controller.{Controller}
use Rattle.dock.specs.declared.Turn.{Turn}
use Rattle.dock.proofs.Refusals.{exactly}
use Rattle.std.specs.Prelude.{Ok, Err, None, Option, Result, Some}
use Rattle.dock.specs.declared.Refusal.TheVariants.{Unfit, NotStarted, StrayBit}
use Rattle.dock.specs.declared.Refusal.{Refusal}

-- ---- what it is for: the byte that a TAKE would drive

-- What a reply drives, and an answer.
abbrev pub driven_in_reply : Reply → Option ℕ
driven_in_reply reply.Nothing = None
driven_in_reply reply.Ack = None
driven_in_reply reply.NoAck = None
driven_in_reply (reply.Driven v) = Some v
driven_in_reply reply.NotDriven = None

abbrev pub driven_by : Answer → Result (Option ℕ) Refusal
driven_by (Ok d) = Ok (driven_in_reply d.reply)
driven_by (Err Unfit) = Err Unfit
driven_by (Err (StrayBit o)) = Ok None
driven_by (Err NotStarted) = Ok None

module _ (s : Controller) (ack : Bool) where
  by_progress : (o : ℕ) (p : Progress) → as_held (held_known p) ≡ driven_by (done_with (take_known s.machine.kind (reading s.machine) ack p).reply o)
  unfolding held_known take_known read_at
  by_progress o Idle = refl
  by_progress o Opened = refl
  by_progress o Addressed = refl
  by_progress o (Register r) = refl
  by_progress o (Data r v) = refl
  by_progress o (Again r) = refl
  by_progress o (Reading v) = refl
  by_progress o (Writing n) = refl
  by_progress o (Sending n v) = pick (λ (t : Turn). Ok (Some v) ≡ driven_by (done_with t.reply o)) ack (λ _. refl) (λ _. refl)

  take_drives : (w : ℕ) → unpacked w ≡ Ok (event.Take ack) → told_held s ≡ driven_by (step_of s w).answer
  unfolding told_held held_fit held_by step_of takes turn_of
  take_drives w u = rw u (go (fits s.machine) s.machine.started)
    where
      known : Progress
      known = known_to s.machine.kind s.progress

      go :
          (f t : Bool)
          → cond f (cond t (as_held (held_known known)) (Ok None)) (Err Unfit)
          ≡ driven_by (cond f (cond (takes t (event.Take ack)) (done_step s (event.Take ack)) (refused s (Err NotStarted))) (refused s (Err Unfit))).answer
      go false t = refl
      go true false = refl
      go true true = by_progress (outputs (next s (event.Take ack)).machine) known

-- A state tells the byte that the single call with a TAKE drives, ACKed or not, none where it drives none, and is refused as the call is.
pub record AsATake (s : Controller) : Type 0 where
  pub nacked : told_held s ≡ driven_by (step_of s 0x6000).answer
  pub acked : told_held s ≡ driven_by (step_of s 0x6001).answer

pub as_a_take : (s : Controller) → AsATake s
as_a_take s = record { nacked = take_drives s false 0x6000 by_kind.take_nack; acked = take_drives s true 0x6001 by_kind.take_ack }

-- The same in numbers: the value is 100h and a byte exactly if the record of such a TAKE has reply 3 and that byte, and 0 exactly if it has
-- any other reply; the refusal is 1 exactly if the record's is, and else 0.
pub record InNumbers (h : Result (Option ℕ) Refusal) (a : Answer) : Type 0 where
  pub a_byte : (v : ℕ) → (held_value h ≡ 0x100 + v) ↔ ((reply_of a ≡ 3) × (byte_of a ≡ v))
  pub none : (held_value h ≡ 0) ↔ (reply_of a ≢ 3)
  pub one : (held_refusal h ≡ 1) ↔ (refusal_of a ≡ 1)
  pub accepted : (held_refusal h ≡ 0) ↔ (refusal_of a ≢ 1)

silent : (a : Answer) → reply_of a ≢ 3 → refusal_of a ≢ 1 → InNumbers (Ok None) a
silent a r n =
    record {
      a_byte = λ v. (λ e. absurd (omega (arith, e)), λ e. absurd (r e.0));
      none = (λ e. r, λ e. refl);
      one = (λ e. absurd (omega (arith, e)), λ e. absurd (n e));
      accepted = (λ e. n, λ e. refl);
    }

reply_in_numbers : (r : Reply) (o : ℕ) → InNumbers (Ok (driven_in_reply r)) (done_with r o)
reply_in_numbers reply.Nothing o = silent _ (λ e. omega (arith, e)) (λ e. omega (arith, e))
reply_in_numbers reply.Ack o = silent _ (λ e. omega (arith, e)) (λ e. omega (arith, e))
reply_in_numbers reply.NoAck o = silent _ (λ e. omega (arith, e)) (λ e. omega (arith, e))
reply_in_numbers (reply.Driven v) o =
    record {
      a_byte = λ b. (λ e. (refl, omega (arith, e)), λ e. ap (λ x. 0x100 + x) e.1);
      none = (λ e. absurd (omega (arith, e)), λ e. absurd (e refl));
      one = (λ e. absurd (omega (arith, e)), λ e. absurd (omega (arith, e)));
      accepted = (λ e n. omega (arith, n), λ e. refl);
    }
reply_in_numbers reply.NotDriven o = silent _ (λ e. omega (arith, e)) (λ e. omega (arith, e))

driven_in_numbers : (a : Answer) → InNumbers (driven_by a) a
driven_in_numbers (Ok d) = reply_in_numbers d.reply d.outputs
driven_in_numbers (Err Unfit) =
    record {
      a_byte = λ v. (λ e. absurd (omega (arith, e)), λ e. absurd (omega (arith, e.0)));
      none = (λ e n. omega (arith, n), λ e. refl);
      one = (λ e. refl, λ e. refl);
      accepted = (λ e. absurd (omega (arith, e)), λ e. absurd (e refl));
    }
driven_in_numbers (Err (StrayBit o)) = silent _ (λ e. omega (arith, e)) (λ e. omega (arith, e))
driven_in_numbers (Err NotStarted) = silent _ (λ e. omega (arith, e)) (λ e. omega (arith, e))

pub in_numbers : (s : Controller) → InNumbers (told_held s) (step_of s 0x6000).answer × InNumbers (told_held s) (step_of s 0x6001).answer
in_numbers s = (rw (as_a_take s).nacked (driven_in_numbers _), rw (as_a_take s).acked (driven_in_numbers _))

-- So an unfit state is refused, and no other.
pub held_refused : (s : Controller) → (held_refusal (told_held s) ≡ 1) ↔ (fits s.machine ≡ false)
held_refused s =
    let told = (in_numbers s).0.one in
    let call = (exactly s 0x6000).one in
    (λ e. call.0 (told.0 e), λ e. told.1 (call.1 e))

-- ---- where none is held

pub told_fit : (s : Controller) → fits s.machine ≡ true → told_held s ≡ held_fit s
unfolding told_held
told_fit s f = rw f

-- A state that had no RESET yet holds none, whatever its progress; so a fresh one holds none.
pub not_started : (s : Controller) → s.machine.started ≡ false → held_fit s ≡ Ok None
unfolding held_fit
not_started s t = rw t

pub none_before_a_reset : (s : Controller) → fits s.machine ≡ true → s.machine.started ≡ false → told_held s ≡ Ok None
none_before_a_reset s f t = told_fit s f ∙ not_started s t

pub fresh_holds_none : told_held fresh_controller ≡ Ok None
unfolding fresh_controller fresh_machine
fresh_holds_none = none_before_a_reset fresh_controller fresh_fit refl

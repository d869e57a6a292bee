-- The replies by number (document 01, "Replies and refusal numbers"): which kind of event has which. By cases on the command.
-- Assumes nothing.
use Prim.Native.Nat.{ℕ}
use mathlib.Core.Path.{◌≡◌, refl}
use mathlib.Core.Logic.{◌⊎◌, inl, inr}
use mathlib.Core.Bool.{Bool}
use Rattle.event.specs.declared.Event.{Event}
use Rattle.event.specs.declared.Event.TheVariants.{Start, Stop, Byte, Take, Pins, Tick, Reset, Timeout}
use Rattle.bus.specs.Progress.{heard, known_to}
use Rattle.bus.specs.Reply.{reply_number}
use Rattle.bus.specs.declared.Progress.{Progress}
use Rattle.bus.specs.declared.Progress.TheVariants.{Idle, Opened, Addressed, Register, Data, Again, Reading, Sending, Writing}
use Rattle.bus.specs.declared.Heard.{Heard}
use Rattle.bus.specs.declared.Heard.TheVariants.{On, Write, Read, End}
use Rattle.dock.specs.Events.{byte_heard, byte_at, turn_of, read_at, take_known}
use Rattle.dock.specs.declared.Controller.{Controller}
use Rattle.dock.specs.declared.Turn.{Turn}
use Rattle.bay.proofs.Taut.{pick}
use Rattle.machine.specs.InForce.{reading}

-- The number of the reply to an event.
abbrev pub number_of : Controller → Event → ℕ
number_of s e = reply_number (turn_of s e).reply

pub record Replies (s : Controller) : Type 0 where
  pub start : number_of s Start ≡ 0
  pub stop : number_of s Stop ≡ 0
  pub byte : (b : ℕ) → (number_of s (Byte b) ≡ 1) ⊎ (number_of s (Byte b) ≡ 2)
  pub take : (ack : Bool) → (number_of s (Take ack) ≡ 3) ⊎ (number_of s (Take ack) ≡ 4)
  pub pins : (levels : ℕ) → number_of s (Pins levels) ≡ 0
  pub tick : number_of s Tick ≡ 0
  pub reset : (straps levels : ℕ) (short : Bool) → number_of s (Reset straps levels short) ≡ 0
  pub timeout : number_of s Timeout ≡ 0

pub replies : (s : Controller) → Replies s
unfolding turn_of byte_at byte_heard read_at take_known
replies s =
    record {
      start = refl;
      stop = refl;
      byte = λ b. to_byte (heard s.machine.kind s.machine.straps b s.progress);
      take = λ ack. to_take ack (known_to s.machine.kind s.progress);
      pins = λ levels. refl;
      tick = refl;
      reset = λ straps levels short. refl;
      timeout = refl;
    }
  where
    to_byte : (h : Heard) → (reply_number (byte_heard s.machine.kind (reading s.machine) h).reply ≡ 1) ⊎ (reply_number (byte_heard s.machine.kind (reading s.machine) h).reply ≡ 2)
    to_byte (On p) = inl refl
    to_byte (Write r v) = inl refl
    to_byte (Read r) = inl refl
    to_byte End = inr refl

    Given : Turn → Type 0
    Given t = (reply_number t.reply ≡ 3) ⊎ (reply_number t.reply ≡ 4)

    to_take : (ack : Bool) (p : Progress) → Given (take_known s.machine.kind (reading s.machine) ack p)
    to_take ack Idle = inr refl
    to_take ack Opened = inr refl
    to_take ack Addressed = inr refl
    to_take ack (Register r) = inr refl
    to_take ack (Data r v) = inr refl
    to_take ack (Again r) = inr refl
    to_take ack (Reading v) = inl refl
    to_take ack (Writing r) = inr refl
    to_take ack (Sending r v) = pick Given ack (λ _. inl refl) (λ _. inl refl)

-- A part of the machine over events: what is true of it at every act is true of it at every event. Assumes nothing.
use mathlib.Core.Path.{◌≡◌, refl, ap, ◌∙◌}
use Rattle.event.specs.declared.Event.{Event}
use Rattle.event.specs.declared.Event.TheVariants.{Start, Stop, Byte, Take, Pins, Tick, Reset, Timeout}
use Rattle.bus.specs.declared.Progress.{Progress}
use Rattle.bus.specs.declared.Progress.TheVariants.{Idle, Opened, Addressed, Register, Data, Again, Reading, Sending, Writing}
use Rattle.machine.specs.Acts.{does}
use Rattle.machine.specs.declared.Machine.{Machine}
use Rattle.machine.specs.declared.Act.{Act}
use Rattle.dock.specs.Events.{at_stop, stop_deed, turn_of, done, next, at_byte, byte_at}
use Rattle.dock.specs.Parts.{part_next}
use Rattle.dock.specs.declared.Controller.{Controller}
use Rattle.bus.specs.declared.Heard.{Heard}
use Rattle.bus.specs.declared.Heard.TheVariants.{On, Write, Read, End}
use Rattle.dock.proofs.Decided.{at_byte_lem, never_writes}
use Rattle.bus.specs.Progress.{heard, known_to}
use Prim.Native.Nat.{ℕ}
use Rattle.machine.specs.declared.Act.TheVariants as act
use Rattle.std.specs.Prelude.{Some, None}

module _ {A : Type 0} (part : Machine → A) (after : Machine → Act → A) (act-after : (a : Act) (m : Machine) → part (does a m) ≡ after m a) where
  pub part_next_lem : (s : Controller) (e : Event) → part (next s e).machine ≡ part_next part after s e
  unfolding next turn_of stop_deed byte_at
  part_next_lem s Start = refl
  part_next_lem s Stop = stops (known_to s.machine.kind s.progress)
    where
      stops : (p : Progress) → part (done (at_stop Some None p) s.machine) ≡ at_stop (after s.machine) (part s.machine) p
      stops Idle = refl
      stops Opened = refl
      stops Addressed = refl
      stops (Register r) = refl
      stops (Data r v) = act-after (act.Write r v) s.machine
      stops (Again r) = refl
      stops (Reading v) = refl
      stops (Writing r) = refl
      stops (Sending r v) = refl
  part_next_lem s (Byte b) = at_byte_lem part s.machine (hears b) ∙ bytes (hears b)
    where
      hears : ℕ → Heard
      hears b = heard s.machine.kind s.machine.straps b s.progress

      bytes : (h : Heard) → at_byte (λ a. part (does a s.machine)) (part s.machine) h ≡ at_byte (after s.machine) (part s.machine) h
      bytes (On p) = refl
      bytes (Write r v) = act-after (act.Write r v) s.machine
      bytes (Read r) = refl
      bytes End = refl
  part_next_lem s (Take ack) = ap part ((never_writes s).take ack)
  part_next_lem s (Pins levels) = act-after (act.Pins levels) s.machine
  part_next_lem s Tick = act-after act.Tick s.machine
  part_next_lem s (Reset straps levels short) = act-after (act.Reset straps levels short) s.machine
  part_next_lem s Timeout = refl

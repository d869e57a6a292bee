-- A property of the machine that a RESET makes true and each act keeps is true in every reached controller: by cases on what an event
-- has the machine do, and then along the list of words. Assumes nothing.
use Prim.Native.Nat.{ℕ, ◌≤◌}
use mathlib.Core.Path.{◌≡◌, refl, subst}
use mathlib.Core.Bool.{Bool, true, false, false≢true}
use mathlib.Core.List.{List, [], ◌∷◌}
use Rattle.event.specs.Words.{unpacked, straps_of}
use Rattle.event.specs.declared.Event.{Event}
use Rattle.event.specs.declared.Event.TheVariants.{Start, Stop, Byte, Take, Pins, Tick, Reset, Timeout}
use Rattle.event.proofs.Straps.{accepted_straps}
use Rattle.bits.specs.Straps.{MOST_STRAPS}
use Rattle.bay.proofs.Taut.{pick}
use Rattle.bus.specs.Progress.{heard, known_to}
use Rattle.bus.specs.declared.Progress.{Progress}
use Rattle.bus.specs.declared.Progress.TheVariants.{Idle, Opened, Addressed, Register, Data, Again, Reading, Sending, Writing}
use Rattle.bus.specs.declared.Heard.{Heard}
use Rattle.bus.specs.declared.Heard.TheVariants.{On, Write, Read, End}
use Rattle.machine.specs.Record.{fits, fresh_machine}
use Rattle.machine.specs.Acts.{does}
use Rattle.machine.specs.Kept.{Kept}
use Rattle.machine.specs.declared.Machine.{Machine}
use Rattle.machine.proofs.Kept.{Proper, act_keeps, started_kept}
use Rattle.dock.specs.Record.{fresh_controller}
use Rattle.dock.specs.Events.{stop_deed, byte_heard, byte_at, turn_of, done, next, at_stop, read_at, take_known}
use Rattle.dock.specs.Step.{takes, step_fit, step_of}
use Rattle.dock.specs.Run.{after, Reached, Call, after_call, after_calls, word, naming}
use Rattle.dock.specs.declared.Controller.{Controller}
use Rattle.dock.specs.declared.Stepped.{Stepped}
use Rattle.dock.specs.declared.Turn.{Turn}
use Rattle.kind.specs.Kind.{numbered}
use Rattle.dock.specs.declared.Renamed.{Renamed}
use Rattle.dock.specs.Name.{name_fit, name_of}
use Rattle.machine.specs.InForce.{reading}
use Rattle.std.specs.Prelude.{Result, Ok, Err, None, Option, Some}
use Rattle.event.specs.declared.NoEvent.{NoEvent}
use Rattle.machine.specs.declared.Act.{Act}
use Rattle.kind.specs.declared.Kind.{Kind}
use Rattle.kind.specs.declared.UnknownKind.{UnknownKind}

-- ---- what an event has the machine do is a proper act, if anything

ProperDeed : Option Act → Type 0
ProperDeed None = Unit {0}
ProperDeed (Some a) = Proper a

stop_proper : (p : Progress) → ProperDeed (at_stop Some None p)
unfolding ProperDeed Proper
stop_proper Idle = tt
stop_proper Opened = tt
stop_proper Addressed = tt
stop_proper (Register r) = tt
stop_proper (Data r v) = tt
stop_proper (Again r) = tt
stop_proper (Reading v) = tt
stop_proper (Writing r) = tt
stop_proper (Sending r v) = tt

byte_proper : (m : Machine) (h : Heard) → ProperDeed (byte_heard m.kind (reading m) h).deed
unfolding ProperDeed Proper byte_heard read_at
byte_proper m (On p) = tt
byte_proper m (Write r v) = tt
byte_proper m (Read r) = tt
byte_proper m End = tt

take_proper : (m : Machine) (ack : Bool) (p : Progress) → ProperDeed (take_known m.kind (reading m) ack p).deed
unfolding ProperDeed Proper take_known read_at
take_proper m ack Idle = tt
take_proper m ack Opened = tt
take_proper m ack Addressed = tt
take_proper m ack (Register r) = tt
take_proper m ack (Data r v) = tt
take_proper m ack (Again r) = tt
take_proper m ack (Reading v) = tt
take_proper m ack (Writing r) = tt
take_proper m ack (Sending r v) = pick (λ (t : Turn). ProperDeed t.deed) ack (λ _. tt) (λ _. tt)

deed_proper : (s : Controller) (e : Event) → straps_of e ≤ MOST_STRAPS → ProperDeed (turn_of s e).deed
unfolding turn_of stop_deed byte_at straps_of ProperDeed Proper
deed_proper s Start l = tt
deed_proper s Stop l = stop_proper (known_to s.machine.kind s.progress)
deed_proper s (Byte b) l = byte_proper s.machine (heard s.machine.kind s.machine.straps b s.progress)
deed_proper s (Take ack) l = take_proper s.machine ack (known_to s.machine.kind s.progress)
deed_proper s (Pins levels) l = tt
deed_proper s Tick l = tt
deed_proper s (Reset straps levels short) l = l
deed_proper s Timeout l = tt

-- ---- a kept property

module _ (P : Machine → Type 0) (kept : Kept P) where
  done_keeps : (d : Option Act) → ProperDeed d → (m : Machine) → fits m ≡ true → m.started ≡ true → P m → P (done d m)
  unfolding ProperDeed
  done_keeps None l m f t h = h
  done_keeps (Some a) l m f t h = act_keeps P kept a l m f t h

  -- Before the first RESET only a RESET acts, and nothing need hold.
  first_keeps : (s : Controller) (e : Event) → fits s.machine ≡ true → takes false e ≡ true → straps_of e ≤ MOST_STRAPS → P (next s e).machine
  unfolding next turn_of takes straps_of does
  first_keeps s Start f k l = absurd (false≢true k)
  first_keeps s Stop f k l = absurd (false≢true k)
  first_keeps s (Byte b) f k l = absurd (false≢true k)
  first_keeps s (Take ack) f k l = absurd (false≢true k)
  first_keeps s (Pins levels) f k l = absurd (false≢true k)
  first_keeps s Tick f k l = absurd (false≢true k)
  first_keeps s (Reset straps levels short) f k l = kept.by_reset straps levels short s.machine l f
  first_keeps s Timeout f k l = absurd (false≢true k)

  pub event_keeps :
      (s : Controller) (e : Event) → fits s.machine ≡ true → straps_of e ≤ MOST_STRAPS → takes s.machine.started e ≡ true
      → (s.machine.started ≡ true → P s.machine)
      → P (next s e).machine
  unfolding next
  event_keeps s e f l k h = go s.machine.started refl k
    where
      go : (b : Bool) → s.machine.started ≡ b → takes b e ≡ true → P (next s e).machine
      go true t k = done_keeps (turn_of s e).deed (deed_proper s e l) s.machine f t (h t)
      go false t k = first_keeps s e f k l

  word_keeps : (s : Controller) (u : Result Event NoEvent) → fits s.machine ≡ true → ((e : Event) → u ≡ Ok e → straps_of e ≤ MOST_STRAPS) → P s.machine → P (step_fit s u).controller.machine
  word_keeps s (Err why) f l h = h
  word_keeps s (Ok e) f l h =
      pick (λ (x : Stepped). P x.controller.machine) (takes s.machine.started e) (λ k. event_keeps s e f (l e refl) k (λ t. h)) (λ k. h)

  pub step_keeps : (s : Controller) (w : ℕ) → P s.machine → P (step_of s w).controller.machine
  unfolding step_of
  step_keeps s w h =
      pick (λ (x : Stepped). P x.controller.machine) (fits s.machine) (λ f. word_keeps s (unpacked w) f (accepted_straps w) h) (λ f. h)

  pub run_keeps : (s : Controller) (ws : List ℕ) → P s.machine → P (after s ws).machine
  unfolding after
  run_keeps s [] h = h
  run_keeps s (w ∷ ws) h = run_keeps (step_of s w).controller ws (step_keeps s w h)

  -- A name keeps it too.
  pub name_keeps : (s : Controller) (n : ℕ) → P s.machine → P (name_of s n).controller.machine
  unfolding name_of does
  name_keeps s n h = pick Q (fits s.machine) (λ f. by_number (numbered n)) (λ f. h)
    where
      Q : Renamed → Type 0
      Q r = P r.controller.machine

      by_number : (k : Result Kind UnknownKind) → Q (name_fit s k)
      by_number (Ok k) = kept.by_name k s.machine h
      by_number (Err why) = h

  call_keeps : (s : Controller) (c : Call) → P s.machine → P (after_call s c).machine
  call_keeps s (word w) h = step_keeps s w h
  call_keeps s (naming n) h = name_keeps s n h

  pub calls_keep : (s : Controller) (cs : List Call) → P s.machine → P (after_calls s cs).machine
  unfolding after_calls
  calls_keep s [] h = h
  calls_keep s (c ∷ cs) h = calls_keep (after_call s c) cs (call_keeps s c h)

  pub reached_keeps : (s : Controller) → P fresh_machine → Reached s → P s.machine
  unfolding fresh_controller
  reached_keeps s h r = subst (λ (t : Controller). P t.machine) r.by (calls_keep fresh_controller r.calls h)

-- A controller that has taken an event is started.
pub taken_started :
    (s : Controller) (e : Event) → fits s.machine ≡ true → straps_of e ≤ MOST_STRAPS → takes s.machine.started e ≡ true → (next s e).machine.started ≡ true
taken_started s e f l k = event_keeps (λ m. m.started ≡ true) started_kept s e f l k (λ t. t)

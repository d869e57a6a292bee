-- REMREQ_STS over events, and a press where there is no device or one arrives (document 02, request 1). The first part holds in every
-- controller, the second in those reached from a fresh one. Assumes nothing.
use Prim.Native.Nat.{ℕ}
use mathlib.Core.Path.{◌≡◌, refl, sym, subst, ◌∙◌}
use mathlib.Core.Bool.{true, false, and-not_self, false≢true}
use Rattle.event.specs.Words.{unpacked}
use Rattle.event.specs.declared.Event.{Event}
use Rattle.event.specs.declared.Event.TheVariants.{Start, Stop, Byte, Take, Pins, Tick, Reset, Timeout}
use Rattle.bus.specs.declared.Progress.{Progress}
use Rattle.bus.specs.declared.Progress.TheVariants.{Idle, Opened, Addressed, Register, Data, Again, Reading, Sending, Writing}
use Rattle.bay.specs.Record.{present}
use Rattle.bay.specs.Moves.{ticked_bay}
use Rattle.bay.specs.Sound.{Sound}
use Rattle.bay.specs.Table.{press_over}
use Rattle.bay.specs.declared.Bay.{Bay}
use Rattle.bay.specs.declared.Setting.{Setting}
use Rattle.bay.proofs.Taut.{pick}
use Rattle.bay.proofs.Sound.{ticked_sound}
use Rattle.bay.proofs.Press.{WithArrival, press_over_nothing, empty_without_device, press_with_arrival}
use Rattle.machine.specs.Record.{bay_at, is_open, fits}
use Rattle.machine.specs.Setting.{hides, setting_of}
use Rattle.machine.specs.Acts.{does}
use Rattle.machine.specs.Remreq.{remreq, remreq_after}
use Rattle.machine.specs.After.{bay_after}
use Rattle.machine.proofs.After.{bay_after_lem}
use Rattle.machine.proofs.Remreq.{remreq_after_lem}
use Rattle.dock.specs.Events.{at_stop, turn_of, next, at_byte}
use Rattle.dock.specs.Step.{takes, step_fit, step_of}
use Rattle.dock.specs.Run.{Reached}
use Rattle.dock.specs.Remreq.{remreq_next, after_tick}
use Rattle.dock.specs.declared.Controller.{Controller}
use Rattle.dock.specs.declared.Stepped.{Stepped}
use Rattle.dock.proofs.Laws.{reached_sound}
use Rattle.dock.proofs.Parts.{part_next_lem}
use Rattle.bus.specs.declared.Heard.{Heard}
use Rattle.bus.specs.declared.Heard.TheVariants.{On, Write, Read, End}
use Rattle.bus.specs.Progress.{heard, known_to}
use Rattle.machine.specs.declared.Act.TheVariants as act
use Rattle.std.specs.Prelude.{Result, Ok, Err}
use Rattle.event.specs.declared.NoEvent.{NoEvent}

-- ---- at each event and each word

pub remreq_next_lem : (s : Controller) (e : Event) (i : ℕ) → remreq (next s e).machine i ≡ remreq_next s i e
unfolding remreq_next
remreq_next_lem s e i = part_next_lem (λ m. remreq m i) (λ m a. remreq_after m i a) (λ a m. remreq_after_lem a m i) s e

-- So REMREQ_STS goes from 0 to 1 only at a TICK that accepts a press with a device present at its end.
pub record Raised (s : Controller) (i : ℕ) (u : Result Event NoEvent) (after : Controller) : Type 0 where
  pub a_tick : u ≡ Ok Tick
  pub a_press : press_over (hides s.machine) (bay_at s.machine i) (bay_at after.machine i) ≡ true

event_raises : (s : Controller) (e : Event) (i : ℕ) → remreq s.machine i ≡ false → remreq_next s i e ≡ true → Raised s i (Ok e) (next s e)
unfolding next turn_of remreq_next remreq_after
event_raises s Start i z t = absurd (false≢true (sym z ∙ t))
event_raises s Stop i z t = absurd (false≢true (sym (stopped (known_to s.machine.kind s.progress)) ∙ t))
  where
    stopped : (p : Progress) → at_stop (remreq_after s.machine i) (remreq s.machine i) p ≡ false
    stopped Idle = z
    stopped Opened = z
    stopped Addressed = z
    stopped (Register r) = z
    stopped (Data r v) = rw z
    stopped (Again r) = z
    stopped (Reading v) = z
    stopped (Writing r) = z
    stopped (Sending r v) = z
event_raises s (Byte b) i z t = absurd (false≢true (sym (heard_as_lem (heard s.machine.kind s.machine.straps b s.progress)) ∙ t))
  where
    heard_as_lem : (h : Heard) → at_byte (remreq_after s.machine i) (remreq s.machine i) h ≡ false
    heard_as_lem (On p) = z
    heard_as_lem (Write r v) = rw z
    heard_as_lem (Read r) = z
    heard_as_lem End = z
event_raises s (Take ack) i z t = absurd (false≢true (sym z ∙ t))
event_raises s (Pins levels) i z t = absurd (false≢true (sym z ∙ t))
event_raises s Tick i z t = record { a_tick = refl; a_press = rw z at t }
event_raises s (Reset straps levels short) i z t = absurd (false≢true t)
event_raises s Timeout i z t = absurd (false≢true (sym z ∙ t))

pub remreq_raised :
    (s : Controller) (w i : ℕ) → remreq s.machine i ≡ false → remreq (step_of s w).controller.machine i ≡ true
    → Raised s i (unpacked w) (step_of s w).controller
unfolding step_of
remreq_raised s w i z = pick (P (unpacked w)) (fits s.machine) (λ f. word (unpacked w)) (λ f t. absurd (false≢true (sym z ∙ t)))
  where
    P : Result Event NoEvent → Stepped → Type 0
    P u x = remreq x.controller.machine i ≡ true → Raised s i u x.controller

    word : (u : Result Event NoEvent) → P u (step_fit s u)
    word (Err why) = λ t. absurd (false≢true (sym z ∙ t))
    word (Ok e) = pick (P (Ok e)) (takes s.machine.started e) (λ k t. event_raises s e i z (sym (remreq_next_lem s e i) ∙ t)) (λ k t. absurd (false≢true (sym z ∙ t)))

-- ---- a press over nothing, and one as a device arrives, in a reached state

-- What holds of a bay where a TICK is refused or passes it by, and where it acts, holds after a TICK.
tick_either : (P : Bay → Type 0) (s : Controller) (i : ℕ) → P (bay_at s.machine i) → P (ticked_bay (hides s.machine) (setting_of s.machine) (bay_at s.machine i)) → P (bay_at (after_tick s) i)
unfolding step_of unpacked next turn_of bay_after
tick_either P s i same ticked =
    pick Q (fits s.machine) (λ f. pick Q (takes s.machine.started Tick) (λ k. acted) (λ k. same)) (λ f. same)
  where
    Q : Stepped → Type 0
    Q x = P (bay_at x.controller.machine i)

    acted : P (bay_at (does act.Tick s.machine) i)
    acted = subst P (sym (bay_after_lem act.Tick s.machine i)) (pick P (is_open s.machine i) (λ o. ticked) (λ o. same))

-- A TICK after which a bay holds no device leaves its REMREQ_STS as it was, set or not and whatever is pressed, and the bay is Empty.
pub record NothingAsked (before after : Bay) : Type 0 where
  pub remreq_kept : after.remreq_sts ≡ before.remreq_sts
  pub empty : after.state ≡ 0

pub reached_press_over_nothing :
    (s : Controller) → Reached s → (i : ℕ) → present (hides s.machine) (bay_at (after_tick s) i) ≡ false → NothingAsked (bay_at s.machine i) (bay_at (after_tick s) i)
reached_press_over_nothing s r i =
    tick_either (λ c. present (hides s.machine) c ≡ false → NothingAsked b c) s i
    (λ q. record { remreq_kept = refl; empty = empty_without_device (hides s.machine) b sound q })
    (λ q. record { remreq_kept = (press_over_nothing (hides s.machine) g b q).remreq_kept; empty = empty_without_device (hides s.machine) (ticked_bay (hides s.machine) g b) (ticked_sound (hides s.machine) g b sound) q })
  where
    g : Setting
    g = setting_of s.machine

    b : Bay
    b = bay_at s.machine i

    sound : Sound (hides s.machine) b
    sound = (reached_sound s r).bays i

-- A press in the TICK in which a device arrives: REMREQ_STS is set, and the bay is Inserted if DEVSTSCHG_EN is 1 and it needn't wait, and
-- else still Empty.
pub reached_press_with_arrival :
    (s : Controller) → Reached s → (i : ℕ) → present (hides s.machine) (bay_at s.machine i) ≡ false
    → press_over (hides s.machine) (bay_at s.machine i) (bay_at (after_tick s) i) ≡ true → WithArrival (hides s.machine) (setting_of s.machine) (bay_at s.machine i) (bay_at (after_tick s) i)
reached_press_with_arrival s r i p =
    tick_either (λ c. press_over (hides s.machine) b c ≡ true → WithArrival (hides s.machine) (setting_of s.machine) b c) s i (λ k. absurd (false≢true (rw and-not_self at k)))
    (press_with_arrival (hides s.machine) (setting_of s.machine) b ((reached_sound s r).bays i) p)
  where
    b : Bay
    b = bay_at s.machine i

-- What the controller's rules come to (document 01): the theorems that others cite. The first parts hold in every state, or in every
-- fit one; the last only in states reached from a fresh controller. Assumes nothing.
use Prim.Native.Nat.{ℕ, ◌/◌, ◌%◌}
use mathlib.Core.Path.{◌≡◌, refl, ap, ◌∙◌, sym}
use mathlib.Core.Logic.{◌≢◌}
use mathlib.Core.Bool.{true}
use Rattle.event.specs.declared.Event.TheVariants.{Stop, Pins, Tick}
use Rattle.bay.specs.Record.{present, EMPTY}
use Rattle.bay.proofs.Press.{Press, Kept as Pressed, press_then_write}
use Rattle.bus.specs.declared.Progress.TheVariants.{Idle, Data}
use Rattle.machine.specs.Record.{bay_at, is_open, fits}
use Rattle.machine.specs.Setting.{hides, setting_of}
use Rattle.machine.specs.After.{bcer_address, bcer_own}
use Rattle.machine.proofs.Moves.{moves}
use Rattle.machine.specs.Acts.{tick_to, does}
use Rattle.machine.specs.Sound.{Sound}
use Rattle.machine.proofs.Fit.{fits_kept}
use Rattle.machine.proofs.Sound.{fresh_sound, sound_kept}
use Rattle.dock.specs.Events.{stop_deed, stop_at, turn_of, taken, next}
use Rattle.dock.specs.Step.{step_of}
use Rattle.dock.specs.Run.{Reached}
use Rattle.dock.specs.declared.Controller.{Controller}
use Rattle.dock.proofs.Kept.{step_keeps, reached_keeps}
use Rattle.kind.specs.declared.Kind.TheVariants.{First}
use Rattle.bus.specs.Progress.{known_to}
use Rattle.machine.specs.declared.Act.TheVariants as act

-- ---- a step from a fit state gives a fit state

pub step_fit_lem : (s : Controller) (w : ℕ) → fits s.machine ≡ true → fits (step_of s w).controller.machine ≡ true
step_fit_lem = step_keeps (λ m. fits m ≡ true) fits_kept

-- ---- a press inside a write

-- PINS and TICK are passed over by a command, and a command that isn't decided leaves everything but itself as it is.
pub pins_passed_over : (levels : ℕ) (s : Controller) → (next s (Pins levels)).progress ≡ s.progress
unfolding next turn_of
pins_passed_over levels s = refl

pub tick_passed_over : (s : Controller) → (next s Tick).progress ≡ s.progress
unfolding next turn_of
tick_passed_over s = refl

-- In the first kind the STOP after a data byte writes into the machine as it then is.
pub stop_decides :
    (s : Controller) (r v : ℕ) → s.machine.kind ≡ First → s.progress ≡ Data r v → next s Stop ≡ record { machine = does (act.Write r v) s.machine; progress = Idle }
unfolding next turn_of stop_deed known_to
stop_decides s r v e p = ap (λ k. taken (stop_at k s.progress) s.machine) e ∙ ap (λ q. taken (stop_at First q) s.machine) p

-- What a TICK does between the data byte and the STOP is done before the write acts.
pub tick_inside_a_write :
    (s : Controller) (r v : ℕ) → s.machine.kind ≡ First → s.progress ≡ Data r v
    → next (next s Tick) Stop ≡ record { machine = does (act.Write r v) (does act.Tick s.machine); progress = Idle }
unfolding next turn_of does tick_to
tick_inside_a_write s r v e p = stop_decides (next s Tick) r v e (tick_passed_over s ∙ p)

-- So a press that a TICK accepts between the data byte and the STOP of a write of BCER has moved the bay before the write acts on it, and
-- a write that asks for no state doesn't lose it.
pub press_inside_a_write :
    (s : Controller) (i v : ℕ) → s.machine.kind ≡ First → is_open s.machine i ≡ true → s.progress ≡ Data (bcer_address First i) v → v / 16 % 8 ≡ 0
    → Press (hides s.machine) (setting_of s.machine) (bay_at s.machine i) → Pressed v (bay_at (next (next s Tick) Stop).machine i)
unfolding does tick_to hides
press_inside_a_write s i v e o d z p =
    let m = does act.Tick s.machine in
    let own : does (act.Write (bcer_address First i) v) m ≡ does (act.Write (bcer_own m i) v) m = ap (λ k. does (act.Write (bcer_address k i) v) m) (sym e) in
    rw (tick_inside_a_write s (bcer_address First i) v e d, own, (moves m i).bcer v o, (moves s.machine i).tick o)
    (press_then_write (hides s.machine) v _ _ (bay_at s.machine i) z p)

-- ---- reached states: the fault that started this work

pub reached_sound : (s : Controller) → Reached s → Sound s.machine
reached_sound s = reached_keeps Sound sound_kept s fresh_sound

-- No reached state has a powered bay without a device, or without its lock.
pub no_power_without_device :
    (s : Controller) → Reached s → (i : ℕ)
    → (bay_at s.machine i).control.pwr_ctl ≡ true → ((bay_at s.machine i).control.lock_ctl ≡ true) × (present (hides s.machine) (bay_at s.machine i) ≡ true)
no_power_without_device s r i = ((reached_sound s r).bays i).powered

-- In a reached state a bay that isn't Empty, so also an Enabled one, holds a device.
pub no_state_without_device : (s : Controller) → Reached s → (i : ℕ) → (bay_at s.machine i).state ≢ EMPTY → present (hides s.machine) (bay_at s.machine i) ≡ true
no_state_without_device s r i = ((reached_sound s r).bays i).held

-- A property that every act keeps, of a machine started or not, every call keeps: by cases on what an event has the machine do, and then
-- along the list of calls. Assumes nothing.
use Prim.Native.Nat.{ℕ}
use mathlib.Core.List.{List, [], ◌∷◌}
use Rattle.event.specs.Words.{unpacked}
use Rattle.kind.specs.Kind.{numbered}
use Rattle.bay.proofs.Taut.{pick}
use Rattle.machine.specs.Record.{fits}
use Rattle.machine.specs.Acts.{does}
use Rattle.machine.specs.declared.Machine.{Machine}
use Rattle.machine.specs.declared.Act.{Act}
use Rattle.machine.specs.declared.Act.TheVariants.{Name}
use Rattle.dock.specs.Events.{turn_of, done, next}
use Rattle.dock.specs.Step.{takes, step_fit, step_of}
use Rattle.dock.specs.Name.{name_fit, name_of}
use Rattle.dock.specs.Run.{Call, word, naming, after_call, after_calls}
use Rattle.dock.specs.declared.Controller.{Controller}
use Rattle.dock.specs.declared.Renamed.{Renamed}
use Rattle.dock.specs.declared.Stepped.{Stepped}
use Rattle.std.specs.Prelude.{Result, Ok, Err, None, Option, Some}
use Rattle.event.specs.declared.Event.{Event}
use Rattle.event.specs.declared.NoEvent.{NoEvent}
use Rattle.kind.specs.declared.Kind.{Kind}
use Rattle.kind.specs.declared.UnknownKind.{UnknownKind}

module _ (P : Machine → Type 0) (kept : (a : Act) (m : Machine) → P m → P (does a m)) where
  deed_keeps : (d : Option Act) (m : Machine) → P m → P (done d m)
  deed_keeps None m h = h
  deed_keeps (Some a) m h = kept a m h

  word_keeps : (s : Controller) (u : Result Event NoEvent) → P s.machine → P (step_fit s u).controller.machine
  unfolding next
  word_keeps s (Err why) h = h
  word_keeps s (Ok e) h =
      pick (λ (x : Stepped). P x.controller.machine) (takes s.machine.started e) (λ t. deed_keeps (turn_of s e).deed s.machine h) (λ t. h)

  number_keeps : (s : Controller) (n : Result Kind UnknownKind) → P s.machine → P (name_fit s n).controller.machine
  number_keeps s (Ok k) h = kept (Name k) s.machine h
  number_keeps s (Err why) h = h

  every_step : (s : Controller) (w : ℕ) → P s.machine → P (step_of s w).controller.machine
  unfolding step_of
  every_step s w h = pick (λ (x : Stepped). P x.controller.machine) (fits s.machine) (λ f. word_keeps s (unpacked w) h) (λ f. h)

  every_name : (s : Controller) (n : ℕ) → P s.machine → P (name_of s n).controller.machine
  unfolding name_of
  every_name s n h = pick (λ (x : Renamed). P x.controller.machine) (fits s.machine) (λ f. number_keeps s (numbered n) h) (λ f. h)

  every_call : (s : Controller) (c : Call) → P s.machine → P (after_call s c).machine
  every_call s (word w) h = every_step s w h
  every_call s (naming n) h = every_name s n h

  pub every_list : (s : Controller) (cs : List Call) → P s.machine → P (after_calls s cs).machine
  unfolding after_calls
  every_list s [] h = h
  every_list s (c ∷ cs) h = every_list (after_call s c) cs (every_call s c h)

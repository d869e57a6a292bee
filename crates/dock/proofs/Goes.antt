-- The single call for a caller that has seen that the state is fit and knows its outputs: it goes on as the single call does, and
-- the outputs that it tells are those of the state that it leaves. Assumes nothing.
use Prim.Native.Nat.{ℕ, ◌<◌, ◌^◌}
use mathlib.Core.Path.{◌≡◌, refl, ap, sym}
use mathlib.Core.Bool.{Bool, true, false, cond, ◌||◌}
use Rattle.event.specs.Words.{unpacked}
use Rattle.event.specs.declared.Event.{Event}
use Rattle.event.proofs.Theorems.{resets}
use Rattle.bay.proofs.Taut.{pick}
use Rattle.machine.specs.Record.{fits}
use Rattle.machine.specs.Outputs.{outputs}
use Rattle.machine.specs.declared.Machine.{Machine}
use Rattle.machine.proofs.Keeps.{kept_outputs}
use Rattle.dock.specs.Events.{turn_of, done, next, kept}
use Rattle.dock.specs.Step.{takes, refused, done_step, step_fit, step_of, takes_word, untaken, stays, outputs_after, went, went_by, went_of}
use Rattle.dock.specs.declared.Controller.{Controller}
use Rattle.dock.specs.declared.Stepped.{Stepped}
use Rattle.dock.specs.declared.Went.{Went}
use Rattle.std.specs.Prelude.{Result, Ok, Err, None, Option, Some}
use Rattle.event.specs.declared.NoEvent.{NoEvent}
use Rattle.event.specs.Words.{no_event}
use Rattle.machine.specs.declared.Act.{Act}
use Rattle.dock.specs.declared.Refusal.TheVariants.{NotStarted}

-- ---- by the kind of the word

takes_by_word : (started : Bool) (w : ℕ) → w < 2 ^ 16 → (e : Event) → unpacked w ≡ Ok e → takes started e ≡ takes_word started w
unfolding takes
takes_by_word started w l e p = ap (λ r. started || r) (resets w l e p)

pub went_untaken :
    (s : Controller) (o w : ℕ) → w < 2 ^ 16 → takes_word s.machine.started w ≡ false → went_of s o w ≡ stays s (untaken o (unpacked w)) o
unfolding went_of
went_untaken s o w l f = go (unpacked w) refl
  where
    go : (u : Result Event NoEvent) → unpacked w ≡ u → went_by s o u ≡ stays s (untaken o u) o
    go (Err why) p = refl
    go (Ok e) p = rw (takes_by_word s.machine.started w l e p, f)

pub went_stray : (s : Controller) (o w : ℕ) → unpacked w ≡ Err no_event → went_of s o w ≡ stays s (untaken o (Err no_event)) o
unfolding went_of
went_stray s o w p = rw p

pub went_taken :
    (s : Controller) (o w : ℕ) → w < 2 ^ 16 → takes_word s.machine.started w ≡ true → (e : Event) → unpacked w ≡ Ok e
    → went_of s o w ≡ went s o e
unfolding went_of
went_taken s o w l t e p = rw (p, takes_by_word s.machine.started w l e p, t)

-- ---- as the single call does

-- What leaves the outputs as they were does so.
deed_keeps : (d : Option Act) (m : Machine) → kept d m ≡ true → outputs (done d m) ≡ outputs m
deed_keeps None m k = refl
deed_keeps (Some a) m k = kept_outputs a m k

same_after : (s : Controller) (e : Event) → outputs_after s (outputs s.machine) e ≡ outputs (next s e).machine
unfolding outputs_after next
same_after s e =
    pick (λ o. o ≡ outputs (next s e).machine) (kept (turn_of s e).deed s.machine)
    (λ k. sym (deed_keeps (turn_of s e).deed s.machine k)) (λ k. refl)

-- What the single call makes of a fit state, with the outputs that its state then has.
abbrev pub stepped : Stepped → Went
stepped r = record { controller = r.controller; answer = r.answer; outputs = outputs r.controller.machine }

pub goes_as_step : (s : Controller) (w : ℕ) → fits s.machine ≡ true → went_of s (outputs s.machine) w ≡ stepped (step_of s w)
unfolding went_of step_of
goes_as_step s w f = rw f (go (unpacked w))
  where
    go : (u : Result Event NoEvent) → went_by s (outputs s.machine) u ≡ stepped (step_fit s u)
    go (Err why) = refl
    go (Ok e) = taken_or_not (takes s.machine.started e)
      where
        taken_or_not :
            (t : Bool)
            → cond t (went s (outputs s.machine) e) (stays s (Err NotStarted) (outputs s.machine))
            ≡ stepped (cond t (done_step s e) (refused s (Err NotStarted)))
        taken_or_not true = rw (same_after s e)
        taken_or_not false = refl

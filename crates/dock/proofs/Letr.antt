-- LETR over events, and where the words of a RESET start it (document 02, request 4), in every fit controller. Assumes nothing.
use Prim.Native.Nat.{ℕ, ◌+◌, ◌*◌, ◌<◌}
use mathlib.Core.Path.{◌≡◌, ap}
use mathlib.Core.Bool.{Bool, true, false, cond}
use Rattle.event.specs.Words.{unpacked}
use Rattle.event.specs.declared.Event.{Event}
use Rattle.event.specs.declared.Event.TheVariants.{Reset}
use Rattle.event.proofs.Theorems.{by_kind}
use Rattle.machine.specs.Record.{fits}
use Rattle.machine.specs.InForce.{reading, written}
use Rattle.machine.specs.Acts.{reset_to, does}
use Rattle.machine.specs.Letr.{letr, letr_after}
use Rattle.machine.proofs.Letr.{letr_after_lem, start_only}
use Rattle.machine.proofs.Map.{reset_begins}
use Rattle.dock.specs.Events.{turn_of, next}
use Rattle.dock.specs.Step.{refused, done_step, step_fit, step_of, after_word}
use Rattle.dock.specs.Letr.{letr_next}
use Rattle.dock.specs.declared.Controller.{Controller}
use Rattle.dock.specs.declared.Stepped.{Stepped}
use Rattle.dock.proofs.Parts.{part_next_lem}
use Rattle.dock.proofs.Refusals.{reset_taken}
use Rattle.kind.specs.declared.Kind.TheVariants.{First}
use Rattle.std.specs.Prelude.{Ok, Err}
use Rattle.dock.specs.declared.Refusal.TheVariants.{Unfit}

pub letr_next_lem : (s : Controller) (e : Event) → letr (next s e).machine ≡ letr_next s e
unfolding letr_next
letr_next_lem = part_next_lem letr letr_after letr_after_lem

-- The word of a RESET makes a machine anew, whatever was before but for what the second kind keeps.
reset_step :
    (s : Controller) (w straps levels : ℕ) (short : Bool) → fits s.machine ≡ true → unpacked w ≡ Ok (Reset straps levels short)
    → after_word s w ≡ reset_to straps levels short s.machine
unfolding step_of next turn_of does
reset_step s w straps levels short f u = ap (λ (x : Stepped). x.controller.machine) taken
  where
    taken : cond (fits s.machine) (step_fit s (unpacked w)) (refused s (Err Unfit)) ≡ done_step s (Reset straps levels short)
    taken = rw (f, u, reset_taken s.machine.started straps levels short)

-- Into the first kind, C000h to CFFFh start LETR at 1 and D000h to DFFFh at 0; between the two the machines differ by a write of 0 to LETR.
pub record Starts (s : Controller) (straps levels : ℕ) : Type 0 where
  pub long : reading (after_word s (0xC000 + (straps * 256 + levels))) 0x40 ≡ 1
  pub short : reading (after_word s (0xD000 + (straps * 256 + levels))) 0x40 ≡ 0
  pub letr_only : after_word s (0xD000 + (straps * 256 + levels)) ≡ written 0x40 0 (after_word s (0xC000 + (straps * 256 + levels)))

pub reset_starts_letr : (s : Controller) → fits s.machine ≡ true → s.machine.named ≡ First → (straps levels : ℕ) → straps < 16 → levels < 256 → Starts s straps levels
reset_starts_letr s f e straps levels h l =
    let c = reset_step s _ straps levels false f (by_kind.reset straps levels h l) in
    let d = reset_step s _ straps levels true f (by_kind.reset_short straps levels h l) in
    record {
      long = rw c (reset_begins straps levels false s.machine e).letr;
      short = rw d (reset_begins straps levels true s.machine e).letr;
      letr_only = rw (c, d) (start_only straps levels s.machine e).short;
    }

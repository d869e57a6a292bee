-- The contracts of the exported calls determine their answers, and that of `step` the whole list after the call. Assumes nothing.
use Prim.Native.Nat.{ℕ}
use mathlib.Core.Path.{◌≡◌, sym, ◌∙◌}
use mathlib.Core.Bool.{Bool}
use mathlib.Core.List.{List}
use Rattle.bus.specs.declared.Reply.{Reply}
use Rattle.dock.specs.declared.Controller.{Controller}
use Rattle.chassis.specs.declared.Chassis.{Chassis}
use Rattle.chassis.specs.declared.Errand.{Errand}
use Rattle.chassis.specs.declared.Refusal.{Refusal}
use Rattle.chassis.specs.declared.Round.{Round}
use Rattle.chassis.specs.declared.Seen.{Seen}
use Rattle.chassis.specs.declared.Stepped.{Stepped}
use Rattle.chassis.specs.declared.Told.{Told}
use Rattle.chassis.specs.Chassis.{Called}
use Rattle.chassis.proofs.Chassis.step.Reads as held_reads
use Rattle.chassis.proofs.Seen.begun.Reads as begun_reads
use Rattle.chassis.proofs.Seen.«with».Reads as with_reads
use Rattle.chassis.proofs.Seen.errand.Reads as errand_reads
use Rattle.chassis.proofs.Errand.places.Reads as places_reads
use Rattle.chassis.proofs.Errand.set_out.Reads as out_reads
use Rattle.chassis.proofs.Errand.reaches.Reads as reaches_reads
use Rattle.chassis.proofs.Round.gathered.Reads as gathered_reads
use Rattle.chassis.proofs.Errand.told.Reads as told_reads
use Rattle.chassis.proofs.Refusal.number.Reads as number_reads

-- What `step` ensures is `Called`, of the list before and after the call.
pub step_determined : (cs : List Controller) (n w : ℕ) (a b : List Controller) (s t : Told) → Called cs n w a s → Called cs n w b t → (a ≡ b) × (s ≡ t)
step_determined cs n w a b s t p q = (p.leaves ∙ sym q.leaves, p.answers ∙ sym q.answers)

pub held_determined : (h : Chassis) (n w : ℕ) (r s : Stepped) → held_reads.Post tt (h, (n, (w, tt))) r (h, (n, (w, tt))) → held_reads.Post tt (h, (n, (w, tt))) s (h, (n, (w, tt))) → r ≡ s
held_determined h n w r s p q = p ∙ sym q

-- ---- the same call in its parts

pub begun_determined : (r s : Seen) → begun_reads.Post tt tt r tt → begun_reads.Post tt tt s tt → r ≡ s
begun_determined r s p q = p ∙ sym q

pub with_determined : (x : Seen) (c : Controller) (r s : Seen) → with_reads.Post tt (x, (c, tt)) r (x, (c, tt)) → with_reads.Post tt (x, (c, tt)) s (x, (c, tt)) → r ≡ s
with_determined x c r s p q = p ∙ sym q

pub errand_determined : (x : Seen) (m n w : ℕ) (r s : Errand) → errand_reads.Post tt (x, (m, (n, (w, tt)))) r (x, (m, (n, (w, tt)))) → errand_reads.Post tt (x, (m, (n, (w, tt)))) s (x, (m, (n, (w, tt)))) → r ≡ s
errand_determined x m n w r s p q = p ∙ sym q

pub places_determined : (e : Errand) (m r s : ℕ) → places_reads.Post tt (e, (m, tt)) r (e, (m, tt)) → places_reads.Post tt (e, (m, tt)) s (e, (m, tt)) → r ≡ s
places_determined e m r s p q = p ∙ sym q

pub set_out_determined : (e : Errand) (r s : Round) → out_reads.Post tt (e, tt) r (e, tt) → out_reads.Post tt (e, tt) s (e, tt) → r ≡ s
set_out_determined e r s p q = p ∙ sym q

pub reaches_determined : (e : Errand) (n : ℕ) (r s : Bool) → reaches_reads.Post tt (e, (n, tt)) r (e, (n, tt)) → reaches_reads.Post tt (e, (n, tt)) s (e, (n, tt)) → r ≡ s
reaches_determined e n r s p q = p ∙ sym q

pub gathered_determined : (y : Round) (x : Reply) (o : ℕ) (r s : Round) → gathered_reads.Post tt (y, (x, (o, tt))) r (y, (x, (o, tt))) → gathered_reads.Post tt (y, (x, (o, tt))) s (y, (x, (o, tt))) → r ≡ s
gathered_determined y x o r s p q = p ∙ sym q

pub told_determined : (e : Errand) (y : Round) (r s : Told) → told_reads.Post tt (e, (y, tt)) r (e, (y, tt)) → told_reads.Post tt (e, (y, tt)) s (e, (y, tt)) → r ≡ s
told_determined e y r s p q = p ∙ sym q

-- ---- the answer by numbers

pub number_determined : (x : Refusal) (r s : ℕ) → number_reads.Post tt (x, tt) r (x, tt) → number_reads.Post tt (x, tt) s (x, tt) → r ≡ s
number_determined x r s p q = p ∙ sym q

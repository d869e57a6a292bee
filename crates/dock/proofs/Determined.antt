-- The contract of each exported call, as the checker reads it, determines the call's answer. Assumes nothing.
use Rattle.dock.proofs.Controller.name.Reads as name_reads
use Rattle.dock.specs.declared.Renamed.{Renamed}
use Prim.Native.Nat.{ℕ}
use mathlib.Core.Path.{◌≡◌, ◌∙◌, sym}
use mathlib.Core.Bool.{Bool}
use Rattle.dock.specs.declared.Controller.{Controller}
use Rattle.dock.specs.declared.Stepped.{Stepped}
use Rattle.dock.specs.declared.Went.{Went}
use Rattle.dock.proofs.Controller.fresh.Reads as fresh_reads
use Rattle.dock.proofs.Controller.fit.Reads as fit_reads
use Rattle.dock.proofs.Controller.step.Reads as step_reads
use Rattle.dock.proofs.Controller.goes.Reads as goes_reads
use Rattle.dock.proofs.Controller.reading.Reads as reading_reads
use Rattle.dock.proofs.Controller.outputs.Reads as outputs_reads
use Rattle.dock.proofs.Controller.held.Reads as held_reads
use Rattle.dock.proofs.Refusal.number.Reads as number_reads
use Rattle.dock.proofs.Refusal.outputs.Reads as refused_outputs_reads
use Rattle.dock.proofs.answers.NumbersFromAnswer.from.Reads as numbers_reads
use Rattle.dock.proofs.reply_in.Reads as reply_reads
use Rattle.dock.proofs.held_value.Reads as held_value_reads
use Rattle.dock.proofs.outputs_of.Reads as driven_reads
use Rattle.dock.proofs.NamingRefusal.number.Reads as naming_number_reads
use Rattle.bus.specs.declared.Reply.{Reply}
use Rattle.dock.specs.declared.Numbers.{Numbers}
use Rattle.dock.specs.declared.Refusal.{Refusal}
use Rattle.std.specs.Prelude.{Result, Option}
use Rattle.dock.specs.declared.NamingRefusal.{NamingRefusal}
use Rattle.dock.specs.Answers.{Answer}

pub fresh_determined : (r s : Controller) → fresh_reads.Post tt tt r tt → fresh_reads.Post tt tt s tt → r ≡ s
fresh_determined r s p q = p ∙ sym q

pub fit_determined : (x : Controller) (r s : Bool) → fit_reads.Post tt (x, tt) r (x, tt) → fit_reads.Post tt (x, tt) s (x, tt) → r ≡ s
fit_determined x r s p q = p ∙ sym q

pub step_determined :
    (x : Controller) (w : ℕ) (r s : Stepped) → step_reads.Post tt (x, (w, tt)) r (x, (w, tt)) → step_reads.Post tt (x, (w, tt)) s (x, (w, tt)) → r ≡ s
step_determined x w r s p q = p ∙ sym q

pub goes_determined :
    (x : Controller) (o w : ℕ) (r s : Went) → goes_reads.Post tt (x, (o, (w, tt))) r (x, (o, (w, tt))) → goes_reads.Post tt (x, (o, (w, tt))) s (x, (o, (w, tt))) → r ≡ s
goes_determined x o w r s p q = p ∙ sym q

pub reading_determined :
    (x : Controller) (a : ℕ) (r s : Result ℕ Refusal) → reading_reads.Post tt (x, (a, tt)) r (x, (a, tt)) → reading_reads.Post tt (x, (a, tt)) s (x, (a, tt)) → r ≡ s
reading_determined x a r s p q = p ∙ sym q

pub outputs_determined : (x : Controller) (r s : Result ℕ Refusal) → outputs_reads.Post tt (x, tt) r (x, tt) → outputs_reads.Post tt (x, tt) s (x, tt) → r ≡ s
outputs_determined x r s p q = p ∙ sym q

pub held_determined : (x : Controller) (r s : Result (Option ℕ) Refusal) → held_reads.Post tt (x, tt) r (x, tt) → held_reads.Post tt (x, tt) s (x, tt) → r ≡ s
held_determined x r s p q = p ∙ sym q

pub number_determined : (why : Refusal) (r s : ℕ) → number_reads.Post tt (why, tt) r (why, tt) → number_reads.Post tt (why, tt) s (why, tt) → r ≡ s
number_determined why r s p q = p ∙ sym q

pub refused_outputs_determined : (why : Refusal) (r s : ℕ) → refused_outputs_reads.Post tt (why, tt) r (why, tt) → refused_outputs_reads.Post tt (why, tt) s (why, tt) → r ≡ s
refused_outputs_determined why r s p q = p ∙ sym q

pub numbers_determined : (a : Answer) (r s : Numbers) → numbers_reads.Post tt (a, tt) r (a, tt) → numbers_reads.Post tt (a, tt) s (a, tt) → r ≡ s
numbers_determined a r s p q = p ∙ sym q

pub reply_determined : (a : Answer) (r s : Reply) → reply_reads.Post tt (a, tt) r (a, tt) → reply_reads.Post tt (a, tt) s (a, tt) → r ≡ s
reply_determined a r s p q = p ∙ sym q

pub driven_determined : (a : Answer) (r s : ℕ) → driven_reads.Post tt (a, tt) r (a, tt) → driven_reads.Post tt (a, tt) s (a, tt) → r ≡ s
driven_determined a r s p q = p ∙ sym q

pub held_value_determined : (h : Option ℕ) (r s : ℕ) → held_value_reads.Post tt (h, tt) r (h, tt) → held_value_reads.Post tt (h, tt) s (h, tt) → r ≡ s
held_value_determined h r s p q = p ∙ sym q

pub name_determined :
    (c : Controller) (n : ℕ) (r s : Renamed) → name_reads.Post tt (c, (n, tt)) r (c, (n, tt)) → name_reads.Post tt (c, (n, tt)) s (c, (n, tt)) → r ≡ s
name_determined c n r s p q = p ∙ sym q

pub naming_number_determined : (why : NamingRefusal) (r s : ℕ) → naming_number_reads.Post tt (why, tt) r (why, tt) → naming_number_reads.Post tt (why, tt) s (why, tt) → r ≡ s
naming_number_determined why r s p q = p ∙ sym q

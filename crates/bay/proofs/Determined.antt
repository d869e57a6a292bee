-- The contract of each exported function of a bay, as the checker reads it, determines the function's answer: it gives the whole
-- answer by an equation. Assumes nothing.
use Prim.Native.Nat.{ℕ}
use mathlib.Core.Path.{◌≡◌, sym, ◌∙◌}
use mathlib.Core.Bool.{Bool}
use Rattle.bay.specs.declared.Bay.{Bay}
use Rattle.bay.specs.declared.Control.{Control}
use Rattle.bay.specs.declared.Setting.{Setting}
use Rattle.bay.specs.declared.Input.{Input}
use Rattle.bay.specs.declared.Inputs.{Inputs}
use Rattle.bay.proofs.Bay.empty.Reads as empty_reads
use Rattle.bay.proofs.Bay.reset.Reads as reset_reads
use Rattle.bay.proofs.Bay.fit.Reads as fit_reads
use Rattle.bay.proofs.Bay.sampled.Reads as sampled_reads
use Rattle.bay.proofs.Bay.present.Reads as present_reads
use Rattle.bay.proofs.Bay.in_use.Reads as in_use_reads
use Rattle.bay.proofs.Bay.inputs.Reads as inputs_reads
use Rattle.bay.proofs.Bay.moved.Reads as moved_reads
use Rattle.bay.proofs.Bay.rests.Reads as rests_reads
use Rattle.bay.proofs.Bay.bstr.Reads as bstr_reads
use Rattle.bay.proofs.Bay.bcer.Reads as bcer_reads
use Rattle.bay.proofs.Bay.with_bstr.Reads as with_bstr_reads
use Rattle.bay.proofs.Bay.controlled.Reads as controlled_reads
use Rattle.bay.proofs.Bay.unlocked.Reads as unlocked_reads
use Rattle.bay.proofs.registers.ControlFromU8.from.Reads as control_of_reads
use Rattle.bay.proofs.Bay.outputs.Reads as outputs_reads
use Rattle.bay.proofs.Bay.interrupt.Reads as interrupt_reads
use Rattle.bay.proofs.debounce.debounced.Reads as debounced_reads
use Rattle.bay.proofs.debounce.ticks_for.Reads as ticks_for_reads

pub empty_determined : (r s : Bay) → empty_reads.Post tt tt r tt → empty_reads.Post tt tt s tt → r ≡ s
empty_determined r s p q = p ∙ sym q

pub reset_determined : (levels : ℕ) (lock : Bool) (r s : Bay) → reset_reads.Post tt (levels, (lock, tt)) r (levels, (lock, tt)) → reset_reads.Post tt (levels, (lock, tt)) s (levels, (lock, tt)) → r ≡ s
reset_determined levels lock r s p q = p ∙ sym q

pub fit_determined : (b : Bay) (p w : ℕ) (r s : Bool) → fit_reads.Post tt (b, (p, (w, tt))) r (b, (p, (w, tt))) → fit_reads.Post tt (b, (p, (w, tt))) s (b, (p, (w, tt))) → r ≡ s
fit_determined b p w r s e f = e ∙ sym f

pub sampled_determined : (b : Bay) (levels : ℕ) (r s : Bay) → sampled_reads.Post tt (b, (levels, tt)) r (b, (levels, tt)) → sampled_reads.Post tt (b, (levels, tt)) s (b, (levels, tt)) → r ≡ s
sampled_determined b levels r s p q = p ∙ sym q

pub present_determined : (b : Bay) (hides : Bool) (r s : Bool) → present_reads.Post tt (b, (hides, tt)) r (b, (hides, tt)) → present_reads.Post tt (b, (hides, tt)) s (b, (hides, tt)) → r ≡ s
present_determined b hides r s p q = p ∙ sym q

pub in_use_determined : (b : Bay) (r s : Bool) → in_use_reads.Post tt (b, tt) r (b, tt) → in_use_reads.Post tt (b, tt) s (b, tt) → r ≡ s
in_use_determined b r s p q = p ∙ sym q

pub inputs_determined : (b : Bay) (r s : Inputs) → inputs_reads.Post tt (b, tt) r (b, tt) → inputs_reads.Post tt (b, tt) s (b, tt) → r ≡ s
inputs_determined b r s p q = p ∙ sym q

pub moved_determined : (b : Bay) (hides : Bool) (ticks : ℕ) (i : Inputs) (r s : Bay) → moved_reads.Post tt (b, (hides, (ticks, (i, tt)))) r (b, (hides, (ticks, (i, tt)))) → moved_reads.Post tt (b, (hides, (ticks, (i, tt)))) s (b, (hides, (ticks, (i, tt)))) → r ≡ s
moved_determined b hides ticks i r s p q = p ∙ sym q

pub rests_determined : (b : Bay) (r s : Bool) → rests_reads.Post tt (b, tt) r (b, tt) → rests_reads.Post tt (b, tt) s (b, tt) → r ≡ s
rests_determined b r s p q = p.0 ∙ sym q.0

pub bstr_determined : (b : Bay) (hides secured : Bool) (r s : ℕ) → bstr_reads.Post tt (b, (hides, (secured, tt))) r (b, (hides, (secured, tt))) → bstr_reads.Post tt (b, (hides, (secured, tt))) s (b, (hides, (secured, tt))) → r ≡ s
bstr_determined b hides secured r s p q = p ∙ sym q

pub bcer_determined : (b : Bay) (r s : ℕ) → bcer_reads.Post tt (b, tt) r (b, tt) → bcer_reads.Post tt (b, tt) s (b, tt) → r ≡ s
bcer_determined b r s p q = p ∙ sym q

pub with_bstr_determined : (b : Bay) (v : ℕ) (r s : Bay) → with_bstr_reads.Post tt (b, (v, tt)) r (b, (v, tt)) → with_bstr_reads.Post tt (b, (v, tt)) s (b, (v, tt)) → r ≡ s
with_bstr_determined b v r s p q = p ∙ sym q

pub controlled_determined : (b : Bay) (hides : Bool) (c : Control) (g : Setting) (r s : Bay) → controlled_reads.Post tt (b, (hides, (c, (g, tt)))) r (b, (hides, (c, (g, tt)))) → controlled_reads.Post tt (b, (hides, (c, (g, tt)))) s (b, (hides, (c, (g, tt)))) → r ≡ s
controlled_determined b hides c g r s p q = p ∙ sym q

pub unlocked_determined : (b : Bay) (r s : Bay) → unlocked_reads.Post tt (b, tt) r (b, tt) → unlocked_reads.Post tt (b, tt) s (b, tt) → r ≡ s
unlocked_determined b r s p q = p ∙ sym q

pub control_of_determined : (v : ℕ) (r s : Control) → control_of_reads.Post tt (v, tt) r (v, tt) → control_of_reads.Post tt (v, tt) s (v, tt) → r ≡ s
control_of_determined v r s p q = p ∙ sym q

pub outputs_determined : (b : Bay) (hides : Bool) (g : Setting) (lit : Bool) (r s : ℕ) → outputs_reads.Post tt (b, (hides, (g, (lit, tt)))) r (b, (hides, (g, (lit, tt)))) → outputs_reads.Post tt (b, (hides, (g, (lit, tt)))) s (b, (hides, (g, (lit, tt)))) → r ≡ s
outputs_determined b hides g lit r s p q = p ∙ sym q

pub interrupt_determined : (b : Bay) (r s : Bool) → interrupt_reads.Post tt (b, tt) r (b, tt) → interrupt_reads.Post tt (b, tt) s (b, tt) → r ≡ s
interrupt_determined b r s p q = p ∙ sym q

pub debounced_determined : (length : ℕ) (level accepted : Bool) (n : ℕ) (r s : Input) → debounced_reads.Post tt (length, (level, (accepted, (n, tt)))) r (length, (level, (accepted, (n, tt)))) → debounced_reads.Post tt (length, (level, (accepted, (n, tt)))) s (length, (level, (accepted, (n, tt)))) → r ≡ s
debounced_determined length level accepted n r s p q = p ∙ sym q

pub ticks_for_determined : (i r s : ℕ) → ticks_for_reads.Post tt (i, tt) r (i, tt) → ticks_for_reads.Post tt (i, tt) s (i, tt) → r ≡ s
ticks_for_determined i r s p q = p ∙ sym q

-- The contract of each function of the second kind's own registers, as the checker reads it, determines the function's answer: it gives the
-- whole answer by an equation. Assumes nothing.
use Prim.Native.Nat.{ℕ}
use mathlib.Core.Path.{◌≡◌, sym, ◌∙◌}
use mathlib.Core.Bool.{Bool}
use Rattle.second.specs.declared.Second.{Second}
use Rattle.second.proofs.Second.fresh.Reads as fresh_reads
use Rattle.second.proofs.Second.reset.Reads as reset_reads
use Rattle.second.proofs.Second.fit.Reads as fit_reads
use Rattle.second.proofs.Second.with_subsystem.Reads as with_subsystem_reads
use Rattle.second.proofs.Second.with_form_factor.Reads as with_form_factor_reads
use Rattle.second.proofs.Second.with_sfr.Reads as with_sfr_reads
use Rattle.second.proofs.Second.wait_ticks.Reads as wait_ticks_reads
use Rattle.second.proofs.Second.pulsed.Reads as pulsed_reads
use Rattle.second.proofs.Second.pulse_ticks.Reads as pulse_ticks_reads

pub fresh_determined : (r s : Second) → fresh_reads.Post tt tt r tt → fresh_reads.Post tt tt s tt → r ≡ s
fresh_determined r s p q = p ∙ sym q

pub reset_determined : (o r s : Second) → reset_reads.Post tt (o, tt) r (o, tt) → reset_reads.Post tt (o, tt) s (o, tt) → r ≡ s
reset_determined o r s p q = p ∙ sym q

pub fit_determined : (o : Second) (r s : Bool) → fit_reads.Post tt (o, tt) r (o, tt) → fit_reads.Post tt (o, tt) s (o, tt) → r ≡ s
fit_determined o r s p q = p ∙ sym q

pub with_subsystem_determined : (o : Second) (i v : ℕ) (r s : Second) → with_subsystem_reads.Post tt (o, (i, (v, tt))) r (o, (i, (v, tt))) → with_subsystem_reads.Post tt (o, (i, (v, tt))) s (o, (i, (v, tt))) → r ≡ s
with_subsystem_determined o i v r s p q = p ∙ sym q

pub with_form_factor_determined : (o : Second) (i v : ℕ) (r s : Second) → with_form_factor_reads.Post tt (o, (i, (v, tt))) r (o, (i, (v, tt))) → with_form_factor_reads.Post tt (o, (i, (v, tt))) s (o, (i, (v, tt))) → r ≡ s
with_form_factor_determined o i v r s p q = p ∙ sym q

pub with_sfr_determined : (o : Second) (v : ℕ) (r s : Second) → with_sfr_reads.Post tt (o, (v, tt)) r (o, (v, tt)) → with_sfr_reads.Post tt (o, (v, tt)) s (o, (v, tt)) → r ≡ s
with_sfr_determined o v r s p q = p ∙ sym q

pub wait_ticks_determined : (o : Second) (r s : ℕ) → wait_ticks_reads.Post tt (o, tt) r (o, tt) → wait_ticks_reads.Post tt (o, tt) s (o, tt) → r ≡ s
wait_ticks_determined o r s p q = p ∙ sym q

pub pulsed_determined : (o : Second) (r s : Bool) → pulsed_reads.Post tt (o, tt) r (o, tt) → pulsed_reads.Post tt (o, tt) s (o, tt) → r ≡ s
pulsed_determined o r s p q = p ∙ sym q

pub pulse_ticks_determined : (o : Second) (r s : ℕ) → pulse_ticks_reads.Post tt (o, tt) r (o, tt) → pulse_ticks_reads.Post tt (o, tt) s (o, tt) → r ≡ s
pulse_ticks_determined o r s p q = p ∙ sym q

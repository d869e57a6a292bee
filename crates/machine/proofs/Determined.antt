-- The contract of each exported call, as the checker reads it, determines the call's answer. Assumes nothing.
use Prim.Native.Nat.{ℕ}
use mathlib.Core.Path.{◌≡◌, ◌∙◌, sym}
use mathlib.Core.Bool.{Bool}
use Rattle.machine.specs.declared.Machine.{Machine}
use Rattle.machine.specs.declared.Act.{Act}
use Rattle.machine.specs.declared.Acted.{Acted}
use Rattle.machine.proofs.Machine.fresh.Reads as fresh_reads
use Rattle.machine.proofs.Machine.fit.Reads as fit_reads
use Rattle.machine.proofs.Machine.reading.Reads as reading_reads
use Rattle.machine.proofs.Machine.outputs.Reads as outputs_reads
use Rattle.machine.proofs.Machine.does.Reads as does_reads
use Rattle.machine.proofs.setting.pulse_ticks.Reads as pulse_ticks_reads

pub fresh_determined : (r s : Machine) → fresh_reads.Post tt tt r tt → fresh_reads.Post tt tt s tt → r ≡ s
fresh_determined r s p q = p ∙ sym q

pub fit_determined : (m : Machine) (r s : Bool) → fit_reads.Post tt (m, tt) r (m, tt) → fit_reads.Post tt (m, tt) s (m, tt) → r ≡ s
fit_determined m r s p q = p ∙ sym q

pub reading_determined :
    (m : Machine) (a r s : ℕ) → reading_reads.Post tt (m, (a, tt)) r (m, (a, tt)) → reading_reads.Post tt (m, (a, tt)) s (m, (a, tt)) → r ≡ s
reading_determined m a r s p q = p ∙ sym q

pub outputs_determined : (m : Machine) (r s : ℕ) → outputs_reads.Post tt (m, tt) r (m, tt) → outputs_reads.Post tt (m, tt) s (m, tt) → r ≡ s
outputs_determined m r s p q = p ∙ sym q

pub does_determined :
    (m : Machine) (a : Act) (r s : Acted) → does_reads.Post tt (m, (a, tt)) r (m, (a, tt)) → does_reads.Post tt (m, (a, tt)) s (m, (a, tt)) → r ≡ s
does_determined m a r s p q = p ∙ sym q

pub pulse_ticks_determined : (t r s : ℕ) → pulse_ticks_reads.Post tt (t, tt) r (t, tt) → pulse_ticks_reads.Post tt (t, tt) s (t, tt) → r ≡ s
pulse_ticks_determined t r s p q = p ∙ sym q

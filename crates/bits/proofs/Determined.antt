-- The contract of each exported call, as the checker reads it, determines the call's answer. Assumes nothing.
use Prim.Native.Nat.{ℕ}
use mathlib.Core.Path.{◌≡◌, ◌∙◌, sym}
use mathlib.Core.Bool.{Bool}
use Rattle.bits.proofs.has.Reads as has_reads
use Rattle.bits.proofs.put.Reads as put_reads
use Rattle.bits.proofs.straps.smb_a.Reads as smb_a_reads
use Rattle.bits.proofs.straps.lock_def.Reads as lock_def_reads
use Rattle.bits.proofs.straps.lock_mode.Reads as lock_mode_reads

pub has_determined :
    (v weight : ℕ) (r s : Bool) → has_reads.Post tt (v, (weight, tt)) r (v, (weight, tt)) → has_reads.Post tt (v, (weight, tt)) s (v, (weight, tt)) → r ≡ s
has_determined v weight r s p q = p ∙ sym q

pub put_determined :
    (on : Bool) (weight r s : ℕ) → put_reads.Post tt (on, (weight, tt)) r (on, (weight, tt)) → put_reads.Post tt (on, (weight, tt)) s (on, (weight, tt)) → r ≡ s
put_determined on weight r s p q = p.0 ∙ sym q.0

pub smb_a_determined : (x r s : ℕ) → smb_a_reads.Post tt (x, tt) r (x, tt) → smb_a_reads.Post tt (x, tt) s (x, tt) → r ≡ s
smb_a_determined x r s p q = p ∙ sym q

pub lock_def_determined : (x : ℕ) (r s : Bool) → lock_def_reads.Post tt (x, tt) r (x, tt) → lock_def_reads.Post tt (x, tt) s (x, tt) → r ≡ s
lock_def_determined x r s p q = p ∙ sym q

pub lock_mode_determined : (x : ℕ) (r s : Bool) → lock_mode_reads.Post tt (x, tt) r (x, tt) → lock_mode_reads.Post tt (x, tt) s (x, tt) → r ≡ s
lock_mode_determined x r s p q = p ∙ sym q

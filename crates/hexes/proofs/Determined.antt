-- The contract of each exported call, as the checker reads it, determines the call's answer. Assumes nothing.
use Prim.Native.Nat.{ℕ}
use mathlib.Core.Path.{◌≡◌, ◌∙◌, sym}
use Rattle.hexes.proofs.digit.Reads as digit_reads

pub digit_determined : (n r s : ℕ) → digit_reads.Post tt (n, tt) r (n, tt) → digit_reads.Post tt (n, tt) s (n, tt) → r ≡ s
digit_determined n r s p q = p ∙ sym q

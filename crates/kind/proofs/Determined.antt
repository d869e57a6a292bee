-- The contract of each function, as the checker reads it, determines the function's answer. Assumes nothing.
use Prim.Native.Nat.{ℕ}
use mathlib.Core.Path.{◌≡◌, sym, ◌∙◌}
use mathlib.Core.Bool.{Bool}
use Rattle.kind.specs.declared.Kind.{Kind}
use Rattle.std.specs.Prelude.{Result}
use Rattle.kind.specs.declared.UnknownKind.{UnknownKind}
use Rattle.kind.proofs.Kind.is_second.Reads as is_second_reads
use Rattle.kind.proofs.Kind.by.Reads as by_reads
use Rattle.kind.proofs.Kind.number.Reads as number_reads
use Rattle.kind.proofs.KindTryFromU8.try_from.Reads as numbered_reads

pub is_second_determined : (k : Kind) (r s : Bool) → is_second_reads.Post tt (k, tt) r (k, tt) → is_second_reads.Post tt (k, tt) s (k, tt) → r ≡ s
is_second_determined k r s p q = p ∙ sym q

pub by_determined : (b : Bool) (r s : Kind) → by_reads.Post tt (b, tt) r (b, tt) → by_reads.Post tt (b, tt) s (b, tt) → r ≡ s
by_determined b r s p q = p ∙ sym q

pub number_determined : (k : Kind) (r s : ℕ) → number_reads.Post tt (k, tt) r (k, tt) → number_reads.Post tt (k, tt) s (k, tt) → r ≡ s
number_determined k r s p q = p ∙ sym q

pub numbered_determined : (n : ℕ) (r s : Result Kind UnknownKind) → numbered_reads.Post tt (n, tt) r (n, tt) → numbered_reads.Post tt (n, tt) s (n, tt) → r ≡ s
numbered_determined n r s p q = p ∙ sym q

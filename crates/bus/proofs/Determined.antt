-- The contract of each exported call, as the checker reads it, determines the call's answer. Assumes nothing.
use Prim.Native.Nat.{ℕ}
use mathlib.Core.Path.{◌≡◌, ◌∙◌, sym}
use Rattle.kind.specs.declared.Kind.{Kind}
use Rattle.bus.specs.declared.Progress.{Progress}
use Rattle.bus.specs.declared.Heard.{Heard}
use Rattle.bus.specs.declared.Reply.{Reply}
use Rattle.bus.proofs.own_write.Reads as own_write_reads
use Rattle.bus.proofs.own_read.Reads as own_read_reads
use Rattle.bus.proofs.next_register.Reads as next_register_reads
use Rattle.bus.proofs.Progress.holding.Reads as holding_reads
use Rattle.bus.proofs.Progress.known.Reads as known_reads
use Rattle.bus.proofs.Progress.start.Reads as start_reads
use Rattle.bus.proofs.Progress.byte.Reads as heard_reads
use Rattle.bus.proofs.Progress.held.Reads as held_reads
use Rattle.bus.proofs.Reply.number.Reads as number_reads
use Rattle.bus.proofs.Reply.byte.Reads as byte_Reads
use Rattle.std.specs.Prelude.{Option}

pub own_write_determined : (x r s : ℕ) → own_write_reads.Post tt (x, tt) r (x, tt) → own_write_reads.Post tt (x, tt) s (x, tt) → r ≡ s
own_write_determined x r s p q = p ∙ sym q

pub own_read_determined : (x r s : ℕ) → own_read_reads.Post tt (x, tt) r (x, tt) → own_read_reads.Post tt (x, tt) s (x, tt) → r ≡ s
own_read_determined x r s p q = p ∙ sym q

pub next_register_determined :
    (x r s : ℕ) → next_register_reads.Post tt (x, tt) r (x, tt) → next_register_reads.Post tt (x, tt) s (x, tt) → r ≡ s
next_register_determined x r s p q = p ∙ sym q

pub holding_determined :
    (k : Kind) (n v : ℕ) (r s : Progress)
    → holding_reads.Post tt (k, (n, (v, tt))) r (k, (n, (v, tt))) → holding_reads.Post tt (k, (n, (v, tt))) s (k, (n, (v, tt))) → r ≡ s
holding_determined k n v r s p q = p ∙ sym q

pub known_determined :
    (x : Progress) (k : Kind) (r s : Progress)
    → known_reads.Post tt (x, (k, tt)) r (x, (k, tt)) → known_reads.Post tt (x, (k, tt)) s (x, (k, tt)) → r ≡ s
known_determined x k r s p q = p ∙ sym q

pub start_determined :
    (x : Progress) (k : Kind) (r s : Progress)
    → start_reads.Post tt (x, (k, tt)) r (x, (k, tt)) → start_reads.Post tt (x, (k, tt)) s (x, (k, tt)) → r ≡ s
start_determined x k r s p q = p ∙ sym q

pub heard_determined :
    (x : Progress) (k : Kind) (straps b : ℕ) (r s : Heard)
    → heard_reads.Post tt (x, (k, (straps, (b, tt)))) r (x, (k, (straps, (b, tt))))
    → heard_reads.Post tt (x, (k, (straps, (b, tt)))) s (x, (k, (straps, (b, tt)))) → r ≡ s
heard_determined x k straps b r s p q = p ∙ sym q

pub held_determined :
    (x : Progress) (k : Kind) (r s : Option ℕ) → held_reads.Post tt (x, (k, tt)) r (x, (k, tt)) → held_reads.Post tt (x, (k, tt)) s (x, (k, tt)) → r ≡ s
held_determined x k r s p q = p ∙ sym q

pub number_determined : (x : Reply) (r s : ℕ) → number_reads.Post tt (x, tt) r (x, tt) → number_reads.Post tt (x, tt) s (x, tt) → r ≡ s
number_determined x r s p q = p ∙ sym q

pub byte_determined : (x : Reply) (r s : ℕ) → byte_Reads.Post tt (x, tt) r (x, tt) → byte_Reads.Post tt (x, tt) s (x, tt) → r ≡ s
byte_determined x r s p q = p ∙ sym q

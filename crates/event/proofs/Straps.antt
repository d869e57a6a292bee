-- A word that is accepted has straps of at most 15: the table gives them four bits. Assumes nothing.
use Prim.Native.Nat.{ℕ, ◌^◌, ◌≤◌, ◌<◌}
use native.Mathlib.Omega.{arith}
use mathlib.Core.Path.{◌≡◌}
use Rattle.bits.specs.Straps.{MOST_STRAPS}
use Rattle.event.specs.Words.{kind_of, field_of, bits_of, event_of, unpacked, straps_of}
use Rattle.event.specs.declared.Event.{Event}
use Rattle.event.proofs.Rows.{by_kind}
use Rattle.event.proofs.RoundTrip.{accepted_row}
use Rattle.std.specs.Prelude.{Ok}

row_straps : (d k : ℕ) → d < 2 ^ bits_of k → straps_of (event_of k d) ≤ MOST_STRAPS
unfolding straps_of
row_straps d =
    by_kind (λ k. d < 2 ^ bits_of k → straps_of (event_of k d) ≤ MOST_STRAPS)
    (λ l. omega arith) (λ l. omega arith) (λ l. omega arith) (λ l. omega arith) (λ l. omega arith) (λ l. omega arith)
    (λ l. omega arith) (λ l. omega arith) (λ n l. omega arith)

pub accepted_straps : (w : ℕ) (e : Event) → unpacked w ≡ Ok e → straps_of e ≤ MOST_STRAPS
accepted_straps w e p = let row = accepted_row w e p in rw (← row.1) (row_straps (field_of w) (kind_of w) row.0)

-- What pulses of SCLK are heard as: each is a bit, nine of them a byte or a TAKE, and fewer nothing. Assumes nothing.
use Prim.Native.Nat.{ℕ, ◌+◌, ◌<◌, ◌≤◌}
use native.Mathlib.Omega.{arith}
use native.Mathlib.Decide.{dec_lt}
use mathlib.Core.Path.{◌≡◌, subst}
use mathlib.Core.Bool.{Bool, false}
use mathlib.Core.List.{List, [], ◌∷◌, ◌++◌, append-nil}
use Rattle.std.specs.Prelude.{Some}
use Rattle.bits.specs.Bits.{bit}
use Rattle.event.specs.declared.Event.{Event}
use Rattle.wire.specs.Nine.{waiting, bit_to}
use Rattle.wire.specs.Hear.{hear_of, events_in}
use Rattle.wire.specs.Waves.{High, Low, Pulse, Pulses, level_after}
use Rattle.wire.specs.declared.Ear.{Ear}
use Rattle.wire.specs.declared.Listening.TheVariants.{Nothing}
use Rattle.event.specs.declared.Event.TheVariants as event
use Rattle.wire.proofs.Samples.{at, hears, Goes, none, first, then, renamed, steady, clocked, waits, too_long, no_more}

-- ---- levels that are held

pub holds : {d : Bool} {ss : List ℕ} (e : Ear) → High d ss → Goes (at d 0 e) ss [] (at d 0 e)
holds e (High.one s c f) = first (steady e s _ c f) (none _)
holds e (High.more s c f h) = first (steady e s _ c f) (holds e h)

-- After samples with SCLK low SDAT may be at any level.
pub record Waited (d : Bool) (k : ℕ) (e : Ear) (ss : List ℕ) (es : List Event) (k' : ℕ) (e' : Ear) : Type 0 where
  pub level : Bool
  pub goes : Goes (at d k e) ss es (at level k' e')

pub low_counts : {n : ℕ} {ss : List ℕ} (d : Bool) (k : ℕ) (e : Ear) → Low n ss → k + n ≤ 17500 → Waited d k e ss [] (k + n) e
low_counts d k e (Low.one s c) l = record { level = bit 0 s; goes = first (waits e s d k (omega arith) c) (none _) }
low_counts d k e (Low.more s {n = n} {ss = ss} c h) l =
    let r = low_counts (bit 0 s) (k + 1) e h (omega arith) in
    record {
      level = r.level;
      goes = subst (λ m. Goes (at d k e) (s ∷ ss) [] (at r.level m e)) (omega arith) (first (waits e s d k (omega arith) c) r.goes);
    }

low_spent : {n : ℕ} {ss : List ℕ} (d : Bool) (e : Ear) → Low n ss → Waited d 17501 e ss [] 17501 e
low_spent d e (Low.one s c) = record { level = bit 0 s; goes = first (no_more e s d c) (none _) }
low_spent d e (Low.more s c h) = let r = low_spent (bit 0 s) e h in record { level = r.level; goes = first (no_more e s d c) r.goes }

reached :
    (d : Bool) (k : ℕ) (e : Ear) (s : ℕ) → k ≡ 17500 → bit 1 s ≡ false
    → hear_of (at d k e) s ≡ hears (at (bit 0 s) 17501 (waiting Nothing)) (Some event.Timeout)
reached d k e s last c = rw last (too_long e s d c)

-- One TIMEOUT for a stretch, however long it goes on.
pub low_times_out : {n : ℕ} {ss : List ℕ} (d : Bool) (k : ℕ) (e : Ear) → Low n ss → k ≤ 17500 → 17500 < k + n → Waited d k e ss (event.Timeout ∷ []) 17501 (waiting Nothing)
low_times_out d k e (Low.one s c) m l =
    let last : k ≡ 17500 = omega (arith, m, l) in
    record { level = bit 0 s; goes = first (reached d k e s last c) (none _) }
low_times_out d k e (Low.more s {n = n} {ss = ss} c h) m l = go (dec_lt k 17500) (λ p. low_times_out (bit 0 s) (k + 1) e h (omega (arith, p)) (omega (arith, l)))
  where
    go :
        Dec (k < 17500) → (k < 17500 → Waited (bit 0 s) (k + 1) e ss (event.Timeout ∷ []) 17501 (waiting Nothing))
        → Waited d k e (s ∷ ss) (event.Timeout ∷ []) 17501 (waiting Nothing)
    go (yes p) further =
        let r = further p in
        record { level = r.level; goes = first (waits e s d k p c) r.goes }
    go (no q) further =
        let last : k ≡ 17500 = omega (arith, m, q) in
        let r = low_spent (bit 0 s) (waiting Nothing) h in
        record { level = r.level; goes = first (reached d k e s last c) r.goes }

-- ---- a pulse is a bit

low_some : {n : ℕ} {ss : List ℕ} → Low n ss → 0 < n
low_some (Low.one s c) = omega arith
low_some (Low.more s c h) = omega arith

abbrev pub gives : Ear → Bool → List Event
gives e d = events_in (bit_to e d).given

-- At the first high sample; those after it change nothing.
pub rise : {b : Bool} {ss : List ℕ} (d : Bool) (k : ℕ) (e : Ear) → 0 < k → High b ss → Goes (at d k e) ss (gives e b) (at b 0 (bit_to e b).ear)
rise d k e l (High.one s c f) = renamed (append-nil _) (first (clocked e s d _ k l c f) (none _))
rise d k e l (High.more s c f h) = renamed (append-nil _) (first (clocked e s d _ k l c f) (holds _ h))

pub one_bit : {b : Bool} {ss : List ℕ} (d : Bool) (e : Ear) → Pulse b ss → Goes (at d 0 e) ss (gives e b) (at b 0 (bit_to e b).ear)
one_bit d e (Pulse.pulse l m h) =
    let r = low_counts d 0 e l (omega (arith, m)) in
    then r.goes (rise r.level _ e (omega (arith, low_some l)) h)

-- ---- pulses are bits, one after the other

abbrev pub ear_after : Ear → List Bool → Ear
ear_after e [] = e
ear_after e (d ∷ ds) = ear_after (bit_to e d).ear ds

abbrev pub bits_give : Ear → List Bool → List Event
bits_give e [] = []
bits_give e (d ∷ ds) = gives e d ++ bits_give (bit_to e d).ear ds

pub bits_heard : {ds : List Bool} {ss : List ℕ} (d : Bool) (e : Ear) → Pulses ds ss → Goes (at d 0 e) ss (bits_give e ds) (at (level_after d ds) 0 (ear_after e ds))
bits_heard d e Pulses.none = none _
bits_heard d e (Pulses.next p ps) = then (one_bit d e p) (bits_heard _ _ ps)

-- Any waveform that spells a list of bus events is heard as those events (document 02, request 7), by its parts: what follows a START leaves the
-- lines as it says, and what is listened for then matters no more, since a STOP, a START or a TIMEOUT comes next. Assumes nothing.
use Prim.Native.Nat.{ℕ}
use native.Mathlib.Omega.{arith}
use mathlib.Core.Path.{◌≡◌, refl, ap, ◌∙◌}
use mathlib.Core.Bool.{Bool, true, false, cond}
use mathlib.Core.List.{List, [], ◌∷◌, ◌++◌}
use Rattle.std.specs.Prelude.{None}
use Rattle.event.specs.declared.Event.{Event}
use Rattle.event.specs.declared.Event.TheVariants as event
use Rattle.wire.specs.Nine.{waiting, bit_to, told}
use Rattle.wire.specs.Hear.{events_of}
use Rattle.wire.specs.Waves.{High, Pulse, Sends, Clocks, Follows, Wave}
use Rattle.wire.specs.declared.Wire.{Wire}
use Rattle.wire.specs.declared.Ear.{Ear}
use Rattle.wire.specs.declared.Listening.{Listening}
use Rattle.wire.specs.declared.Listening.TheVariants.{Nothing, FirstByte, Bytes, Takes}
use Rattle.wire.proofs.Cut.{events_append}
use Rattle.wire.proofs.Samples.{at, Goes, none, first, then, renamed, falls, rises}
use Rattle.wire.proofs.Clocked.{holds, low_times_out, rise, one_bit, bits_heard}
use Rattle.wire.proofs.Ninth.{first_given, first_decides_lem, first_eight, byte_given, byte_passed, byte_eight, take_given, take_passed, too_few, too_few_clocked}

-- ---- what follows a START

-- From SDAT at one level and listening so, samples give these events and leave SDAT at another level; whatever is listened for then.
pub record Leaves (d : Bool) (l : Listening) (ss : List ℕ) (es : List Event) (d' : Bool) : Type 0 where
  pub ear : Ear
  pub goes : Goes (at d 0 (waiting l)) ss es (at d' 0 ear)

-- Bits that give these events and then have the ear wait, and what comes after them.
before :
    {d m d' : Bool} {l l' : Listening} {ss ts : List ℕ} {xs es fs : List Event} {e : Ear}
    → Goes (at d 0 (waiting l)) ss xs (at m 0 e) → xs ≡ es → e ≡ waiting l' → Leaves m l' ts fs d' → Leaves d l (ss ++ ts) (es ++ fs) d'
before g x r k = record { ear = k.ear; goes = then (renamed x (rw r at g)) k.goes }

sends_heard : {d d' : Bool} {ss : List ℕ} {es : List Event} → Sends d es ss d' → Leaves d Bytes ss es d'
sends_heard (Sends.breaks ds m p) = record { ear = _; goes = renamed (too_few Bytes ds m) (bits_heard _ _ p) }
sends_heard (Sends.no_ninth b l p) = record { ear = _; goes = renamed (byte_eight b l) (bits_heard _ _ p) }
sends_heard (Sends.byte b ninth l p ps) = before (bits_heard _ _ p) (byte_given b ninth l) (byte_passed b ninth) (sends_heard ps)

clocks_heard : {d d' : Bool} {ss : List ℕ} {es : List Event} → Clocks d es ss d' → Leaves d Takes ss es d'
clocks_heard (Clocks.breaks ds m p) = record { ear = _; goes = renamed (too_few_clocked ds m) (bits_heard _ _ p) }
clocks_heard (Clocks.take b ninth p ps) = before (bits_heard _ _ p) (take_given b ninth) (take_passed b ninth) (clocks_heard ps)

follows_heard : {d : Bool} {ss : List ℕ} {es : List Event} → Follows es ss d → Leaves false FirstByte ss es d
follows_heard (Follows.breaks ds m p) = record { ear = _; goes = renamed (too_few FirstByte ds m) (bits_heard _ _ p) }
follows_heard (Follows.no_ninth b l p) = record { ear = _; goes = renamed (first_eight b l) (bits_heard _ _ p) }
follows_heard (Follows.writes b ninth l z p ps) =
    before (bits_heard _ _ p) (first_given b ninth l) (first_decides_lem b ninth l ∙ ap (λ t. waiting (cond t Takes Bytes)) z) (sends_heard ps)
follows_heard (Follows.reads b ninth l o p ps) =
    before (bits_heard _ _ p) (first_given b ninth l) (first_decides_lem b ninth l ∙ ap (λ t. waiting (cond t Takes Bytes)) o) (clocks_heard ps)

-- ---- the waveform

-- Between transfers nothing is listened for.
abbrev pub Ready : Bool → Ear → Type 0
Ready true e = Unit {0}
Ready false e = e.listening ≡ Nothing

deaf : (e : Ear) (b : Bool) → e.listening ≡ Nothing → bit_to e b ≡ told e None
unfolding bit_to
deaf e b n = rw n

passes : {b : Bool} {ss : List ℕ} (d : Bool) (e : Ear) → e.listening ≡ Nothing → Pulse b ss → Goes (at d 0 e) ss [] (at b 0 e)
passes {b} d e n p = rw (deaf e b n) at (one_bit d e p)

-- What some samples give comes before what the rest gives.
and_then :
    {w w' : Wire} {ss : List ℕ} {es fs : List Event} → Goes w ss es w' → (ts : List ℕ) → events_of w' ts ≡ fs → events_of w (ss ++ ts) ≡ es ++ fs
and_then {w} {w'} {ss} g ts h = rw (events_append w ss ts, g.events, g.state, h)

-- START and STOP come with the first sample of the new level.
starts : {ss : List ℕ} (e : Ear) → High false ss → Goes (at true 0 e) ss (event.Start ∷ []) (at false 0 (waiting FirstByte))
starts e (High.one s c f) = first (falls e s c f) (none _)
starts e (High.more s c f h) = first (falls e s c f) (holds _ h)

stops : {ss : List ℕ} (e : Ear) → High true ss → Goes (at false 0 e) ss (event.Stop ∷ []) (at true 0 (waiting Nothing))
stops e (High.one s c f) = first (rises e s c f) (none _)
stops e (High.more s c f h) = first (rises e s c f) (holds _ h)

-- After a TIMEOUT nothing is listened for, so SCLK's rise is no bit.
after_timeout : {b : Bool} {ss : List ℕ} (d : Bool) → High b ss → Goes (at d 17501 (waiting Nothing)) ss [] (at b 0 (waiting Nothing))
unfolding bit_to
after_timeout d h = rise d 17501 (waiting Nothing) (omega arith) h

pub heard : {inside d : Bool} {es : List Event} {ss : List ℕ} → Wave inside d es ss → (e : Ear) → Ready inside e → events_of (at d 0 e) ss ≡ es
unfolding events_of
heard Wave.ends e r = refl
heard (Wave.rests h w) e r = and_then (holds e h) _ (heard w e r)
heard (Wave.idles p w) e r = and_then (passes _ e r p) _ (heard w e r)
heard (Wave.starts h f w) e r =
    let k = follows_heard f in
    and_then (starts e h) _ (and_then k.goes _ (heard w k.ear tt))
heard (Wave.stops h w) e r = and_then (stops e h) _ (heard w (waiting Nothing) refl)
heard (Wave.times_out l m h w) e r =
    let t = low_times_out _ 0 e l (omega arith) (omega (arith, m)) in
    and_then t.goes _ (and_then (after_timeout t.level h) _ (heard w (waiting Nothing) refl))
heard (Wave.stays_low l m) e r = (low_times_out _ 0 e l (omega arith) (omega (arith, m))).goes.events

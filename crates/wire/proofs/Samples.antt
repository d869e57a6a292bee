-- What one sample makes of a held state, by what the lines were and what they are, and what some make one after the other. Assumes nothing.
use Prim.Native.Nat.{ℕ, ◌+◌, ◌<◌}
use native.Mathlib.Omega.{arith}
use mathlib.Core.Path.{◌≡◌, refl, ◌∙◌}
use mathlib.Core.Bool.{Bool, true, false}
use mathlib.Core.List.{List, [], ◌∷◌, ◌++◌}
use borrow.Author.Tests.{le-leb, ne_eqb}
use Rattle.std.specs.Prelude.{Option, Some, None}
use Rattle.bits.specs.Bits.{bit}
use Rattle.event.specs.declared.Event.{Event}
use Rattle.event.specs.declared.Event.TheVariants as event
use Rattle.wire.specs.Levels.{lines_after, shown_by, while_high}
use Rattle.wire.specs.Nine.{waiting, bit_to, tells}
use Rattle.wire.specs.Hear.{hear_of, after, events_in, events_of}
use Rattle.wire.specs.declared.Wire.{Wire}
use Rattle.wire.specs.declared.Ear.{Ear}
use Rattle.wire.specs.declared.Heard.{Heard}
use Rattle.wire.specs.declared.Listening.TheVariants.{Nothing, FirstByte}
use Rattle.wire.proofs.Cut.{after_append, events_append}

-- SDAT at d, SCLK low for so many samples, and what is listened for.
abbrev pub at : Bool → ℕ → Ear → Wire
at d low e = record { lines = record { sdat = d; low = low }; ear = e }

abbrev pub hears : Wire → Option Event → Heard
hears w g = record { wire = w; given = g }

-- ---- one sample

module _ (e : Ear) (s : ℕ) where
  unmoved : (d : Bool) → while_high d d ≡ None
  unmoved true = refl
  unmoved false = refl

  pub steady : (d : Bool) → bit 1 s ≡ true → bit 0 s ≡ d → hear_of (at d 0 e) s ≡ hears (at d 0 e) None
  unfolding hear_of lines_after shown_by tells
  steady d c f = rw (c, f, unmoved d)

  pub falls : bit 1 s ≡ true → bit 0 s ≡ false → hear_of (at true 0 e) s ≡ hears (at false 0 (waiting FirstByte)) (Some event.Start)
  unfolding hear_of lines_after shown_by tells
  falls c f = rw (c, f)

  pub rises : bit 1 s ≡ true → bit 0 s ≡ true → hear_of (at false 0 e) s ≡ hears (at true 0 (waiting Nothing)) (Some event.Stop)
  unfolding hear_of lines_after shown_by tells
  rises c f = rw (c, f)

  pub clocked :
      (d b : Bool) (k : ℕ) → 0 < k → bit 1 s ≡ true → bit 0 s ≡ b → hear_of (at d k e) s ≡ hears (at b 0 (bit_to e b).ear) (bit_to e b).given
  unfolding hear_of lines_after shown_by tells
  clocked d b k l c f = rw (c, f, ne_eqb k 0 (λ z. omega (arith, z, l)))

  pub waits : (d : Bool) (k : ℕ) → k < 17500 → bit 1 s ≡ false → hear_of (at d k e) s ≡ hears (at (bit 0 s) (k + 1) e) None
  unfolding hear_of lines_after shown_by tells
  waits d k l c = rw (c, ne_eqb k 17500 (λ z. omega (arith, z, l)), le-leb k 17500 (omega arith))

  pub too_long : (d : Bool) → bit 1 s ≡ false → hear_of (at d 17500 e) s ≡ hears (at (bit 0 s) 17501 (waiting Nothing)) (Some event.Timeout)
  unfolding hear_of lines_after shown_by tells
  too_long d c = rw c

  pub no_more : (d : Bool) → bit 1 s ≡ false → hear_of (at d 17501 e) s ≡ hears (at (bit 0 s) 17501 e) None
  unfolding hear_of lines_after shown_by tells
  no_more d c = rw c

-- ---- samples one after the other

-- From a held state these samples give these events and leave that state.
pub record Goes (w : Wire) (ss : List ℕ) (es : List Event) (w' : Wire) : Type 0 where
  pub events : events_of w ss ≡ es
  pub state : after w ss ≡ w'

pub none : (w : Wire) → Goes w [] [] w
unfolding events_of after
none w = record { events = refl; state = refl }

pub first :
    {w w' w'' : Wire} {g : Option Event} {s : ℕ} {ss : List ℕ} {es : List Event} → hear_of w s ≡ hears w' g → Goes w' ss es w''
    → Goes w (s ∷ ss) (events_in g ++ es) w''
unfolding events_of after
first h k = record { events = rw (h, k.events); state = rw h k.state }

pub then :
    {w w' w'' : Wire} {xs ys : List ℕ} {es fs : List Event} → Goes w xs es w' → Goes w' ys fs w'' → Goes w (xs ++ ys) (es ++ fs) w''
then {w} {w'} {w''} {xs} {ys} h k =
    record {
      events = rw (events_append w xs ys, h.events, h.state, k.events);
      state = rw (after_append w xs ys, h.state) k.state;
    }

pub renamed : {w w' : Wire} {ss : List ℕ} {es fs : List Event} → es ≡ fs → Goes w ss es w' → Goes w ss fs w'
renamed e h = record { events = h.events ∙ e; state = h.state }

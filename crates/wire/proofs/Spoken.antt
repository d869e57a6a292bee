-- The words of a list of samples are those of its events, and each unpacks to its event, so that none is ever refused with 2. Assumes nothing.
use Prim.Native.Nat.{ℕ, ◌+◌, ◌<◌}
use native.Mathlib.Omega.{arith}
use mathlib.Core.Path.{◌≡◌, refl, ap, ◌∙◌}
use mathlib.Core.Bool.{Bool, true, false, not, cond}
use mathlib.Core.List.{List, [], ◌∷◌, ◌++◌, map}
use lib.Dec.{ltb}
use Rattle.std.specs.Prelude.{Option, Some, None}
use Rattle.event.specs.Words.{unpacked, packed, word_of, straps_of}
use Rattle.event.specs.declared.Event.TheVariants as event
use Rattle.event.proofs.Theorems.{by_kind}
use Rattle.event.specs.declared.Event.{Event}
use Rattle.wire.specs.Levels.{shown_by}
use Rattle.wire.specs.Nine.{joined, eighth, at_ninth, collects, ninth, told, listens, bit_to, tells}
use Rattle.wire.specs.Hear.{hear_of, events_in, events_of, spelled, words_of}
use Rattle.wire.specs.declared.Wire.{Wire}
use Rattle.wire.specs.declared.Ear.{Ear}
use Rattle.wire.specs.declared.Listening.{Listening}
use Rattle.wire.specs.declared.Listening.TheVariants.{Nothing, FirstByte, Bytes, Takes}
use Rattle.wire.specs.declared.Shown.{Shown}
use Rattle.wire.specs.declared.Shown.TheVariants as shown
use Rattle.std.specs.Prelude.{Ok}

-- A word that a sample gives is its event's, and unpacks to it.
pub record Spoken (g : Option Event) : Type 0 where
  pub word : spelled g ≡ map word_of (events_in g)
  pub event : map unpacked (spelled g) ≡ map Ok (events_in g)

nothing : Spoken None
nothing = record { word = refl; event = refl }

start : Spoken (Some event.Start)
unfolding packed word_of straps_of
start = record { word = refl; event = ap (λ u. u ∷ []) by_kind.start }

stop : Spoken (Some event.Stop)
unfolding packed word_of straps_of
stop = record { word = refl; event = ap (λ u. u ∷ []) by_kind.stop }

timeout : Spoken (Some event.Timeout)
unfolding packed word_of straps_of
timeout = record { word = refl; event = ap (λ u. u ∷ []) by_kind.timeout }

byte : (b : ℕ) → b < 256 → Spoken (Some (event.Byte b))
unfolding packed word_of straps_of
byte b l = record { word = refl; event = ap (λ u. u ∷ []) (by_kind.byte b l) }

take : (ack : Bool) → Spoken (Some (event.Take ack))
unfolding packed word_of straps_of
take true = record { word = refl; event = ap (λ u. u ∷ []) by_kind.take_ack }
take false = record { word = refl; event = ap (λ u. u ∷ []) by_kind.take_nack }

eighth_spoken : (l : Listening) (v : ℕ) → v < 256 → Spoken (eighth l v)
eighth_spoken Nothing v s = nothing
eighth_spoken FirstByte v s = byte v s
eighth_spoken Bytes v s = byte v s
eighth_spoken Takes v s = nothing

ninth_spoken : (l : Listening) (d : Bool) → Spoken (at_ninth l d)
ninth_spoken Nothing d = nothing
ninth_spoken FirstByte d = nothing
ninth_spoken Bytes d = nothing
ninth_spoken Takes d = take (not d)

bit_spoken : (e : Ear) (d : Bool) → Spoken (bit_to e d).given
unfolding bit_to
bit_spoken e d = go (listens e.listening) (ltb e.bits 8) (ltb (e.bits + 1) 8)
  where
    go :
        (t u v : Bool)
        → Spoken (cond t (cond u (told (collects e d).ear (cond v None (eighth e.listening (joined e.value d)))) (ninth e d)) (told e None)).given
    go true true true = nothing
    go true true false = eighth_spoken e.listening _ (omega arith)
    go true false v = ninth_spoken e.listening d
    go false u v = nothing

told_spoken : (e : Ear) (s : Option Shown) → Spoken (tells e s).given
unfolding tells
told_spoken e None = nothing
told_spoken e (Some shown.Start) = start
told_spoken e (Some shown.Stop) = stop
told_spoken e (Some shown.Timeout) = timeout
told_spoken e (Some (shown.Bit d)) = bit_spoken e d

sample_spoken : (w : Wire) (s : ℕ) → Spoken (hear_of w s).given
unfolding hear_of
sample_spoken w s = told_spoken w.ear (shown_by w.lines s)

-- ---- a list of samples

pub words_of_events : (w : Wire) (ss : List ℕ) → words_of w ss ≡ map word_of (events_of w ss)
unfolding words_of events_of
words_of_events w [] = refl
words_of_events w (s ∷ ss) =
    rw ((sample_spoken w s).word, words_of_events (hear_of w s).wire ss) (either (hear_of w s).given)
  where
    either : (g : Option Event) → map word_of (events_in g) ++ map word_of (events_of (hear_of w s).wire ss) ≡ map word_of (events_in g ++ events_of (hear_of w s).wire ss)
    either None = refl
    either (Some e) = refl

pub words_unpack : (w : Wire) (ss : List ℕ) → map unpacked (words_of w ss) ≡ map Ok (events_of w ss)
unfolding words_of events_of
words_unpack w [] = refl
words_unpack w (s ∷ ss) = both (hear_of w s).given (sample_spoken w s) (words_unpack (hear_of w s).wire ss)
  where
    both :
        (g : Option Event) → Spoken g → map unpacked (words_of (hear_of w s).wire ss) ≡ map Ok (events_of (hear_of w s).wire ss)
        → map unpacked (spelled g ++ words_of (hear_of w s).wire ss) ≡ map Ok (events_in g ++ events_of (hear_of w s).wire ss)
    both None p r = r
    both (Some e) p r = ap (λ us. us ++ map unpacked (words_of (hear_of w s).wire ss)) p.event ∙ ap (λ us. Ok e ∷ us) r

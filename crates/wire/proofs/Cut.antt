-- Samples cut anywhere into lists: the words and the held state are the same. A sample gives at most one word. Assumes nothing.
use Prim.Native.Nat.{ℕ, ◌≤◌}
use native.Mathlib.Omega.{arith}
use mathlib.Core.Path.{◌≡◌, refl, ap, ◌∙◌, sym}
use mathlib.Core.List.{List, [], ◌∷◌, ◌++◌, append_assoc}
use lib.ListN.{length, length-append}
use Rattle.std.specs.Prelude.{Option, Some, None}
use Rattle.event.specs.declared.Event.{Event}
use Rattle.wire.specs.Hear.{hear_of, after, events_in, events_of, spelled, words_of}
use Rattle.wire.specs.declared.Wire.{Wire}

pub after_append : (w : Wire) (xs ys : List ℕ) → after w (xs ++ ys) ≡ after (after w xs) ys
unfolding after
after_append w [] ys = refl
after_append w (s ∷ xs) ys = after_append (hear_of w s).wire xs ys

pub words_append : (w : Wire) (xs ys : List ℕ) → words_of w (xs ++ ys) ≡ words_of w xs ++ words_of (after w xs) ys
unfolding words_of after
words_append w [] ys = refl
words_append w (s ∷ xs) ys =
    ap (λ ws. spelled (hear_of w s).given ++ ws) (words_append (hear_of w s).wire xs ys) ∙ sym (append_assoc (spelled (hear_of w s).given) _ _)

pub events_append : (w : Wire) (xs ys : List ℕ) → events_of w (xs ++ ys) ≡ events_of w xs ++ events_of (after w xs) ys
unfolding events_of after
events_append w [] ys = refl
events_append w (s ∷ xs) ys =
    ap (λ es. events_in (hear_of w s).given ++ es) (events_append (hear_of w s).wire xs ys) ∙ sym (append_assoc (events_in (hear_of w s).given) _ _)

pub at_most_one : (g : Option Event) → length (spelled g) ≤ 1
at_most_one None = omega arith
at_most_one (Some e) = omega arith

pub words_most : (w : Wire) (ss : List ℕ) → length (words_of w ss) ≤ length ss
unfolding words_of
words_most w [] = omega arith
words_most w (s ∷ ss) =
    omega (arith, length-append (spelled (hear_of w s).given) (words_of (hear_of w s).wire ss), at_most_one (hear_of w s).given, words_most (hear_of w s).wire ss)

-- A line of `load` and one word: it is that order, and the word is its argument, whatever it is. Assumes nothing.
use Prim.Native.Nat.{ℕ, ◌+◌, ◌<◌}
use native.Mathlib.Omega.{arith}
use Rattle.std.proofs.Math.Numerals.{one-add}
use mathlib.Core.Bool.{true, false}
use mathlib.Core.Path.{◌≡◌, refl, ap, ◌∙◌}
use mathlib.Core.List.{List, [], ◌∷◌, ◌++◌}
use lib.ListN.{length}
use lib.Seq.{take-length, drop-length}
use borrow.Author.Tests.{ne_eqb, lt-leb}
use Rattle.script.specs.Text.{characters, blank, leading, trimmed, first, rest, only, index_of}
use Rattle.script.specs.Verbs.{verbs, verb_of}
use Rattle.script.specs.Lines.{order_line, verb_line, plain, argument_of, text_line, line_of, does_or}
use Rattle.script.specs.declared.Verb.TheVariants as verb
use Rattle.script.specs.declared.Order.TheVariants.{Load}
use Rattle.script.specs.declared.Mistake.TheVariants.{Misused}
use Rattle.std.proofs.Common.{Ok, Some}

-- Characters that stand in one word: none is a blank, and none begins a comment.
abbrev pub OneWord : List ℕ → Type 0
OneWord [] = Unit {0}
OneWord (c ∷ cs) = (32 < c) × (c ≡ 35 → ⊥) × OneWord cs

no_comment : (w : List ℕ) → OneWord w → index_of 35 w ≡ length w
no_comment [] one = refl
no_comment (c ∷ cs) one = rw (ne_eqb c 35 one.1) (ap (λ n. 1 + n) (no_comment cs one.2) ∙ one-add (length cs))

no_blank : (w : List ℕ) → OneWord w → leading false w ≡ length w
unfolding blank
no_blank [] one = refl
no_blank (c ∷ cs) one = rw (lt-leb c 32 one.0) (ap (λ n. 1 + n) (no_blank cs one.2) ∙ one-add (length cs))

none_in_front : (w : List ℕ) → OneWord w → leading true w ≡ 0
unfolding blank
none_in_front [] one = refl
none_in_front (c ∷ cs) one = rw (lt-leb c 32 one.0)

-- What follows `load`, a blank and the word: the word, and nothing after it.
module _ (w : List ℕ) (one : OneWord w) where
  word : first (32 ∷ w) ≡ w
  unfolding first trimmed blank
  word = rw (none_in_front w one, no_blank w one) (take-length w)

  nothing : rest (32 ∷ w) ≡ []
  unfolding rest trimmed blank
  nothing = rw (none_in_front w one, no_blank w one) (drop-length w)

  all_of_it : plain (characters "load " ++ w) ≡ characters "load " ++ w
  unfolding plain
  all_of_it = simp (no_comment w one, one-add, take-length w)

  follows : rest (characters "load " ++ w) ≡ 32 ∷ w
  unfolding rest trimmed blank
  follows = refl

  pub load_argument : argument_of (characters "load " ++ w) ≡ w
  unfolding argument_of
  load_argument = rw (all_of_it, follows) word

  named : text_line (characters "load " ++ w) ≡ does_or (Misused verb.Load) (verb_line verb.Load (32 ∷ w))
  unfolding text_line verb_of verbs first rest trimmed blank
  named = refl

  pub load_line : 0 < length w → line_of (characters "load " ++ w) ≡ Ok (Some Load)
  unfolding line_of verb_line order_line only trimmed
  load_line some = rw (all_of_it, named, nothing, word, ne_eqb (length w) 0 (λ e. omega (arith, e)))

-- The theorems on the bench's language. Assumes nothing.
use Prim.Native.Nat.{ℕ, zero, suc, ◌+◌, ◌*◌, ◌%◌, ◌<◌, ◌≤◌}
use native.Mathlib.Omega.{arith}
use Rattle.std.proofs.Math.Numerals.{one-add}
use mathlib.Core.Bool.{Bool, true, false, cond, beq}
use mathlib.Core.Path.{◌≡◌, refl, ap, ◌∙◌, sym}
use mathlib.Core.List.{List, [], ◌∷◌, map}
use lib.Dec.{ltb, leb}
use lib.ListN.{take, drop}
use borrow.Author.Tests.{ltb-true, ltb-false, leb-false, le-leb, lt-leb}
use denote.Ref.{Bor}
use Rattle.event.specs.Words.{unpacked}
use Rattle.hexes.specs.Digit.{digit_for}
use Rattle.script.specs.Text.{characters, blank, leading, trimmed, first, rest, only}
use Rattle.script.specs.Verbs.{verbs, verb_of}
use Rattle.script.specs.Arguments.{digit_of, octet_of, word_of, pair_of, count_from, count_of, ticks_of, small_of, further_of, follows_at, all_further, further_values}
use Rattle.script.specs.Hands.{bay_of, only_bay, kind_of, insert_line, hand_line}
use Rattle.script.specs.Lines.{Line, reset_line, take_line, write_line, span, read_line, chassis_line, order_line, verb_line, plain, argument_of, text_line, line_of}
use Rattle.script.specs.Examples.{Example, examples, Argument, arguments, Values, furthers}
use Rattle.std.proofs.Common.{Option, Some}
use Rattle.script.proofs.arguments.digit.Reads as digit_reads
use Rattle.script.proofs.arguments.further_value.Reads as further_reads
use Rattle.script.proofs.arguments.word.Reads as word_reads
use Rattle.script.proofs.lines.argument.Reads as argument_reads
use Rattle.script.proofs.lines.meaning.Reads as meaning_reads

-- Each of the examples means what it is said to mean.
pub examples_hold : map (λ (e : Example). line_of (characters e.typed)) examples ≡ map (λ (e : Example). e.means) examples
unfolding examples unpacked line_of plain text_line verb_line order_line hand_line insert_line only bay_of only_bay kind_of reset_line take_line write_line span read_line chassis_line further_of follows_at all_further octet_of digit_of word_of pair_of ticks_of small_of count_of count_from verb_of verbs trimmed first rest blank
examples_hold = refl

pub arguments_hold : map (λ (a : Argument). argument_of (characters a.typed)) arguments ≡ map (λ (a : Argument). characters a.word) arguments
unfolding arguments argument_of plain trimmed first rest blank
arguments_hold = refl

pub furthers_hold : map (λ (v : Values). further_values (characters v.typed) v.more) furthers ≡ map (λ (v : Values). v.values) furthers
unfolding furthers further_values further_of octet_of digit_of
furthers_hold = refl

-- ---- words as numbers

-- A word as a number: its characters as digits of base 256, the first the lowest.
unfoldable pub spelled : List ℕ → ℕ
spelled [] = 0
spelled (c ∷ cs) = spelled cs * 256 + c

-- Bytes, and bytes that are not 0.
abbrev Bytes : List ℕ → Type 0
Bytes [] = Unit {0}
Bytes (c ∷ cs) = (c < 256) × Bytes cs

abbrev Word : List ℕ → Type 0
Word [] = Unit {0}
Word (c ∷ cs) = (0 < c) × (c < 256) × Word cs

-- No two words have one number.
pub spelled_apart : (w v : List ℕ) → Word w → Word v → spelled w ≡ spelled v → w ≡ v
unfolding spelled
spelled_apart [] [] p q e = refl
spelled_apart [] (d ∷ ds) p q e = absurd (omega (arith, q.0))
spelled_apart (c ∷ cs) [] p q e = absurd (omega (arith, p.0))
spelled_apart (c ∷ cs) (d ∷ ds) p q e =
    let lowest : c ≡ d = omega (arith, p.1, q.1) in
    let others : spelled cs ≡ spelled ds = omega (arith, p.1, q.1) in
    ap (λ x. x ∷ cs) lowest ∙ ap (λ xs. d ∷ xs) (spelled_apart cs ds p.2 q.2 others)

-- The first word of a line is such a word: it has no blank.
unblanked : (t : List ℕ) → Bytes t → Word (take (leading false t) t)
unfolding blank
unblanked [] b = tt
unblanked (c ∷ cs) b = go (unblanked cs b.1) (leb c 32) refl
  where
    go : Word (take (leading false cs) cs) → (k : Bool) → leb c 32 ≡ k → Word (take (cond (beq k false) (1 + leading false cs) 0) (c ∷ cs))
    go rest true e = tt
    go rest false e = rw one-add (omega (arith, leb-false c 32 e), b.0, rest)

dropped : (n : ℕ) (t : List ℕ) → Bytes t → Bytes (drop n t)
dropped zero t b = b
dropped (suc n) [] b = tt
dropped (suc n) (c ∷ cs) b = dropped n cs b.1

pub first_is_word : (t : List ℕ) → Bytes t → Word (first t)
unfolding first trimmed
first_is_word t b = unblanked (drop (leading true t) t) (dropped (leading true t) t b)

-- ---- numbers as texts

-- A digit that is written is read as the same digit.
pub digit_back : (n : ℕ) → digit_of (digit_for n) ≡ Some (n % 16)
unfolding digit_of digit_for
digit_back n = go (ltb (n % 16) 10) refl
  where
    go : (b : Bool) → ltb (n % 16) 10 ≡ b → digit_of (digit_for n) ≡ Some (n % 16)
    go true e =
        let h : n % 16 < 10 = ltb-true (n % 16) 10 e in
        rw (e, le-leb 48 (48 + n % 16) (omega arith), le-leb (48 + n % 16) 57 (omega (arith, h))) (ap Some (omega arith))
    go false e =
        let h : 10 ≤ n % 16 = ltb-false (n % 16) 10 e in
        rw (
          e,
          le-leb 48 (55 + n % 16) (omega arith),
          lt-leb (55 + n % 16) 57 (omega (arith, h)),
          le-leb 65 (55 + n % 16) (omega (arith, h)),
          le-leb (55 + n % 16) 70 (omega arith),
        )
        (ap Some (omega (arith, h)))

-- The contract of each exported call, as the checker reads it, determines the call's answer.
pub meaning_determined :
    (κs : _) (line : Bor (List ℕ)) (r s : Line) → meaning_reads.Post κs (line, tt) r (line, tt) → meaning_reads.Post κs (line, tt) s (line, tt) → r ≡ s
meaning_determined κs line r s p q = p ∙ sym q

pub digit_determined : (κs : _) (c : ℕ) (r s : Option ℕ) → digit_reads.Post κs (c, tt) r (c, tt) → digit_reads.Post κs (c, tt) s (c, tt) → r ≡ s
digit_determined κs c r s p q = p.0 ∙ sym q.0

pub further_determined :
    (κs : _) (text : Bor (List ℕ)) (n r s : ℕ) → further_reads.Post κs (text, (n, tt)) r (text, (n, tt)) → further_reads.Post κs (text, (n, tt)) s (text, (n, tt)) → r ≡ s
further_determined κs text n r s p q = p ∙ sym q

pub word_determined :
    (κs : _) (text : Bor (List ℕ)) (r s : Option ℕ) → word_reads.Post κs (text, tt) r (text, tt) → word_reads.Post κs (text, tt) s (text, tt) → r ≡ s
word_determined κs text r s p q = p ∙ sym q

-- Of a part of the line, what stands in it.
pub argument_determined :
    (κs : _) (line r s : Bor (List ℕ)) → argument_reads.Post κs (line, tt) r (line, tt) → argument_reads.Post κs (line, tt) s (line, tt) → r.now ≡ s.now
argument_determined κs line r s p q = p ∙ sym q

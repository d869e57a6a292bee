-- An input cut anywhere: feeding its parts in turn leaves the trace and puts out the lines of feeding the whole. Assumes nothing.
use Prim.Native.Nat.{ℕ, ◌+◌, ◌*◌, ◌≤◌}
use native.Mathlib.Omega.{arith}
use mathlib.Core.Path.{◌≡◌, refl}
use mathlib.Core.List.{List, [], ◌∷◌, ◌++◌, append_assoc, append-nil}
use lib.ListN.{length, length-append}
use Rattle.std.specs.Prelude.{None, Some}
use Rattle.std.specs.declared.option.Option.{Option}
use Rattle.dock.specs.Run.{after}
use Rattle.dock.specs.declared.Controller.{Controller}
use Rattle.dock.proofs.Run.{after_append}
use Rattle.dock.specs.Step.{step_of}
use Rattle.lines.specs.Line.{line_of}
use Rattle.lines.specs.Telling.{run_text}
use Rattle.pairs.specs.Pairs.{words_in, lone_in}
use Rattle.trace.specs.Text.{header, lines_of, odd_for, odd, whole_lines, text_of}
use Rattle.trace.specs.Pieces.{held, waiting_for, joined, lines_fed, trace_fed, begun, ending_of}
use Rattle.trace.specs.declared.pieces.Trace.{Trace}
use Rattle.trace.specs.Words.{words_append, lone_append, bytes_counted, lines_append, lines_length}

-- What waits after some bytes is their lone byte.
pub held_lone : (xs : List ℕ) → held (waiting_for (lone_in xs)) ≡ lone_in xs
unfolding lone_in
held_lone [] = refl
held_lone (b ∷ []) = refl
held_lone (high ∷ (low ∷ xs)) = held_lone xs

-- None of an input: nothing happens.
pub trace_none : (t : Trace) → trace_fed t [] ≡ t
unfolding trace_fed words_in lone_in after
trace_none t = go t.controller t.waiting
  where
    go : (s : Controller) (w : Option ℕ) → trace_fed (record { controller = s; waiting = w }) [] ≡ record { controller = s; waiting = w }
    go s None = refl
    go s (Some b) = refl

pub lines_none : (t : Trace) → lines_fed t [] ≡ []
unfolding lines_fed words_in lines_of
lines_none t = go t.waiting
  where
    go : (w : Option ℕ) → lines_of t.controller (words_in (held w ++ [])) ≡ []
    go None = refl
    go (Some b) = refl

module _ (t : Trace) (xs ys : List ℕ) where
  -- The words of the whole are those of the first part, and those that the second completes after it.
  words_cut : words_in (joined t (xs ++ ys)) ≡ words_in (joined t xs) ++ words_in (joined (trace_fed t xs) ys)
  unfolding trace_fed
  words_cut = rw (← append_assoc, words_append (joined t xs) ys, held_lone (joined t xs))

  pub trace_append : trace_fed t (xs ++ ys) ≡ trace_fed (trace_fed t xs) ys
  unfolding trace_fed
  trace_append =
      rw (words_cut, after_append t.controller (words_in (joined t xs)), ← append_assoc, lone_append (joined t xs) ys, held_lone (joined t xs))

  pub lines_cut : lines_fed t (xs ++ ys) ≡ lines_fed t xs ++ lines_fed (trace_fed t xs) ys
  unfolding lines_fed trace_fed
  lines_cut = rw (words_cut, lines_append t.controller (words_in (joined t xs)))

held_most : (w : Option ℕ) → length (held w) ≤ 1
held_most None = omega arith
held_most (Some b) = omega arith

-- The text of a piece has eight characters for each byte at most, and eight for one that waited.
pub fed_most : (t : Trace) (xs : List ℕ) → length (lines_fed t xs) ≤ 8 * length xs + 8
unfolding lines_fed
fed_most t xs =
    omega (
      arith,
      lines_length t.controller (words_in (joined t xs)),
      bytes_counted (joined t xs),
      length-append (held t.waiting) xs,
      held_most t.waiting,
    )

ending_most : (w : Option ℕ) → length (odd_for (held w)) ≤ 8
unfolding odd_for odd
ending_most None = omega arith
ending_most (Some b) = omega arith

pub ending_short : (t : Trace) → length (ending_of t) ≤ 8
unfolding ending_of
ending_short t = ending_most t.waiting

-- A word that is whole now has its line.
pub word_told :
    (t : Trace) (high low : ℕ) → t.waiting ≡ Some high
    → lines_fed t (low ∷ []) ≡ line_of (high * 256 + low) (step_of t.controller (high * 256 + low)).answer
unfolding lines_fed words_in lines_of
word_told t high low e = rw e (append-nil (line_of (high * 256 + low) (step_of t.controller (high * 256 + low)).answer))

pub lines_so_far : (bytes : List ℕ) → header ++ lines_fed begun bytes ≡ whole_lines bytes
unfolding lines_fed begun whole_lines
lines_so_far bytes = refl

-- The header, the lines of all pieces and the ending are the text of the whole.
pub whole_text : (bytes : List ℕ) → run_text lines_fed trace_fed ending_of begun header bytes ≡ text_of bytes
unfolding lines_fed trace_fed ending_of begun text_of
whole_text bytes = rw (held_lone bytes)

-- A capture as a program that hears its input in pieces: the laws that the loop over a piece, the run and the joined texts go by. They and
-- what they rest on (Texts, Cut) stand among the definitions, where the program's `impl` can name them. Assumes nothing.
use Prim.Native.Nat.{◌+◌, ◌*◌, ◌^◌, ◌<◌}
use native.Mathlib.Omega.{arith}
use Rattle.lines.specs.Telling.{TellingLaws}
use Rattle.capture.specs.Pieces.{text_fed, capture_fed, ending_of}
use Rattle.capture.specs.declared.pieces.Capture.{Capture}
use Rattle.capture.specs.Cut.{capture_none, fed_none, capture_append, fed_cut, fed_most}

pub laws : TellingLaws text_fed capture_fed ending_of (λ n. 74 * n) (λ (c : Capture) n. c.count + n < 2 ^ 64)
unfolding capture_fed
laws =
    record {
      text_none = fed_none;
      after_none = capture_none;
      text_append = fed_cut;
      after_append = capture_append;
      text_most = λ c xs n l. omega (arith, fed_most c xs, l);
      ending_most = λ c n. omega arith;
      hears_on = λ c xs n h. omega (arith, h);
      hears_fewer = λ c m n l h. omega (arith, l, h);
    }

-- A trace as a program that hears its input in pieces: the laws that the loop over a piece, the run and the joined texts go by. They and
-- what they rest on (Words, Cut) stand among the definitions, where the program's `impl` can name them. Assumes nothing.
use Prim.Native.Nat.{◌+◌, ◌*◌}
use native.Mathlib.Omega.{arith}
use Rattle.lines.specs.Telling.{TellingLaws}
use Rattle.trace.specs.Pieces.{lines_fed, trace_fed, ending_of}
use Rattle.trace.specs.Cut.{trace_none, lines_none, trace_append, lines_cut, fed_most, ending_short}

pub laws : TellingLaws lines_fed trace_fed ending_of (λ n. 8 * n + 8) (λ t n. Unit {0})
laws =
    record {
      text_none = lines_none;
      after_none = trace_none;
      text_append = lines_cut;
      after_append = trace_append;
      text_most = λ t xs n l. omega (arith, fed_most t xs, l);
      ending_most = λ t n. omega (arith, ending_short t);
      hears_on = λ t xs n h. tt;
      hears_fewer = λ t m n l h. tt;
    }

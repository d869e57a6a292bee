-- Records, one after the other: each is four bytes, and those of two lists of answers are those of the one, then those of the other.
-- Assumes nothing.
use Prim.Native.Nat.{◌*◌}
use native.Mathlib.Omega.{arith}
use mathlib.Core.Path.{◌≡◌, refl, ap, ◌∙◌, sym}
use mathlib.Core.List.{List, [], ◌∷◌, ◌++◌, append_assoc}
use lib.ListN.{length, length-append}
use Rattle.batch.specs.Record.{record_of, records_of}
use Rattle.dock.specs.Answers.{Answer}

pub record_length : (a : Answer) → length (record_of a) ≡ 4
unfolding record_of
record_length a = refl

pub records_length : (l : List Answer) → length (records_of l) ≡ 4 * length l
unfolding records_of
records_length [] = refl
records_length (a ∷ l) = length-append (record_of a) (records_of l) ∙ omega (arith, record_length a, records_length l)

pub records_append : (k l : List Answer) → records_of (k ++ l) ≡ records_of k ++ records_of l
unfolding records_of
records_append [] l = refl
records_append (a ∷ k) l = ap (λ r. record_of a ++ r) (records_append k l) ∙ sym (append_assoc (record_of a) (records_of k) (records_of l))

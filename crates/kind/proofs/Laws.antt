-- The numbers of the two kinds (document 03, "Naming the kind"), written out: each names its own kind, and no other names one. Assumes
-- nothing.
use Prim.Native.Nat.{ℕ}
use mathlib.Core.Path.{◌≡◌, refl}
use mathlib.Core.Logic.{◌≢◌}
use mathlib.Core.Bool.{Bool, true, false}
use borrow.Author.Tests.{ne_eqb}
use Rattle.kind.specs.Kind.{is_second, kind_by, kind_number, unknown_kind, numbered}
use Rattle.kind.specs.declared.Kind.{Kind}
use Rattle.kind.specs.declared.Kind.TheVariants.{First, Second}
use Rattle.std.specs.Prelude.{Ok, Err}

pub record Numbers : Type 0 where
  pub first : numbered 1 ≡ Ok First
  pub second : numbered 2 ≡ Ok Second
  pub neither : (n : ℕ) → n ≢ 1 → n ≢ 2 → numbered n ≡ Err unknown_kind
  pub own : (k : Kind) → numbered (kind_number k) ≡ Ok k

pub numbers : Numbers
unfolding numbered
numbers = record { first = refl; second = refl; neither = λ n p q. rw (ne_eqb n 1 p, ne_eqb n 2 q); own = own }
  where
    own : (k : Kind) → numbered (kind_number k) ≡ Ok k
    own First = refl
    own Second = refl

-- A kind is the second or the first, and nothing more.
pub by_second : (k : Kind) → kind_by (is_second k) ≡ k
by_second First = refl
by_second Second = refl

pub second_by_lem : (b : Bool) → is_second (kind_by b) ≡ b
second_by_lem true = refl
second_by_lem false = refl

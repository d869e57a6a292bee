-- The values of a write after its first: where the text is too short for one, there is none. Assumes nothing.
use Prim.Native.Nat.{ℕ, ◌+◌, ◌*◌, ◌<◌, ◌≤◌}
use native.Mathlib.Omega.{arith}
use native.Mathlib.Nat.{min-le_right}
use mathlib.Core.Bool.{false}
use mathlib.Core.Path.{◌≡◌}
use mathlib.Core.List.{List}
use lib.ListN.{length, take, drop, length-take, length-drop, get_or-eq_default}
use borrow.Author.Tests.{ne_eqb}
use Rattle.std.proofs.Common.{None}
use Rattle.script.specs.Arguments.{octet_of, further_of, follows_at}

too_short : (t : List ℕ) (s : ℕ) → length t < s + 2 → length (take 2 (drop s t)) ≡ 2 → ⊥
too_short t s h e = omega (arith, length-take 2 (drop s t), min-le_right 2 (length (drop s t)), length-drop s t)

module _ (t : List ℕ) (n : ℕ) where
  pub no_further : length t < 3 * n + 6 + 2 → None ≡ further_of t n
  unfolding further_of octet_of
  no_further h = rw (ne_eqb _ 2 (too_short t (3 * n + 6) h))

  pub none_follows : length t ≤ 3 * n + 5 → false ≡ follows_at t n
  unfolding follows_at
  none_follows h = rw (get_or-eq_default t 0 h)

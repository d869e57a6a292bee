-- A batch counts at most 16,384 records. Assumes nothing.
use Prim.Native.Nat.{ℕ, ◌*◌, ◌≤◌}
use native.Mathlib.Omega.{arith}
use mathlib.Core.List.{List}
use lib.Dec.{ltb}
use borrow.Author.Tests.{ltb-false}
use Rattle.bay.proofs.Taut.{pick}
use Rattle.machine.specs.Record.{fits}
use Rattle.dock.specs.declared.Controller.{Controller}
use Rattle.batch.specs.Batch.{outcome_of}
use Rattle.calls.specs.Numbers.{outcome_count}
use Rattle.image.specs.Load.{is_image, state_in}
use Rattle.link.specs.Held.{outcome_in}
use Rattle.calls.specs.Numbers.{Outcome}

count_most : (s : Controller) (words bytes : ℕ) → outcome_count (outcome_of s words bytes) ≤ 16384
unfolding outcome_of
count_most s words bytes =
    pick Small (fits s.machine)
    (λ f. pick Small (ltb 16384 words) (λ m. omega arith)
    (λ m. pick Small (ltb bytes (4 * words)) (λ b. omega arith) (λ b. ltb-false 16384 words m)))
    (λ f. omega arith)
  where
    Small : Outcome → Type 0
    Small o = outcome_count o ≤ 16384

-- So does one from a state held.
pub held_most : (bytes : List ℕ) (words room : ℕ) → outcome_count (outcome_in bytes words room) ≤ 16384
unfolding outcome_in
held_most bytes words room = pick (λ o. outcome_count o ≤ 16384) (is_image bytes) (λ i. count_most (state_in bytes) words room) (λ i. omega arith)

-- Which records are fit, in numbers. Assumes nothing.
use Prim.Native.Nat.{ℕ, ◌≤◌, ◌<◌}
use mathlib.Core.Path.{◌≡◌, refl}
use mathlib.Core.Logic.{◌↔◌}
use mathlib.Core.Bool.{true, and-eq-true_iff}
use lib.Dec.{ltb}
use borrow.Author.Tests.{leb-true, le-leb, ltb-true, lt-ltb}
use Rattle.queue.specs.Record.{empty_queue, in_range, fits}

-- The start is 0-127 and the count 0-128.
pub record InRange (start count : ℕ) : Type 0 where
  pub start_fits : start < 128
  pub count_fits : count ≤ 128

pub fit_parts : (start count : ℕ) → (in_range start count ≡ true) ↔ InRange start count
unfolding in_range
fit_parts start count = (
  λ h. let p = (and-eq-true_iff (ltb start 128) _).0 h in record { start_fits = ltb-true _ 128 p.0; count_fits = leb-true _ 128 p.1 },
  λ f. rw (lt-ltb start 128 f.start_fits, le-leb count 128 f.count_fits),
)

pub empty_fit : fits empty_queue ≡ true
unfolding in_range empty_queue
empty_fit = refl

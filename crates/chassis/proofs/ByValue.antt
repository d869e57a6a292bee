-- Records held by value: up to four are the list of that length, whatever stands in the places behind it, and more are the wrong length. Assumes nothing.
use Prim.Native.Nat.{ℕ, ◌≤◌, ◌<◌}
use mathlib.Core.Path.{◌≡◌, refl}
use mathlib.Core.List.{List, ◌++◌}
use lib.ListN.{take, drop}
use borrow.Author.Tests.{le-ltb, lt-ltb}
use Rattle.dock.specs.declared.Controller.{Controller}
use Rattle.chassis.specs.declared.Chassis.{Chassis}
use Rattle.chassis.specs.Numbers.{answer_refusal}
use Rattle.chassis.specs.Chassis.{records_of, told_of, told_by}
use Rattle.chassis.specs.Held.{stepped_of}

module _ (h : Chassis) (n w : ℕ) where
  abbrev list : List Controller
  list = take h.count h.records

  abbrev behind : List Controller
  behind = drop h.count h.records

  pub record AsList : Type 0 where
    pub answers : (stepped_of h n w).told ≡ told_of list n w
    pub leaves : (stepped_of h n w).chassis.records ≡ records_of list n w ++ behind
    pub as_many : (stepped_of h n w).chassis.count ≡ h.count

  pub held_as_list : h.count ≤ 4 → AsList
  unfolding stepped_of
  held_as_list few =
      let within = le-ltb 4 h.count few in
      record { answers = rw within refl; leaves = rw within refl; as_many = rw within refl }

  pub held_too_many : 4 < h.count → (answer_refusal (stepped_of h n w).told.answer ≡ 9) × ((stepped_of h n w).chassis ≡ h)
  unfolding stepped_of told_by
  held_too_many many = rw (lt-ltb 4 h.count many) (refl, refl)

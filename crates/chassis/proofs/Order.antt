-- The order of the refusals in the paper's numbers, on lists of controllers that have had no RESET: with each word a later condition is met as well.
-- Assumes nothing.
use Prim.Native.Nat.{ℕ}
use mathlib.Core.Path.{◌≡◌, refl}
use mathlib.Core.List.{List, [], ◌∷◌}
use Rattle.event.specs.Words.{unpacked}
use Rattle.dock.specs.Record.{fresh_controller}
use Rattle.dock.specs.declared.Controller.{Controller}
use Rattle.dock.proofs.Sharing.{fresh_stands}
use Rattle.bus.specs.Progress.{own_write_byte}
use Rattle.chassis.specs.Judge.{faulty, by_word, judged}
use Rattle.chassis.specs.Chassis.{told_by, told_of}
use Rattle.chassis.specs.Numbers.{answer_refusal}

abbrev refusal : List Controller → ℕ → ℕ → ℕ
refusal cs n w = answer_refusal (told_of cs n w).answer

abbrev two : List Controller
two = fresh_controller ∷ fresh_controller ∷ []

-- A PINS with a stray bit is 8100h, one without 80FFh; a START with a stray bit is 0001h.
pub record InOrder : Type 0 where
  pub nine_before_two : refusal [] 0 0x8100 ≡ 9
  pub two_before_ten : refusal two 2 0x8100 ≡ 2
  pub two_before_three : refusal two 0 0x0001 ≡ 2
  pub ten_before_three : refusal two 2 0x80FF ≡ 10
  pub three : refusal two 1 0x80FF ≡ 3

pub in_order : InOrder
unfolding judged by_word faulty told_by unpacked own_write_byte
in_order =
    record {
      nine_before_two = refl;
      two_before_ten = rw fresh_stands refl;
      two_before_three = rw fresh_stands refl;
      ten_before_three = rw fresh_stands refl;
      three = rw fresh_stands refl;
    }

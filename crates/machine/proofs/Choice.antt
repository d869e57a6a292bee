-- What a choice comes to once its test is known. Rewriting by the test itself would also change the record that it was read from.
-- Assumes nothing.
use mathlib.Core.Path.{◌≡◌, ap}
use mathlib.Core.Bool.{Bool, true, false, cond}

pub chosen : {b : Bool} → b ≡ true → {A : Type 0} (x y : A) → cond b x y ≡ x
chosen e x y = ap (λ t. cond t x y) e

pub passed : {b : Bool} → b ≡ false → {A : Type 0} (x y : A) → cond b x y ≡ y
passed e x y = ap (λ t. cond t x y) e

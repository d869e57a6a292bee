-- The same for records that a program holds by value: the list is the first so many of four places.
use Rattle.std.specs.Prelude.{ℕ, cond, List, ◌++◌, ltb, take, drop, Err}
use Rattle.dock.specs.declared.Controller.{Controller}
use Rattle.chassis.specs.declared.Chassis.{Chassis}
use Rattle.chassis.specs.declared.Lent.{Lent}
use Rattle.chassis.specs.declared.Refusal.TheVariants.{WrongLength}
use Rattle.chassis.specs.declared.Stepped.{Stepped}
use Rattle.chassis.specs.Judge.{MOST}
use Rattle.chassis.specs.Chassis.{records_of, told_of, told_by}

-- The places behind the list stay as they are.
abbrev pub lent_of : List Controller → ℕ → ℕ → ℕ → Lent
lent_of cs count n w = record { records = records_of (take count cs) n w ++ drop count cs; told = told_of (take count cs) n w }

-- More records than there are places are the wrong length.
unfoldable pub stepped_of : Chassis → ℕ → ℕ → Stepped
stepped_of h n w =
    cond (ltb MOST h.count)
    (record { chassis = h; told = told_by (Err WrongLength) n w h.records })
    (record {
      chassis = record { records = (lent_of h.records h.count n w).records; count = h.count };
      told = (lent_of h.records h.count n w).told;
    })

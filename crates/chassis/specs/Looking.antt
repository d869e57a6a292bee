-- How the records of a list stand on the bus, as far as they have been looked at: a step of the code's own way to the verdict of Judge.antt.
use Rattle.std.specs.Prelude.{ℕ, zero, suc, ◌+◌, cond, List, [], ◌∷◌, ltb, set}
use Rattle.dock.specs.Shared.{standing_of}
use Rattle.dock.specs.declared.Controller.{Controller}
use Rattle.chassis.specs.declared.Seen.{Seen}
use Rattle.chassis.specs.Judge.{MOST, nobody}

-- Of so many records, how many are looked at: all, or none where they are more than four.
abbrev pub looked_at : ℕ → ℕ
looked_at n = cond (ltb MOST n) 0 n

abbrev pub begun : Seen
begun = record { standings = nobody ∷ nobody ∷ nobody ∷ nobody ∷ []; count = 0 }

-- One record more, where there is a place for it.
abbrev pub seen_with : Seen → Controller → Seen
seen_with s c = cond (ltb s.count MOST) (record { standings = set s.standings s.count (standing_of c); count = s.count + 1 }) s

-- The first so many of a list.
unfoldable pub seen_to : Seen → ℕ → List Controller → Seen
seen_to s zero cs = s
seen_to s (suc i) [] = s
seen_to s (suc i) (c ∷ cs) = seen_to (seen_with s c) i cs

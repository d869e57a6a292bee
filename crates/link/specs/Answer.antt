-- The one layout of an answer of the library: the refusal in bits 23-16, and a value below it. Document 01's answers as such numbers.
use Rattle.std.specs.Prelude.{ℕ, ◌+◌, ◌*◌, ◌%◌, cond, eqb, Result, Option}
use Rattle.dock.specs.Answers.{told_refusal, told_value}
use Rattle.dock.specs.Held.{held_refusal, held_value}
use Rattle.dock.specs.Name.{naming_refusal}
use Rattle.calls.specs.Numbers.{outcome_refusal, outcome_count}
use Rattle.dock.specs.declared.Refusal.{Refusal}
use Rattle.dock.specs.declared.NamingRefusal.{NamingRefusal}
use Rattle.calls.specs.Numbers.{Outcome}

abbrev pub both : ℕ → ℕ → ℕ
both refusal value = refusal * 65536 + value

-- The value, back again.
abbrev pub value_in : ℕ → ℕ
value_in answer = answer % 65536

-- Beginning, on so many bytes: refusal 1 where they are not as many as an image has.
abbrev pub begun_as : ℕ → ℕ → ℕ
begun_as width bytes = cond (eqb bytes width) (both 0 0) (both 1 0)

-- A batch: its refusal and its count.
abbrev pub batched_as : Outcome → ℕ
batched_as o = both (outcome_refusal o) (outcome_count o)

-- A question about a state: its refusal and what it asked for.
abbrev pub told_as : Result ℕ Refusal → ℕ
told_as t = both (told_refusal t) (told_value t)

-- The byte that an open read holds: its refusal, and in the value bit 8 exactly if one is held.
abbrev pub held_as : Result (Option ℕ) Refusal → ℕ
held_as h = both (held_refusal h) (held_value h)

-- Naming a kind: its refusal, and no value.
abbrev pub named_as : Result (Unit {0}) NamingRefusal → ℕ
named_as n = both (naming_refusal n) 0

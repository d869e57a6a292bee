-- The two kinds of controller, and the numbers that name them (document 02, request 2; document 03, "Naming the kind").
use Rattle.std.specs.Prelude.{ℕ, Bool, true, false, cond, eqb, Result, Ok, Err}
use Rattle.kind.specs.declared.Kind.{Kind}
use Rattle.kind.specs.declared.UnknownKind.{UnknownKind}
use Rattle.kind.specs.declared.Kind.TheVariants.{First, Second}

abbrev pub is_second : Kind → Bool
is_second First = false
is_second Second = true

abbrev pub kind_by : Bool → Kind
kind_by second = cond second Second First

-- 1 the first kind, 2 the second.
abbrev pub kind_number : Kind → ℕ
kind_number First = 1
kind_number Second = 2

abbrev pub unknown_kind : UnknownKind
unknown_kind = record {}

-- Any other number is neither.
unfoldable pub numbered : ℕ → Result Kind UnknownKind
numbered n = cond (eqb n 1) (Ok First) (cond (eqb n 2) (Ok Second) (Err unknown_kind))

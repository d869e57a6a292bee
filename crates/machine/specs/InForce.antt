-- The register map of the kind in force: what each address reads, and what a whole write does.
use Rattle.std.specs.Prelude.{ℕ, cond}
use Rattle.kind.specs.Kind.{is_second}
use Rattle.machine.specs.FirstKind.{first_register, first_written}
use Rattle.machine.specs.SecondKind.{second_register, second_written}
use Rattle.machine.specs.declared.Machine.{Machine}

unfoldable pub register : Machine → ℕ → ℕ
register m a = cond (is_second m.kind) (second_register m a) (first_register m a)

-- Of a state not started every register reads 0.
unfoldable pub reading : Machine → ℕ → ℕ
reading m a = cond m.started (register m a) 0

-- A whole write.
unfoldable pub written : ℕ → ℕ → Machine → Machine
written a v m = cond (is_second m.kind) (second_written a v m) (first_written a v m)

-- The description of commands that each kind of controller goes by: when one goes on, when it is complete, and what its last bus event decides.
use Rattle.std.specs.Prelude.{ℕ, Bool, List}
use Rattle.kind.specs.declared.Kind.{Kind}
use Rattle.kind.specs.declared.Kind.TheVariants.{First, Second}
use Rattle.machine.specs.declared.Act.{Act}
use Rattle.demand.specs.Bus.{Bus}
use Rattle.demand.specs.Commands.{first_goes_on, first_completes, first_decides}
use Rattle.demand.specs.Transfers.{second_goes_on, second_completes, second_decides}

unfoldable pub is_going_on : Kind → ℕ → List Bus → Bool
is_going_on First straps es = first_goes_on straps es
is_going_on Second straps es = second_goes_on straps es

unfoldable pub completes : Kind → ℕ → List Bus → Bool
completes First straps es = first_completes straps es
completes Second straps es = second_completes straps es

unfoldable pub decides : Kind → ℕ → List Bus → List Act
decides First straps es = first_decides straps es
decides Second straps es = second_decides straps es

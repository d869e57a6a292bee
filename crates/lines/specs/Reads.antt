-- What a read's answer means: a number of bytes, never more than the buffer has; none at the end of the input; or it failed.
use Rattle.std.specs.Prelude.{ℕ, min, cond, eqb, None, Some, Ok, Err}
use Rattle.std.specs.declared.result.Result.{Result}
use Rattle.std.specs.declared.option.Option.{Option}
use Rattle.lines.specs.declared.reads.Stopped.{Stopped}
use Rattle.lines.specs.declared.reads.Stopped.TheVariants.{Unread}

unfoldable pub came_of : {E : Type 0} → Result ℕ E → ℕ → Result (Option ℕ) Stopped
came_of (Ok n) room = Ok (cond (eqb n 0) None (Some (min n room)))
came_of (Err e) room = Err Unread

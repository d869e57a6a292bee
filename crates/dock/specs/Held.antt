-- The byte that an open read holds (document 02, request 7): a read is open from the own read byte until the next bus event, TIMEOUT or RESET;
-- in the second kind the byte is the one for the next TAKE. Before the first RESET none is open. An unfit state is refused with 1.
use Rattle.std.specs.Prelude.{ℕ, ◌+◌, cond, None, Option, Some, Err, Ok, Result}
use Rattle.bus.specs.Progress.{held_by}
use Rattle.machine.specs.Record.{fits}
use Rattle.dock.specs.Answers.{refusal_number}
use Rattle.dock.specs.declared.Controller.{Controller}
use Rattle.dock.specs.declared.Refusal.TheVariants.{Unfit}
use Rattle.dock.specs.declared.Refusal.{Refusal}

-- In numbers: bit 8 is set exactly if a byte is held, which is bits 7-0.
abbrev pub held_refusal : Result (Option ℕ) Refusal → ℕ
held_refusal (Ok held) = 0
held_refusal (Err why) = refusal_number why

abbrev pub value_held : Option ℕ → ℕ
value_held (Some v) = 0x100 + v
value_held None = 0

abbrev pub held_value : Result (Option ℕ) Refusal → ℕ
held_value (Ok held) = value_held held
held_value (Err why) = 0

abbrev pub as_held : Option ℕ → Result (Option ℕ) Refusal
as_held held = Ok held

-- Of a fit state.
unfoldable pub held_fit : Controller → Result (Option ℕ) Refusal
held_fit s = cond s.machine.started (as_held (held_by s.machine.kind s.progress)) (Ok None)

unfoldable pub told_held : Controller → Result (Option ℕ) Refusal
told_held s = cond (fits s.machine) (held_fit s) (Err Unfit)

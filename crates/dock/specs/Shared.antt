-- What a bus that several controllers share has to know of one (document 02, request 9): whether its state is fit, whether it is started, its own
-- address, and whether a read of it is open, as request 7 has it.
use Rattle.std.specs.Prelude.{ℕ, Bool, true, false, Option, Some, None, Result, Ok, Err}
use Rattle.bus.specs.Progress.{own_write_byte}
use Rattle.machine.specs.Record.{fits}
use Rattle.dock.specs.Held.{held_fit}
use Rattle.dock.specs.declared.Controller.{Controller}
use Rattle.dock.specs.declared.Standing.{Standing}
use Rattle.dock.specs.declared.Refusal.{Refusal}

abbrev pub is_byte : Result (Option ℕ) Refusal → Bool
is_byte (Ok (Some v)) = true
is_byte (Ok None) = false
is_byte (Err why) = false

unfoldable pub standing_of : Controller → Standing
standing_of s =
    record {
      fit = fits s.machine;
      started = s.machine.started;
      address = own_write_byte s.machine.straps;
      reading = is_byte (held_fit s);
    }

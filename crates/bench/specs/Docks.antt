-- The docks on the bus by their numbers: four places, of which the first so many are docks. A record and levels for each.
use Rattle.std.specs.Prelude.{ℕ, false, cond, List, [], ltb, get_or, set}
use Rattle.bus.specs.declared.Progress.TheVariants.{Idle}
use Rattle.kind.specs.declared.Kind.TheVariants.{First}
use Rattle.dock.specs.Record.{fresh_controller}
use Rattle.dock.specs.declared.Controller.{Controller}
use Rattle.chassis.specs.Judge.{MOST}
use Rattle.chassis.specs.declared.Chassis.{Chassis}

-- What stands in for a record that a list doesn't have: the code's array always has four.
abbrev pub no_record : Controller
no_record =
    record {
      machine = record {
        started = false;
        straps = 0;
        kind = First;
        named = First;
        shared = record { wait_time = 0; bay_count = 0; dbccr_written = false; lock_time = 0; seclock = false };
        second = record { subsystem = []; subsystem_written = []; form_factors = []; form_factors_written = []; sfr = 0; sfr_written = false };
        phase = 0;
        bays = [];
      };
      progress = Idle;
    }

-- The record of a number; one that has no place is a fresh dock's.
unfoldable pub record_at : ℕ → Chassis → Controller
record_at d h = cond (ltb d MOST) (get_or h.records d no_record) fresh_controller

-- Another record at it.
unfoldable pub with_record : ℕ → Controller → Chassis → Chassis
with_record d c h = cond (ltb d MOST) (record { records = set h.records d c; count = h.count }) h

-- Before any are given, no input is asserted.
abbrev pub AT_REST : ℕ
AT_REST = 0xFF

-- The levels of a number; one that has no place has them at rest.
unfoldable pub levels_at : ℕ → List ℕ → ℕ
levels_at d ls = cond (ltb d MOST) (get_or ls d 0) AT_REST

unfoldable pub with_levels : ℕ → ℕ → List ℕ → List ℕ
with_levels d l ls = cond (ltb d MOST) (set ls d l) ls

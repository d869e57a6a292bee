-- The controller's record: a machine and a bus command in progress.
use Rattle.bus.specs.declared.Progress.TheVariants.{Idle}
use Rattle.machine.specs.Record.{fresh_machine}
use Rattle.dock.specs.declared.Controller.{Controller}

-- A fresh state is not started, with no command open.
unfoldable pub fresh_controller : Controller
fresh_controller = record { machine = fresh_machine; progress = Idle }

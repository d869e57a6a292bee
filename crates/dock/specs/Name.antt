-- Naming the kind (document 02, request 2; document 03, "Naming the kind"): 1 if the state isn't fit, then 14 if the number is neither, each with
-- the state as given; else 0, and the named kind is stored.
use Rattle.std.specs.Prelude.{ℕ, cond}
use Rattle.std.specs.Prelude.{Result, Ok, Err}
use Rattle.kind.specs.Kind.{numbered}
use Rattle.kind.specs.declared.Kind.{Kind}
use Rattle.machine.specs.Record.{fits}
use Rattle.machine.specs.Acts.{does}
use Rattle.dock.specs.declared.Controller.{Controller}
use Rattle.dock.specs.declared.Renamed.{Renamed}
use Rattle.machine.specs.declared.Act.TheVariants as act
use Rattle.dock.specs.declared.NamingRefusal.TheVariants.{NoSuchKind, Unfit}
use Rattle.dock.specs.declared.NamingRefusal.{NamingRefusal}
use Rattle.kind.specs.declared.UnknownKind.{UnknownKind}

abbrev pub naming_number : NamingRefusal → ℕ
naming_number Unfit = 1
naming_number NoSuchKind = 14

abbrev pub naming_refusal : Result (Unit {0}) NamingRefusal → ℕ
naming_refusal (Ok t) = 0
naming_refusal (Err why) = naming_number why

-- The machine takes the name, and the transfer in progress goes on.
abbrev pub named_to : Kind → Controller → Controller
named_to k s = record { machine = does (act.Name k) s.machine; progress = s.progress }

abbrev pub renamed : Controller → Result (Unit {0}) NamingRefusal → Renamed
renamed s n = record { controller = s; naming = n }

abbrev pub name_fit : Controller → Result Kind UnknownKind → Renamed
name_fit s (Ok k) = renamed (named_to k s) (Ok tt)
name_fit s (Err why) = renamed s (Err NoSuchKind)

unfoldable pub name_of : Controller → ℕ → Renamed
name_of s n = cond (fits s.machine) (name_fit s (numbered n)) (renamed s (Err Unfit))

-- A list of calls, event words and numbers that name a kind, with the refused ones dropped.
use Rattle.std.specs.Prelude.{Bool, true, cond, List, [], ◌∷◌}
use Rattle.event.specs.Words.{unpacked}
use Rattle.kind.specs.Kind.{numbered}
use Rattle.dock.specs.Step.{takes}
use Rattle.dock.specs.Run.{Call, word, naming}
use Rattle.demand.specs.Acts.{Happening, event, name}
use Rattle.std.specs.Prelude.{Result, Ok, Err}
use Rattle.event.specs.declared.Event.{Event}
use Rattle.event.specs.declared.NoEvent.{NoEvent}
use Rattle.kind.specs.declared.Kind.{Kind}
use Rattle.kind.specs.declared.UnknownKind.{UnknownKind}

-- A word with a bit set that must be 0 is dropped, and so is every event before the first RESET.
abbrev pub keep : Bool → Result Event NoEvent → List Happening → List Happening → List Happening
keep begun (Err why) more less = less
keep begun (Ok e) more less = cond (takes begun e) (event e ∷ more) less

-- A number that is of neither kind is dropped.
abbrev pub keep_name : Result Kind UnknownKind → List Happening → List Happening
keep_name (Ok k) more = name k ∷ more
keep_name (Err why) more = more

unfoldable pub accepted : Bool → List Call → List Happening
accepted begun [] = []
accepted begun (word w ∷ cs) = keep begun (unpacked w) (accepted true cs) (accepted begun cs)
accepted begun (naming n ∷ cs) = keep_name (numbered n) (accepted begun cs)

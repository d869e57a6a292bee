-- A command broken off, and a list of calls with its bus events struck out (demand 3: it counts for nothing). In the second kind it does so where
-- it decided no write: before its first data byte, and any read.
use Rattle.dock.specs.Run.{Call, word, naming as names}
use Rattle.kind.specs.declared.Kind.TheVariants.{First, Second}
use Rattle.event.specs.declared.Event.TheVariants.{Start, Stop, Byte, Take, Pins, Tick, Reset, Timeout}
use Rattle.std.specs.Prelude.{ℕ, Bool, cond, false, true, List, [], ◌++◌, ◌∷◌, ◌≡◌}
use Rattle.machine.specs.declared.Act.{Act}
use Rattle.demand.specs.Bus.{Bus, START}
use Rattle.event.specs.declared.Event.{Event}
use Rattle.demand.specs.Acts.{Happening, Is, event, name}
use Rattle.kind.specs.declared.Kind.{Kind}
use Rattle.demand.specs.Described.{completes, decides, is_going_on}
use Rattle.event.specs.Words.{unpacked}
use Rattle.machine.specs.declared.Act.TheVariants as act
use Rattle.std.specs.Prelude.{Result, Ok, Err}
use Rattle.event.specs.declared.NoEvent.{NoEvent}

-- What a bus event decides is no write.
abbrev pub no_write : List Act → Bool
no_write [] = true
no_write (act.Write r v ∷ more) = false
no_write (act.Read r ∷ more) = true
no_write (act.Pins levels ∷ more) = true
no_write (act.Tick ∷ more) = true
no_write (act.Reset straps levels short ∷ more) = true
no_write (act.Name k ∷ more) = true

abbrev pub quiet : Kind → ℕ → List Bus → Bool
quiet First straps es = true
quiet Second straps es = no_write (decides Second straps es)

-- The rest of a command that is broken off, after these bus events of it.
pub data Breaks (k : Kind) (straps : ℕ) : List Bus → List Happening → Type 0 where
  -- PINS, TICK and a name may fall anywhere inside.
  pins : {since : List Bus} {rest : List Happening} (levels : ℕ) → Breaks k straps since rest → Breaks k straps since (event (Pins levels) ∷ rest)
  tick : {since : List Bus} {rest : List Happening} → Breaks k straps since rest → Breaks k straps since (event Tick ∷ rest)
  naming : {since : List Bus} {rest : List Happening} (n : Kind) → Breaks k straps since rest → Breaks k straps since (name n ∷ rest)
  -- A bus event that is the next one of a form, and not its last.
  goes_on :
      {since : List Bus} {rest : List Happening} {e : Event} {b : Bus}
      → Is e b → is_going_on k straps (since ++ (b ∷ [])) ≡ true → completes k straps (since ++ (b ∷ [])) ≡ false → quiet k straps (since ++ (b ∷ [])) ≡ true
      → Breaks k straps (since ++ (b ∷ [])) rest → Breaks k straps since (event e ∷ rest)
  -- The first bus event that isn't ends it, and so do TIMEOUT and RESET.
  spent : {since : List Bus} {e : Event} {b : Bus} → Is e b → is_going_on k straps (since ++ (b ∷ [])) ≡ false → Breaks k straps since (event e ∷ [])
  timeout : {since : List Bus} → Breaks k straps since (event Timeout ∷ [])
  reset : {since : List Bus} (s levels : ℕ) (short : Bool) → Breaks k straps since (event (Reset s levels short) ∷ [])

-- From its opening START through the event that ends it.
pub data BrokenOff (k : Kind) (straps : ℕ) : List Happening → Type 0 where
  opened : {rest : List Happening} → Breaks k straps (START ∷ []) rest → BrokenOff k straps (event Start ∷ rest)

-- The bus events struck out of a list: PINS, TICK, TIMEOUT, RESET and names stay.
abbrev pub on_the_bus : Event → Bool
on_the_bus Start = true
on_the_bus Stop = true
on_the_bus (Byte b) = true
on_the_bus (Take ack) = true
on_the_bus (Pins levels) = false
on_the_bus Tick = false
on_the_bus (Reset straps levels short) = false
on_the_bus Timeout = false

unfoldable pub struck : List Happening → List Happening
struck [] = []
struck (event e ∷ hs) = cond (on_the_bus e) (struck hs) (event e ∷ struck hs)
struck (name k ∷ hs) = name k ∷ struck hs

-- The same of calls.
abbrev pub word_on_the_bus : Result Event NoEvent → Bool
word_on_the_bus (Err why) = false
word_on_the_bus (Ok e) = on_the_bus e

unfoldable pub strike : List Call → List Call
strike [] = []
strike (word w ∷ cs) = cond (word_on_the_bus (unpacked w)) (strike cs) (word w ∷ strike cs)
strike (names n ∷ cs) = names n ∷ strike cs

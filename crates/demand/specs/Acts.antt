-- Which acts a list of events contains (document 01, "Bus commands"; document 03, "Bus transfers" and "State"): each whole command is one act, at
-- its deciding event, and in the second kind each byte; pin samples, ticks, resets and names stand in their places.
use Rattle.event.specs.declared.Event.TheVariants.{Start, Stop, Byte, Take, Pins, Tick, Reset, Timeout}
use Rattle.machine.specs.declared.Act.TheVariants as act
use Rattle.std.specs.Prelude.{ℕ, Bool, cond, List, [], ◌++◌, ◌∷◌}
use Rattle.machine.specs.declared.Act.{Act}
use Rattle.demand.specs.Bus.{BYTE, Bus, START, STOP, TAKE}
use Rattle.event.specs.declared.Event.{Event}
use Rattle.kind.specs.declared.Kind.TheVariants.{First}
use Rattle.kind.specs.declared.Kind.{Kind}
use Rattle.demand.specs.Described.{completes, decides, is_going_on}

-- An event that is a bus event.
pub data Is : Event → Bus → Type 0 where
  a_start : Is Start START
  a_stop : Is Stop STOP
  a_byte : {b : ℕ} → Is (Byte b) (BYTE b)
  a_take : {ack : Bool} → Is (Take ack) (TAKE ack)

-- What happens to a controller: an event, or a call that names a kind.
pub data Happening : Type 0 where
  event : Event → Happening
  name : Kind → Happening

-- What has been heard: the straps of the last RESET, the kind that it put in force, the kind named since, and the bus events of the open
-- command (none: no command is open).
pub record Line : Type 0 where
  pub straps : ℕ
  pub kind : Kind
  pub named : Kind
  pub since : List Bus

unfoldable pub silent : Line
silent = record { straps = 0; kind = First; named = First; since = [] }

-- The same with these bus events.
abbrev pub having : List Bus → Line → Line
having since l = record { straps = l.straps; kind = l.kind; named = l.named; since = since }

-- The open command with one event more; a START opens a command when none is open.
abbrev pub with_event : Line → Bus → List Bus
with_event l e = l.since ++ (e ∷ [])

-- An open command goes on while each bus event is the next one of either form, up to the last; the first that isn't ends the
-- command, is spent with it and opens nothing.
unfoldable pub on_bus : Line → Bus → Line
on_bus l e =
    having
    (cond (is_going_on l.kind l.straps (with_event l e)) (cond (completes l.kind l.straps (with_event l e)) [] (with_event l e)) [])
    l

-- PINS and TICK are passed over by the command; TIMEOUT and RESET end it, and a RESET puts the named kind in force.
unfoldable pub hears : Line → Event → Line
hears l Start = on_bus l START
hears l Stop = on_bus l STOP
hears l (Byte b) = on_bus l (BYTE b)
hears l (Take ack) = on_bus l (TAKE ack)
hears l (Pins levels) = l
hears l Tick = l
hears l (Reset straps levels short) = record { straps = straps; kind = l.named; named = l.named; since = [] }
hears l Timeout = having [] l

-- The acts that an event decides: one, or none.
unfoldable pub decided : Line → Event → List Act
decided l Start = decides l.kind l.straps (with_event l START)
decided l Stop = decides l.kind l.straps (with_event l STOP)
decided l (Byte b) = decides l.kind l.straps (with_event l (BYTE b))
decided l (Take ack) = decides l.kind l.straps (with_event l (TAKE ack))
decided l (Pins levels) = act.Pins levels ∷ []
decided l Tick = act.Tick ∷ []
decided l (Reset straps levels short) = act.Reset straps levels short ∷ []
decided l Timeout = []

-- A name is heard, and is an act of its own; the open command goes on.
unfoldable pub meets : Line → Happening → Line
meets l (event e) = hears l e
meets l (name k) = record { straps = l.straps; kind = l.kind; named = k; since = l.since }

unfoldable pub acts_at : Line → Happening → List Act
acts_at l (event e) = decided l e
acts_at l (name k) = act.Name k ∷ []

-- Along a list: what has been heard, and the acts, in order.
unfoldable pub line_after : Line → List Happening → Line
line_after l [] = l
line_after l (h ∷ hs) = line_after (meets l h) hs

unfoldable pub acts_of : Line → List Happening → List Act
acts_of l [] = []
acts_of l (h ∷ hs) = acts_at l h ++ acts_of (meets l h) hs

-- What falls inside a command and is passed over: PINS, TICK, and a name.
pub data PassedOver : List Happening → Type 0 where
  none : PassedOver []
  pins : {hs : List Happening} (levels : ℕ) → PassedOver hs → PassedOver (event (Pins levels) ∷ hs)
  tick : {hs : List Happening} → PassedOver hs → PassedOver (event Tick ∷ hs)
  naming : {hs : List Happening} (k : Kind) → PassedOver hs → PassedOver (name k ∷ hs)

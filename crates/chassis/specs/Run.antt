-- Calls on a list of controllers, one after the other: event words, each with the number that stands beside it, and names of a kind for one record
-- (document 02, requests 9 and 2); and which of the core's own calls reach the record at a place.
use Rattle.std.specs.Prelude.{ℕ, cond, List, [], ◌∷◌, ◌++◌, eqb, get_or, set, Err, Ok, Result}
use Rattle.dock.specs.Name.{name_of}
use Rattle.dock.specs.Record.{fresh_controller}
use Rattle.dock.specs.Run as alone
use Rattle.dock.specs.declared.Controller.{Controller}
use Rattle.chassis.specs.Judge.{verdict_of}
use Rattle.chassis.specs.Chassis.{goes_to, records_of}
use Rattle.chassis.specs.declared.Refusal.{Refusal}
use Rattle.event.specs.declared.Event.{Event}

-- A number and the word that it stands beside; a record's place and a number that names a kind.
pub data ChassisCall : Type 0 where
  word : ℕ → ℕ → ChassisCall
  naming : ℕ → ℕ → ChassisCall

-- The records afterwards. A name for a record that isn't there does nothing.
unfoldable pub after_call : List Controller → ChassisCall → List Controller
after_call cs (word n w) = records_of cs n w
after_call cs (naming i k) = set cs i (name_of (get_or cs i fresh_controller) k).controller

unfoldable pub after_calls : List Controller → List ChassisCall → List Controller
after_calls cs [] = cs
after_calls cs (c ∷ calls) = after_calls (after_call cs c) calls

-- What reaches the record at a place: a word that the chassis does not refuse and that goes there, and a name for it.
abbrev pub word_for : ℕ → Result Event Refusal → ℕ → ℕ → List alone.Call
word_for i (Ok e) n w = cond (goes_to e n i) (alone.word w ∷ []) []
word_for i (Err x) n w = []

unfoldable pub own_call : ℕ → List Controller → ChassisCall → List alone.Call
own_call i cs (word n w) = word_for i (verdict_of cs n w) n w
own_call i cs (naming j k) = cond (eqb i j) (alone.naming k ∷ []) []

-- Those of a list of calls, in order.
unfoldable pub own_calls : ℕ → List Controller → List ChassisCall → List alone.Call
own_calls i cs [] = []
own_calls i cs (c ∷ calls) = own_call i cs c ++ own_calls i (after_call cs c) calls

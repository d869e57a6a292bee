-- What a person does at a bay, as a change of its inputs (document 01, "Event words"). Levels: n1394, nUSB, nREMREQ, nSL of bay 0,
-- then of bay 1, bit 7 to 0; 0 is asserted.
use Rattle.std.specs.Prelude.{ℕ, ◌+◌, ◌*◌, cond, List, Option, Some, None, option_map, option_and_then}
use Rattle.script.specs.Text.{says, first, rest, only}
use Rattle.script.specs.declared.Hand.{Hand}
use Rattle.script.specs.declared.Hand.TheVariants.{Insert, Remove, Press, Release, Secure, Unsecure}
use Rattle.script.specs.declared.Order.{Order}
use Rattle.script.specs.declared.Order.TheVariants.{Pull, Raise}

-- The inputs of a bay by their weights among its four.
abbrev N1394 : ℕ
N1394 = 8

abbrev NUSB : ℕ
NUSB = 4

abbrev NREMREQ : ℕ
NREMREQ = 2

abbrev NSL : ℕ
NSL = 1

-- Where the four inputs of a bay begin in the levels.
unfoldable pub bay_of : List ℕ → Option ℕ
bay_of t = cond (says "0" t) (Some 16) (cond (says "1" t) (Some 1) None)

-- The same of a text that names nothing more.
unfoldable pub only_bay : List ℕ → Option ℕ
only_bay t = option_and_then bay_of (only t)

-- What is inserted, by the input that tells of it.
unfoldable pub kind_of : List ℕ → Option ℕ
kind_of t = cond (says "1394" t) (Some N1394) (cond (says "usb" t) (Some NUSB) None)

-- An order to pull inputs of a bay low, or to raise them.
abbrev pub pulls : Option ℕ → ℕ → Option Order
pulls place inputs = option_map (λ p. Pull (p * inputs)) place

abbrev pub raises : Option ℕ → ℕ → Option Order
raises place inputs = option_map (λ p. Raise (p * inputs)) place

-- `insert` takes a bay and what is inserted there.
abbrev pub inserts : Option ℕ → Option ℕ → Option Order
inserts place None = None
inserts place (Some input) = pulls place input

unfoldable pub insert_line : List ℕ → Option Order
insert_line t = inserts (bay_of (first t)) (option_and_then kind_of (only (rest t)))

-- The others take a bay. A cartridge that leaves takes both its contacts along; the data sheet's security lock is engaged while nSL
-- is low.
unfoldable pub hand_line : Hand → List ℕ → Option Order
hand_line Insert t = insert_line t
hand_line Remove t = raises (only_bay t) (N1394 + NUSB)
hand_line Press t = pulls (only_bay t) NREMREQ
hand_line Release t = raises (only_bay t) NREMREQ
hand_line Secure t = pulls (only_bay t) NSL
hand_line Unsecure t = raises (only_bay t) NSL

-- What a line does to the docks on the bench: the event words that it sends, one after the other.
use Rattle.std.specs.Prelude.{ℕ, ◌+◌, ◌*◌, ◌/◌, Bool, true, false, cond, List, [], ◌∷◌, ◌++◌, map, ltb, replicate, Some, None, Result, Ok, Err, is_ok}
use Rattle.event.specs.Words.{packed, pack_word, unpacked}
use Rattle.event.specs.declared.Event.{Event}
use Rattle.event.specs.declared.Event.TheVariants.{Start, Stop, Byte, Take, Pins, Tick}
use Rattle.dock.specs.Record.{fresh_controller}
use Rattle.dock.specs.Name.{name_of}
use Rattle.dock.specs.declared.Controller.{Controller}
use Rattle.chassis.specs.Judge.{MOST}
use Rattle.chassis.specs.Held.{stepped_of}
use Rattle.paste.specs.Findings.{pasted_of}
use Rattle.paste.specs.declared.Pasted.{Pasted}
use Rattle.paste.specs.declared.Refused.{Refused}
use Rattle.script.specs.Arguments.{further_values}
use Rattle.script.specs.Lines.{Line, argument_of, line_of}
use Rattle.script.specs.declared.Order.{Order}
use Rattle.script.specs.declared.Order.TheVariants.{Event as One, Pull, Raise, Ticks, Word, Write, Read, Address, Outputs, Registers, Help, Save, Load, Name, Docks, Choose}
use Rattle.script.specs.declared.Mistake.{Mistake}
use Rattle.bench.specs.Docks.{AT_REST, record_at, with_record, levels_at, with_levels}
use Rattle.bench.specs.Levels.{pulled, raised, levels_after, levels_in}
use Rattle.bench.specs.declared.Bench.{Bench}
use Rattle.bench.specs.declared.Followed.{Followed}
use Rattle.bench.specs.declared.Sent.{Sent}

abbrev pub word_for : Event → ℕ
word_for e = pack_word (packed e)

-- A whole write of values, to an address byte.
abbrev pub byte_word : ℕ → ℕ
byte_word b = word_for (Byte b)

abbrev pub write_words : ℕ → ℕ → List ℕ → List ℕ
write_words a r vs = word_for Start ∷ byte_word a ∷ byte_word r ∷ (map byte_word vs ++ (word_for Stop ∷ []))

-- A whole read: the address byte for reading has its lowest bit set, and the host ACKs each byte that it takes but the last.
abbrev pub read_byte : ℕ → ℕ
read_byte a = a / 2 * 2 + 1

abbrev pub take_words : ℕ → List ℕ
take_words more = replicate more (word_for (Take true)) ++ (word_for (Take false) ∷ [])

abbrev pub read_words : ℕ → ℕ → ℕ → List ℕ
read_words a r more = word_for Start ∷ byte_word a ∷ byte_word r ∷ word_for Start ∷ byte_word (read_byte a) ∷ take_words more

-- The words of an order and the text beside it, to an address byte and over the levels of the chosen dock as they are.
unfoldable pub words_of : ℕ → ℕ → Order → List ℕ → List ℕ
words_of a l (One e) t = word_for e ∷ []
words_of a l (Pull inputs) t = word_for (Pins (pulled l inputs)) ∷ []
words_of a l (Raise inputs) t = word_for (Pins (raised l inputs)) ∷ []
words_of a l (Ticks n) t = replicate n (word_for Tick)
words_of a l (Word w) t = w ∷ []
words_of a l (Write r v more) t = write_words a r (v ∷ further_values t more)
words_of a l (Read r more) t = read_words a r more
words_of a l (Address b) t = []
words_of a l Outputs t = []
words_of a l Registers t = []
words_of a l Help t = []
words_of a l Save t = []
words_of a l Load t = []
words_of a l (Name n) t = []
words_of a l (Docks n) t = []
words_of a l (Choose d) t = []

-- So many docks on the bus, each fresh, the first chosen; what the host speaks to.
unfoldable pub fresh_docks : ℕ → ℕ → Bench
fresh_docks n a =
    record {
      chassis = record { records = replicate MOST fresh_controller; count = n };
      dock = 0;
      address = a;
      levels = replicate MOST AT_REST;
    }

-- A bench that nothing has been done to has one dock.
unfoldable pub fresh_bench : Bench
fresh_bench = fresh_docks 1 0x90

-- One word, by the chassis's call with the number of the chosen dock.
unfoldable pub sent_of : Bench → ℕ → Sent
sent_of b w =
    let stepped = stepped_of b.chassis b.dock w in
    record {
      bench = record {
        chassis = stepped.chassis;
        dock = b.dock;
        address = b.address;
        levels = levels_after stepped.told.answer (unpacked w) b.dock b.levels;
      };
      answer = stepped.told.answer;
    }

-- Words, one after the other.
unfoldable pub after_words : Bench → List ℕ → Bench
after_words b [] = b
after_words b (w ∷ ws) = after_words (sent_of b w).bench ws

abbrev pub sending : Order → List ℕ → Bench → Bench
sending o t b = after_words b (words_of b.address (levels_at b.dock b.levels) o t)

-- The chosen dock is one of those on the bus. With another record and levels of its own:
unfoldable pub is_there : Bench → Bool
is_there b = ltb b.dock b.chassis.count

abbrev pub becomes : Controller → List ℕ → Bench → Bench
becomes c ls b = record { chassis = with_record b.dock c b.chassis; dock = b.dock; address = b.address; levels = ls }

-- The call that names a kind is no word: what the host speaks to and the levels stay. A dock that isn't there is named none.
unfoldable pub named_as : ℕ → Bench → Bench
named_as n b = cond (is_there b) (becomes (name_of (record_at b.dock b.chassis) n).controller b.levels b) b

-- The image of a fit state: the chosen dock goes on from it, with the levels that it has stored; what the host speaks to stays. Any
-- other text changes nothing, nor does any for a dock that isn't there.
abbrev pub is_going_on : Controller → Bench → Bench
is_going_on c b = becomes c (with_levels b.dock (levels_in c.machine) b.levels) b

abbrev pub taken_up : Result Pasted Refused → Bench → Bench
taken_up (Ok p) b = is_going_on p.controller b
taken_up (Err r) b = b

unfoldable pub loaded_by : Result Pasted Refused → Bench → Bench
loaded_by p b = cond (is_there b) (taken_up p b) b

-- An order sends its words; `at` changes the address byte, `load` the chosen dock, by the text beside it, and `kind` its named kind;
-- `chassis` clears the bench, and `dock` chooses.
unfoldable pub obeyed : Order → List ℕ → Bench → Bench
obeyed (One e) t b = sending (One e) t b
obeyed (Pull inputs) t b = sending (Pull inputs) t b
obeyed (Raise inputs) t b = sending (Raise inputs) t b
obeyed (Ticks n) t b = sending (Ticks n) t b
obeyed (Word w) t b = sending (Word w) t b
obeyed (Write r v more) t b = sending (Write r v more) t b
obeyed (Read r more) t b = sending (Read r more) t b
obeyed (Address a) t b = record { chassis = b.chassis; dock = b.dock; address = a; levels = b.levels }
obeyed Outputs t b = b
obeyed Registers t b = b
obeyed Help t b = b
obeyed Save t b = b
obeyed Load t b = loaded_by (pasted_of t) b
obeyed (Name n) t b = named_as n b
obeyed (Docks n) t b = fresh_docks n b.address
obeyed (Choose d) t b = record { chassis = b.chassis; dock = d; address = b.address; levels = b.levels }

-- A line is an order, or nothing, which changes nothing; or it isn't understood, and then there is no other bench than the one
-- before it.
abbrev pub does : Line → List ℕ → Bench → Result Bench Mistake
does (Ok None) t b = Ok b
does (Ok (Some o)) t b = Ok (obeyed o t b)
does (Err m) t b = Err m

unfoldable pub heeded : List ℕ → Bench → Result Bench Mistake
heeded l b = does (line_of l) (argument_of l) b

abbrev pub left : Result Bench Mistake → Bench → Bench
left (Ok after) b = after
left (Err m) b = b

-- The bench after a line.
abbrev pub after_line : List ℕ → Bench → Bench
after_line l b = left (heeded l b) b

-- .. and whether the line was understood.
unfoldable pub followed : List ℕ → Bench → Followed
followed l b = record { bench = after_line l b; understood = is_ok (heeded l b) }

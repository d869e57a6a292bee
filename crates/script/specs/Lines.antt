-- What a line means: a verb, what it takes, and a comment after `#`.
use Rattle.std.specs.Prelude.{ℕ, ◌+◌, ◌*◌, ◌-◌, ◌/◌, ◌%◌, Bool, true, false, cond, not, ◌&&◌, List, length, take, eqb, ltb, leb, Option, Some, None, option_map, option_and_then, Result, Ok, Err}
use Prim.Native.Char.{code}
use Rattle.event.specs.Words.{unpacked, is_reset}
use Rattle.event.specs.declared.Event.TheVariants as event
use Rattle.script.specs.Text.{says, first, rest, only, index_of}
use Rattle.script.specs.Verbs.{verb_of}
use Rattle.script.specs.Arguments.{octet_of, word_of, pair_of, ticks_of, small_of, all_further}
use Rattle.script.specs.Hands.{hand_line}
use Rattle.script.specs.declared.Verb.{Verb}
use Rattle.script.specs.declared.Verb.TheVariants.{Reset, Pins, Tick, Timeout, Start, Stop, Byte, Take, Word, W, R, At, Out, Regs, Help, Save, Load, Kind, Chassis, Dock}
use Rattle.script.specs.declared.Order.{Order}
use Rattle.script.specs.declared.Order.TheVariants.{Event, Ticks, Word as AWord, Write, Read, Address, Outputs, Registers, Help as Verbs, Save as Saving, Load as Loading, Name, Docks, Choose}
use Rattle.script.specs.declared.Mistake.{Mistake}
use Rattle.script.specs.declared.Mistake.TheVariants.{Unknown, Misused, Mishandled}
use Rattle.script.specs.declared.Named.{Named}
use Rattle.script.specs.declared.Named.TheVariants.{This, AtBay}
use Rattle.event.specs.declared.Event.{Event as AnEvent}
use Rattle.event.specs.declared.NoEvent.{NoEvent}

-- An order, where what follows its verb is what the verb takes.
abbrev pub given : Bool → Order → Option Order
given good o = cond good (Some o) None

-- `reset` takes the word of a RESET.
abbrev reset_by : Result AnEvent NoEvent → Option Order
reset_by (Ok e) = given (is_reset e) (Event e)
reset_by (Err why) = None

unfoldable pub reset_line : List ℕ → Option Order
reset_line t = option_and_then (λ w. reset_by (unpacked w)) (word_of t)

-- `take` takes `ack` or `nack`.
unfoldable pub take_line : List ℕ → Option Order
take_line t = cond (says "ack" t) (Some (Event (event.Take true))) (given (says "nack" t) (Event (event.Take false)))

-- `w` takes a register, `=` and a value, five characters, and up to 255 values more, each of three.
abbrev MOST_WRITE : ℕ
MOST_WRITE = 5 + 3 * 255

abbrev pub more_in : List ℕ → ℕ
more_in t = (length t - 5) / 3

abbrev pub writes : List ℕ → ℕ × ℕ → Option Order
writes t p = given (all_further t (more_in t)) (Write p.0 p.1 (more_in t))

unfoldable pub write_line : List ℕ → Option Order
write_line t =
    cond (ltb (length t) 5) None
    (cond (ltb MOST_WRITE (length t)) None
    (cond (eqb (length t % 3) 2) (option_and_then (writes t) (pair_of (code "=") (take 5 t))) None))

-- `r` takes a register, or the first and the last of several with `-` between them; FFh is followed by 00h.
unfoldable pub span : ℕ → ℕ → ℕ
span first last = (256 + last - first) % 256

unfoldable pub read_line : List ℕ → Option Order
read_line t =
    cond (eqb (length t) 5)
    (option_map (λ p. Read p.0 (span p.0 p.1)) (pair_of (code "-") t))
    (option_map (λ r. Read r 0) (octet_of t))

-- `chassis` takes how many docks stand on the bus, one to four.
unfoldable pub chassis_line : List ℕ → Option Order
chassis_line t = option_and_then (λ n. given (leb 1 n && leb n 4) (Docks n)) (small_of t)

-- A verb that takes nothing.
abbrev pub alone : List ℕ → Order → Option Order
alone t o = given (eqb (length t) 0) o

-- A verb and the word after it, empty where there is none.
unfoldable pub order_line : Verb → List ℕ → Option Order
order_line Reset t = reset_line t
order_line Pins t = option_map (λ n. Event (event.Pins n)) (octet_of t)
order_line Tick t = option_map Ticks (ticks_of t)
order_line Timeout t = alone t (Event event.Timeout)
order_line Start t = alone t (Event event.Start)
order_line Stop t = alone t (Event event.Stop)
order_line Byte t = option_map (λ n. Event (event.Byte n)) (octet_of t)
order_line Take t = take_line t
order_line Word t = option_map AWord (word_of t)
order_line W t = write_line t
order_line R t = read_line t
order_line At t = option_map Address (octet_of t)
order_line Out t = alone t Outputs
order_line Regs t = alone t Registers
order_line Help t = alone t Verbs
order_line Save t = alone t Saving
order_line Load t = given (not (eqb (length t) 0)) Loading
order_line Kind t = option_map Name (small_of t)
order_line Chassis t = chassis_line t
order_line Dock t = option_map Choose (small_of t)

-- No verb takes more than one word.
unfoldable pub verb_line : Verb → List ℕ → Option Order
verb_line v t = option_and_then (order_line v) (only t)

-- What a line means: an order, or nothing where it is blank, or what is wrong with it.
abbrev pub Line : Type 0
Line = Result (Option Order) Mistake

abbrev pub does_or : Mistake → Option Order → Line
does_or m None = Err m
does_or m (Some o) = Ok (Some o)

-- A name and what follows it.
abbrev pub named_line : Option Named → List ℕ → Line
named_line None t = Err Unknown
named_line (Some (This v)) t = does_or (Misused v) (verb_line v t)
named_line (Some (AtBay h)) t = does_or (Mishandled h) (hand_line h t)

-- A comment begins with `#` and is no part of what the line says.
unfoldable pub plain : List ℕ → List ℕ
plain l = take (index_of (code "#") l) l

-- The word after the first of a line, empty where there is none: the digits of a `load`.
unfoldable pub argument_of : List ℕ → List ℕ
argument_of l = first (rest (plain l))

unfoldable pub text_line : List ℕ → Line
text_line t = cond (eqb (length (first t)) 0) (Ok None) (named_line (verb_of (first t)) (rest t))

unfoldable pub line_of : List ℕ → Line
line_of l = text_line (plain l)

-- Which call is refused, and with what (document 02, request 9): 9, 1, 2, 10, 3, 11, in this order.
use Rattle.std.specs.Prelude.{ℕ, suc, Bool, true, false, cond, not, ◌&&◌, ◌||◌, List, [], ◌∷◌, ◌++◌, map, eqb, ltb, length, get_or, take, drop}
use Rattle.event.specs.Words.{unpacked}
use Rattle.event.specs.declared.Event.{Event}
use Rattle.event.specs.declared.Event.TheVariants.{Start, Stop, Byte, Take, Pins, Tick, Reset, Timeout}
use Rattle.bus.specs.Progress.{own_write_byte}
use Rattle.dock.specs.Shared.{standing_of}
use Rattle.dock.specs.declared.Controller.{Controller}
use Rattle.dock.specs.declared.Standing.{Standing}
use Rattle.chassis.specs.declared.Refusal.TheVariants.{WrongLength, Unfit, StrayBit, Absent, NotStarted, AddressTaken}
use Rattle.std.specs.Prelude.{Result, Ok, Err}
use Rattle.event.specs.declared.NoEvent.{NoEvent}
use Rattle.chassis.specs.declared.Refusal.{Refusal}

-- Some element of a list is so.
abbrev pub some : {A : Type 0} → (A → Bool) → List A → Bool
some p [] = false
some p (x ∷ xs) = p x || some p xs

-- A list has one to four records.
abbrev pub MOST : ℕ
MOST = 4

-- 9: it has not.
abbrev pub wrong_length : ℕ → Bool
wrong_length n = eqb n 0 || ltb MOST n

-- 1: any record unfit, or two started ones with one own address or both with a read open.
abbrev pub clash : Standing → Standing → Bool
clash a b = a.started && (b.started && (eqb a.address b.address || (a.reading && b.reading)))

unfoldable pub faulty : List Standing → Bool
faulty [] = false
faulty (x ∷ xs) = not x.fit || (some (clash x) xs || faulty xs)

-- PINS and RESET name a record.
abbrev pub names : Event → Bool
names Start = false
names Stop = false
names (Byte b) = false
names (Take ack) = false
names (Pins levels) = true
names Tick = false
names (Reset straps levels short) = true
names Timeout = false

-- 10: PINS or RESET naming an absent record, of so many.
abbrev pub absent : Event → ℕ → ℕ → Bool
absent e n records = names e && not (ltb n records)

-- 3: PINS for a record not started; for the rest but RESET, none started. A place without a record is nobody's.
abbrev pub nobody : Standing
nobody = record { fit = true; started = false; address = 0; reading = false }

abbrev pub started : Standing → Bool
started s = s.started

abbrev pub unheard : Event → ℕ → List Standing → Bool
unheard Start n ss = not (some started ss)
unheard Stop n ss = not (some started ss)
unheard (Byte b) n ss = not (some started ss)
unheard (Take ack) n ss = not (some started ss)
unheard (Pins levels) n ss = not (get_or ss n nobody).started
unheard Tick n ss = not (some started ss)
unheard (Reset straps levels short) n ss = false
unheard Timeout n ss = not (some started ss)

-- 11: the RESET would give a started neighbour's own address. Neighbours are all but the one named.
abbrev pub neighbours : ℕ → List Standing → List Standing
neighbours n ss = take n ss ++ drop (suc n) ss

abbrev pub has : ℕ → Standing → Bool
has address s = s.started && eqb s.address address

abbrev pub address_taken : Event → ℕ → List Standing → Bool
address_taken Start n ss = false
address_taken Stop n ss = false
address_taken (Byte b) n ss = false
address_taken (Take ack) n ss = false
address_taken (Pins levels) n ss = false
address_taken Tick n ss = false
address_taken (Reset straps levels short) n ss = some (has (own_write_byte straps)) (neighbours n ss)
address_taken Timeout n ss = false

-- In this order: 2, 10, 3, 11.
abbrev pub by_event : ℕ → List Standing → ℕ → Event → Result Event Refusal
by_event records ss n e =
    cond (absent e n records) (Err Absent) (cond (unheard e n ss) (Err NotStarted) (cond (address_taken e n ss) (Err AddressTaken) (Ok e)))

unfoldable pub by_word : ℕ → List Standing → ℕ → Result Event NoEvent → Result Event Refusal
by_word records ss n (Err why) = Err StrayBit
by_word records ss n (Ok e) = by_event records ss n e

-- Before them: 9, 1. For a list of so many records that stand so.
unfoldable pub judged : ℕ → List Standing → ℕ → ℕ → Result Event Refusal
judged records ss n w = cond (wrong_length records) (Err WrongLength) (cond (faulty ss) (Err Unfit) (by_word records ss n (unpacked w)))

abbrev pub standings : List Controller → List Standing
standings cs = map standing_of cs

-- Of a list of records, the number that stands beside the word, and the word.
abbrev pub verdict_of : List Controller → ℕ → ℕ → Result Event Refusal
verdict_of cs n w = judged (length cs) (standings cs) n w

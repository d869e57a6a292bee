-- What is made of what the lines show (document 02, request 7).
use Rattle.std.specs.Prelude.{ℕ, ◌+◌, ◌*◌, ◌%◌, Bool, true, false, not, cond, Option, Some, None, ltb}
use Rattle.bits.specs.Bits.{bit, put}
use Rattle.event.specs.declared.Event.{Event}
use Rattle.event.specs.declared.Event.TheVariants as event
use Rattle.wire.specs.declared.Ear.{Ear}
use Rattle.wire.specs.declared.Listening.{Listening}
use Rattle.wire.specs.declared.Listening.TheVariants.{Nothing, FirstByte, Bytes, Takes}
use Rattle.wire.specs.declared.Shown.{Shown}
use Rattle.wire.specs.declared.Shown.TheVariants as shown
use Rattle.wire.specs.declared.Told.{Told}

-- Nothing has come yet: no bits, and 0 collected.
abbrev pub waiting : Listening → Ear
waiting l = record { listening = l; bits = 0; value = 0 }

-- An unfinished byte is dropped at START, STOP or TIMEOUT.
abbrev pub dropped : Ear → Listening → Ear
dropped e l = waiting l

abbrev pub told : Ear → Option Event → Told
told e g = record { ear = e; given = g }

-- A byte has eight bits; the one after them is the ninth.
abbrev pub BITS : ℕ
BITS = 8

-- Most significant first: each bit goes in below those before it, and a byte has room for eight.
abbrev pub joined : ℕ → Bool → ℕ
joined value sdat = (value * 2 + put 0 sdat) % 256

-- A BYTE is given at its eighth bit; a byte that the host clocks in is none of its own.
abbrev pub eighth : Listening → ℕ → Option Event
eighth Nothing value = None
eighth FirstByte value = Some (event.Byte value)
eighth Bytes value = Some (event.Byte value)
eighth Takes value = None

abbrev pub collected : Ear → Bool → Ear
collected e sdat = record { listening = e.listening; bits = e.bits + 1; value = joined e.value sdat }

abbrev pub collects : Ear → Bool → Told
collects e sdat = told (collected e sdat) (cond (ltb (e.bits + 1) BITS) None (eighth e.listening (joined e.value sdat)))

-- After a START's first byte whose lowest bit is 1, each later nine bits are one TAKE.
abbrev pub after_ninth : Listening → ℕ → Listening
after_ninth Nothing value = Nothing
after_ninth FirstByte value = cond (bit 0 value) Takes Bytes
after_ninth Bytes value = Bytes
after_ninth Takes value = Takes

-- The ninth bit of a BYTE is passed over; a TAKE is given at its ninth, low for a host ACK.
abbrev pub at_ninth : Listening → Bool → Option Event
at_ninth Nothing sdat = None
at_ninth FirstByte sdat = None
at_ninth Bytes sdat = None
at_ninth Takes sdat = Some (event.Take (not sdat))

abbrev pub ninth : Ear → Bool → Told
ninth e sdat = told (waiting (after_ninth e.listening e.value)) (at_ninth e.listening sdat)

-- After STOP or TIMEOUT, and in a fresh held state, bits count for nothing until a START.
abbrev pub listens : Listening → Bool
listens Nothing = false
listens FirstByte = true
listens Bytes = true
listens Takes = true

unfoldable pub bit_to : Ear → Bool → Told
bit_to e sdat = cond (listens e.listening) (cond (ltb e.bits BITS) (collects e sdat) (ninth e sdat)) (told e None)

-- START, STOP and TIMEOUT are given whenever they are seen.
unfoldable pub tells : Ear → Option Shown → Told
tells e None = told e None
tells e (Some shown.Start) = told (dropped e FirstByte) (Some event.Start)
tells e (Some shown.Stop) = told (dropped e Nothing) (Some event.Stop)
tells e (Some shown.Timeout) = told (dropped e Nothing) (Some event.Timeout)
tells e (Some (shown.Bit sdat)) = bit_to e sdat

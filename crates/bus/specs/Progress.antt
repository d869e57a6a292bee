-- A bus command in progress, in each kind of controller (document 01, "Bus commands"; document 001, Tables 3 and 4; document 03, "Bus
-- transfers" and "State").
use Rattle.std.specs.Prelude.{ℕ, ◌+◌, ◌*◌, ◌%◌, cond, eqb}
use Rattle.std.specs.Prelude.{Option, Some, None}
use Rattle.bits.specs.Straps.{smb_a}
use Rattle.kind.specs.declared.Kind.{Kind}
use Rattle.kind.specs.declared.Kind.TheVariants.{First, Second}
use Rattle.bus.specs.declared.Progress.{Progress}
use Rattle.bus.specs.declared.Progress.TheVariants.{Idle, Opened, Addressed, Register, Data, Again, Reading, Writing, Sending}
use Rattle.bus.specs.declared.Heard.{Heard}
use Rattle.bus.specs.declared.Heard.TheVariants.{On, Write, Read, End}

-- Bus commands, and Bus transfers: the own address byte is 90h + 2 x SMB_A for writing, one more for reading, in both kinds.
unfoldable pub own_write_byte : ℕ → ℕ
own_write_byte straps = 0x90 + smb_a straps * 2

unfoldable pub own_read_byte : ℕ → ℕ
own_read_byte straps = own_write_byte straps + 1

-- Bus commands, and Bus transfers: a START opens a command when none is open. In an open one it is the next event of a form only after
-- the register byte; else it ends the command, is spent with it and opens nothing.
unfoldable pub started_known : Progress → Progress
started_known Idle = Opened
started_known Opened = Idle
started_known Addressed = Idle
started_known (Register r) = Again r
started_known (Data r v) = Idle
started_known (Again r) = Idle
started_known (Reading v) = Idle
started_known (Writing n) = Idle
started_known (Sending n v) = Idle

-- Bus commands, and Bus transfers: a BYTE goes on with a command where it is the next event of a form, and else ends it. A data byte
-- waits for the STOP in the first kind; in the second each is a whole write at the number.
unfoldable pub heard_known : Kind → ℕ → ℕ → Progress → Heard
heard_known kind straps b Idle = End
heard_known kind straps b Opened = cond (eqb b (own_write_byte straps)) (On Addressed) End
heard_known kind straps b Addressed = On (Register b)
heard_known First straps b (Register r) = On (Data r b)
heard_known Second straps b (Register r) = Write r b
heard_known kind straps b (Data r v) = End
heard_known kind straps b (Again r) = cond (eqb b (own_read_byte straps)) (Read r) End
heard_known kind straps b (Reading v) = End
heard_known kind straps b (Writing n) = Write n b
heard_known kind straps b (Sending n v) = End

-- Bus commands: the TAKE gives the value read at the own read byte. Bus transfers: the register at the number is read and held.
unfoldable pub holding : Kind → ℕ → ℕ → Progress
holding First r v = Reading v
holding Second r v = Sending r v

-- Bus transfers: the number rises; FFh rises to 00h.
unfoldable pub next_register : ℕ → ℕ
next_register r = (r + 1) % 256

-- State: none, started, addressed, numbered and again belong to both kinds. Written with a data byte and reading with a value alone are
-- the first's; written with the number and reading with number and held byte the second's. One of the other kind counts as none.
unfoldable pub known_to : Kind → Progress → Progress
known_to kind Idle = Idle
known_to kind Opened = Opened
known_to kind Addressed = Addressed
known_to kind (Register r) = Register r
known_to First (Data r v) = Data r v
known_to Second (Data r v) = Idle
known_to kind (Again r) = Again r
known_to First (Reading v) = Reading v
known_to Second (Reading v) = Idle
known_to First (Writing n) = Idle
known_to Second (Writing n) = Writing n
known_to First (Sending n v) = Idle
known_to Second (Sending n v) = Sending n v

-- State: a START, and a BYTE, at whatever progress a state holds.
unfoldable pub started : Kind → Progress → Progress
started kind p = started_known (known_to kind p)

unfoldable pub heard : Kind → ℕ → ℕ → Progress → Heard
heard kind straps b p = heard_known kind straps b (known_to kind p)

-- The byte that an open read holds (document 02, request 7): from the own read byte on, and in the second kind from an ACKed TAKE on.
unfoldable pub held_known : Progress → Option ℕ
held_known Idle = None
held_known Opened = None
held_known Addressed = None
held_known (Register r) = None
held_known (Data r v) = None
held_known (Again r) = None
held_known (Reading v) = Some v
held_known (Writing n) = None
held_known (Sending n v) = Some v

unfoldable pub held_by : Kind → Progress → Option ℕ
held_by kind p = held_known (known_to kind p)

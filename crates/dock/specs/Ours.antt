-- Examples of our own, beside P1 to P12 and in the same notation: what "Registers", "Outputs" and the table of refusals of document 01
-- come to, word by word from a fresh controller. Each line would read differently if its rule were another.
use Rattle.std.specs.Prelude.{ℕ, ◌+◌, true, false, List, [], ◌∷◌, ◌++◌}
use Rattle.dock.specs.Examples.{Example, reads, lock_pin_0, drives, answers, gives, R, N, w, pins, ticks}

-- A RESET with these straps and levels, and one that asks for the short pulse.
abbrev RESET : ℕ → List ℕ
RESET given = (0xC000 + given) ∷ []

abbrev SHORT : ℕ → List ℕ
SHORT given = (0xD000 + given) ∷ []

-- ---- before the first RESET

abbrev unstarted : List Example
unstarted =
    gives [] (reads 0x00 0x00)
    ∷ gives [] (reads 0x10 0x00)
    ∷ gives [] (drives 0x000)
    ∷ gives [] (answers 0xA000 3 0 0x00 0x000)
    ∷ gives [] (answers 0xA001 2 0 0x00 0x000)
    ∷ []

-- ---- registers

-- The identity registers read the same whatever is written there, and an address that has no register reads 0.
abbrev identity : List Example
identity =
    gives (N ++ w 0x00 0xFF) (reads 0x00 0x55)
    ∷ gives (N ++ w 0x01 0xFF) (reads 0x01 0x10)
    ∷ gives (N ++ w 0x04 0xFF) (reads 0x04 0x01)
    ∷ gives (N ++ w 0x41 0xFF) (reads 0x41 0x00)
    ∷ gives (N ++ w 0x41 0xFF) (reads 0x40 0x01)
    ∷ []

-- BSTR: nSL shows at once, and each bay has its own. Written, only bits 3 and 2 count, and only a 1.
abbrev bstr : List Example
bstr =
    gives (N ++ pins 0xEF) (reads 0x10 0x80)
    ∷ gives (N ++ pins 0xFE) (reads 0x18 0x80)
    ∷ gives (RESET 0x07F) (reads 0x10 0x06)
    ∷ gives (RESET 0x0FB) (reads 0x18 0x05)
    ∷ gives (R ++ pins 0x9F ++ ticks 5) (reads 0x10 0x0D)
    ∷ gives (R ++ pins 0x9F ++ ticks 5 ++ w 0x10 0xF3) (reads 0x10 0x0D)
    ∷ gives (R ++ pins 0x9F ++ ticks 5 ++ w 0x10 0x08) (reads 0x10 0x05)
    ∷ gives (R ++ pins 0x9F ++ ticks 5 ++ w 0x10 0x04) (reads 0x10 0x09)
    ∷ []

-- BCER: all of it reads back over a locked device; a request of 0 or 5-7 keeps the old one, in the register and of the bay.
abbrev bcer : List Example
bcer =
    gives (R ++ w 0x14 0xAF) (reads 0x14 0xAF)
    ∷ gives (R ++ w 0x14 0xAF ++ w 0x14 0x80) (reads 0x14 0xA0)
    ∷ gives (R ++ w 0x14 0xAF ++ w 0x14 0xD0) (reads 0x14 0xA0)
    ∷ gives (R ++ w 0x14 0xAF ++ w 0x14 0xF0) (reads 0x10 0x25)
    ∷ gives (RESET 0x0FB ++ w 0x1C 0xC3) (reads 0x1C 0xC3)
    ∷ gives (RESET 0x0FB ++ w 0x1C 0xC3) (reads 0x14 0x00)
    ∷ []

-- LETR has two bits. A RESET starts it at 1, and one that asks for the short pulse at 0, whatever it was and whatever the straps are
-- (document 02, request 4); then it can be written as ever.
abbrev letr : List Example
letr =
    gives (N ++ w 0x40 0xFE) (reads 0x40 0x02)
    ∷ gives (N ++ w 0x40 0x03 ++ N) (reads 0x40 0x01)
    ∷ gives (RESET 0x1FF) (reads 0x40 0x01)
    ∷ gives (SHORT 0x1FF) (reads 0x40 0x00)
    ∷ gives (RESET 0x1FF ++ w 0x40 0x00) (reads 0x40 0x00)
    ∷ gives (SHORT 0x1FF ++ w 0x40 0x03) (reads 0x40 0x03)
    ∷ gives (RESET 0x1FF ++ w 0x40 0x03 ++ SHORT 0x1FF) (reads 0x40 0x00)
    ∷ gives (SHORT 0x1FF ++ w 0x40 0x03 ++ RESET 0x1FF) (reads 0x40 0x01)
    ∷ []

-- Bit 12 is none of the straps, nor of the levels: the address is that of the straps below it, and the device is there.
abbrev short : List Example
short =
    gives (SHORT 0xCFF ++ 0x0000 ∷ []) (answers 0x4096 0 1 0x00 0x000)
    ∷ gives (SHORT 0x0BF) (reads 0x10 0x05)
    ∷ gives (SHORT 0x2FF) (drives 0x088)
    ∷ gives [] (answers 0xD1FF 0 0 0x00 0x088)
    ∷ []

-- DBCCR: count 1 closes bay 1 until RESET, the others close nothing. In a closed bay nothing reads, nothing is written, sampled or
-- counted, and nothing is driven; what was in it is gone.
abbrev two : List ℕ
two = RESET 0x0FB ++ w 0x1C 0x85

abbrev dbccr : List Example
dbccr =
    gives two (drives 0x01D)
    ∷ gives (two ++ w 0x0C 0x02) (drives 0x01D)
    ∷ gives (two ++ w 0x0C 0x03) (drives 0x01D)
    ∷ gives (two ++ w 0x0C 0x10) (reads 0x0C 0x10)
    ∷ gives (two ++ w 0x0C 0x01) (drives 0x000)
    ∷ gives (two ++ w 0x0C 0x01) (reads 0x18 0x00)
    ∷ gives (two ++ w 0x0C 0x01 ++ w 0x1C 0x85) (reads 0x1C 0x00)
    ∷ gives (two ++ w 0x0C 0x01 ++ w 0x1C 0x85 ++ pins 0xFA ++ ticks 10) (drives 0x000)
    ∷ gives (two ++ w 0x0C 0x01 ++ pins 0xFA ++ ticks 10) (reads 0x18 0x00)
    ∷ gives (two ++ w 0x0C 0x01 ++ RESET 0x0FB) (reads 0x18 0x05)
    ∷ []

-- ---- moves by a write

-- A request is the state over a device. DEVSTSCHG_EN finds a device that waits in Empty. REMREQ_EN recalls a press once, when it
-- rises: with the enable already 1 a write keeps the state.
abbrev requested : List ℕ
requested = R ++ w 0x14 0x0C ++ pins 0x9F ++ ticks 5

abbrev moves : List Example
moves =
    gives (R ++ w 0x14 0x40) (reads 0x10 0x45)
    ∷ gives (N ++ w 0x14 0x20) (reads 0x10 0x00)
    ∷ gives requested (reads 0x10 0x3D)
    ∷ gives (requested ++ w 0x14 0x2C) (reads 0x10 0x2D)
    ∷ gives (requested ++ w 0x14 0x2C ++ w 0x14 0x0C) (reads 0x10 0x2D)
    ∷ gives (requested ++ w 0x14 0x2C ++ ticks 10) (reads 0x10 0x2D)
    ∷ gives (R ++ w 0x14 0x04 ++ pins 0x9F ++ ticks 5) (reads 0x10 0x1D)
    ∷ gives (R ++ w 0x14 0x04 ++ pins 0x9F ++ ticks 5 ++ w 0x14 0x0C) (reads 0x10 0x3D)
    ∷ []

-- ---- the removal button (document 02, requests 1 and 5)

-- A press over no device sets nothing, in either bay, and neither does one in the TICK in which the device leaves, which began 5 ticks
-- after the removal; a request from before stays.
abbrev over_nothing : List Example
over_nothing =
    gives (N ++ w 0x14 0x08 ++ pins 0xDF ++ ticks 5) (reads 0x10 0x00)
    ∷ gives (N ++ w 0x1C 0x08 ++ pins 0xFD ++ ticks 5) (reads 0x18 0x00)
    ∷ gives (R ++ w 0x14 0x2C ++ pins 0xFF ++ ticks 5 ++ pins 0xDF ++ ticks 5) (reads 0x10 0x04)
    ∷ gives (requested ++ pins 0xFF ++ ticks 10) (reads 0x10 0x0C)
    ∷ []

-- In the TICK in which a device arrives a press, which began 5 ticks after it, sets REMREQ_STS, and the arrival is the one move, if
-- DEVSTSCHG_EN is 1. A TICK before, it sets nothing; a TICK later, it moves the bay. A button that is down when the cartridge comes asks
-- for nothing until it is pressed again.
abbrev held : List ℕ
held = N ++ w 0x14 0x0C ++ pins 0xDF ++ ticks 5 ++ pins 0x9F ++ ticks 10

abbrev with_arrival : List Example
with_arrival =
    gives (N ++ w 0x14 0x0C ++ pins 0xBF ++ ticks 5 ++ pins 0x9F ++ ticks 5) (reads 0x10 0x1D)
    ∷ gives (N ++ w 0x14 0x08 ++ pins 0xBF ++ ticks 5 ++ pins 0x9F ++ ticks 5) (reads 0x10 0x0D)
    ∷ gives (N ++ w 0x14 0x0C ++ pins 0xBF ++ ticks 4 ++ pins 0x9F ++ ticks 6) (reads 0x10 0x15)
    ∷ gives (N ++ w 0x14 0x0C ++ pins 0xBF ++ ticks 6 ++ pins 0x9F ++ ticks 5) (reads 0x10 0x3D)
    ∷ gives held (reads 0x10 0x15)
    ∷ gives (held ++ pins 0xBF ++ ticks 5 ++ pins 0x9F ++ ticks 5) (reads 0x10 0x3D)
    ∷ []

-- A press is accepted after 5 ticks, in either bay, and one that bounces begins anew. So is a release: the next press counts after it.
abbrev quick : List Example
quick =
    gives (R ++ w 0x14 0x0C ++ pins 0x9F ++ ticks 4) (reads 0x10 0x15)
    ∷ gives (RESET 0x0FB ++ w 0x1C 0x0C ++ pins 0xF9 ++ ticks 4) (reads 0x18 0x15)
    ∷ gives (RESET 0x0FB ++ w 0x1C 0x0C ++ pins 0xF9 ++ ticks 5) (reads 0x18 0x3D)
    ∷ gives (R ++ w 0x14 0x0C ++ pins 0x9F ++ ticks 4 ++ pins 0xBF ++ pins 0x9F ++ ticks 4) (reads 0x10 0x15)
    ∷ gives (requested ++ w 0x10 0x08 ++ pins 0xBF ++ ticks 4 ++ pins 0x9F ++ ticks 5) (reads 0x10 0x35)
    ∷ gives (requested ++ w 0x10 0x08 ++ pins 0xBF ++ ticks 5 ++ pins 0x9F ++ ticks 5) (reads 0x10 0x3D)
    ∷ []

-- A removal and a press that begin together: the press goes first, and REMREQ_STS outlasts the device.
abbrev pulled : ℕ → List ℕ
pulled n = R ++ w 0x14 0x2C ++ pins 0xDF ++ ticks n

-- An arrival and a press that begin together: the press is accepted over nothing.
abbrev pushed : ℕ → List ℕ
pushed n = N ++ w 0x14 0x0C ++ pins 0x9F ++ ticks n

abbrev together : List Example
together =
    gives (pulled 4) (reads 0x10 0x25)
    ∷ gives (pulled 5) (reads 0x10 0x3D)
    ∷ gives (pulled 9) (reads 0x10 0x3D)
    ∷ gives (pulled 10) (reads 0x10 0x0C)
    ∷ gives (pushed 5) (reads 0x10 0x00)
    ∷ gives (pushed 9) (reads 0x10 0x00)
    ∷ gives (pushed 10) (reads 0x10 0x15)
    ∷ []

-- ---- cartridges that seat slowly (document 02, request 6)

-- 42h has eight bits; RESET starts it at 0, and closing bay 1 leaves it.
abbrev wait_time_lem : List Example
wait_time_lem =
    gives (N ++ w 0x42 0xFF) (reads 0x42 0xFF)
    ∷ gives (N ++ w 0x42 0x05 ++ N) (reads 0x42 0x00)
    ∷ gives (N ++ w 0x42 0x05 ++ w 0x0C 0x01) (reads 0x42 0x05)
    ∷ gives (N ++ w 0x42 0x05 ++ w 0x40 0x02) (reads 0x42 0x05)
    ∷ []

-- With a wait of t a device that arrives, in the tenth tick, is Inserted in the t-th tick after. Until then the bay is Empty and dark,
-- BSTR shows the device, and the interrupt has come. What clears DEVSTSCHG meanwhile has cleared it for good.
abbrev seats : ℕ → ℕ → List ℕ
seats t n = N ++ w 0x42 t ++ w 0x14 0x0C ++ pins 0xBF ++ ticks n

-- The same, of a device that is there when DEVSTSCHG_EN rises, and in bay 1.
abbrev found : ℕ → ℕ → List ℕ
found t n = R ++ w 0x42 t ++ w 0x14 0x04 ++ ticks n

abbrev seats_1 : ℕ → ℕ → List ℕ
seats_1 t n = N ++ w 0x42 t ++ w 0x1C 0x0C ++ pins 0xFB ++ ticks n

abbrev waits : List Example
waits =
    gives (seats 0 10) (reads 0x10 0x15)
    ∷ gives (seats 1 10) (reads 0x10 0x05)
    ∷ gives (seats 1 11) (reads 0x10 0x15)
    ∷ gives (seats 3 10) (drives 0x001)
    ∷ gives (seats 3 12) (reads 0x10 0x05)
    ∷ gives (seats 3 12) (drives 0x001)
    ∷ gives (seats 3 13) (reads 0x10 0x15)
    ∷ gives (seats 3 13) (drives 0x041)
    ∷ gives (seats 255 264) (reads 0x10 0x05)
    ∷ gives (seats 255 265) (reads 0x10 0x15)
    ∷ gives (seats 3 10 ++ w 0x10 0x04 ++ ticks 3) (reads 0x10 0x11)
    ∷ gives (found 0 0) (reads 0x10 0x15)
    ∷ gives (found 2 1) (reads 0x10 0x05)
    ∷ gives (found 2 2) (reads 0x10 0x15)
    ∷ gives (seats_1 3 12) (reads 0x18 0x05)
    ∷ gives (seats_1 3 13) (reads 0x18 0x15)
    ∷ []

-- It goes on through another value of 42h, a write of BSTR, DEVSTSCHG_EN written 1 over 1, REMREQ_EN, a request that is none, and a change of
-- one of two presence bits.
abbrev goes_on : List Example
goes_on =
    gives (seats 3 10 ++ w 0x42 0x09 ++ ticks 3) (reads 0x10 0x15)
    ∷ gives (seats 3 10 ++ w 0x42 0x00 ++ ticks 2) (reads 0x10 0x05)
    ∷ gives (seats 3 10 ++ w 0x42 0x00 ++ ticks 3) (reads 0x10 0x15)
    ∷ gives (seats 3 11 ++ w 0x14 0x0C ++ ticks 1) (reads 0x10 0x05)
    ∷ gives (seats 3 11 ++ w 0x14 0x0C ++ ticks 2) (reads 0x10 0x15)
    ∷ gives (seats 3 11 ++ w 0x14 0x04 ++ ticks 2) (reads 0x10 0x15)
    ∷ gives (seats 3 11 ++ w 0x14 0x5C ++ ticks 2) (reads 0x10 0x15)
    ∷ gives (seats 12 10 ++ pins 0x3F ++ ticks 11) (reads 0x10 0x07)
    ∷ gives (seats 12 10 ++ pins 0x3F ++ ticks 12) (reads 0x10 0x17)
    ∷ gives (seats 22 10 ++ pins 0x3F ++ ticks 10 ++ pins 0x7F ++ ticks 12) (reads 0x10 0x16)
    ∷ []

-- It is broken off by a removal, in its last tick too, by DEVSTSCHG_EN written 0, by a request, by closing the bay and by RESET.
abbrev breaks_off : List Example
breaks_off =
    gives (seats 11 10 ++ pins 0xFF ++ ticks 11) (reads 0x10 0x04)
    ∷ gives (seats 10 10 ++ pins 0xFF ++ ticks 10) (reads 0x10 0x04)
    ∷ gives (seats 9 10 ++ pins 0xFF ++ ticks 9) (reads 0x10 0x15)
    ∷ gives (seats 3 11 ++ w 0x14 0x08 ++ ticks 2) (reads 0x10 0x05)
    ∷ gives (seats 3 11 ++ w 0x14 0x08 ++ w 0x14 0x04 ++ ticks 2) (reads 0x10 0x05)
    ∷ gives (seats 3 11 ++ w 0x14 0x08 ++ w 0x14 0x04 ++ ticks 3) (reads 0x10 0x15)
    ∷ gives (seats 3 11 ++ w 0x14 0x2C) (reads 0x10 0x25)
    ∷ gives (seats 3 11 ++ w 0x14 0x2C ++ ticks 2) (reads 0x10 0x25)
    ∷ gives (R ++ w 0x42 0x02 ++ w 0x14 0x24 ++ ticks 2) (reads 0x10 0x25)
    ∷ gives (seats_1 3 11 ++ w 0x0C 0x01 ++ ticks 2) (reads 0x18 0x00)
    ∷ gives (seats 3 11 ++ R ++ ticks 2) (reads 0x10 0x05)
    ∷ []

-- A press in its last tick sets REMREQ_STS and moves nothing; so does one before, and a tick later it moves the bay. The wait's last tick
-- may fall between the data byte and the STOP of a write: then the bay is Inserted before the write acts.
abbrev wait_and_press : List Example
wait_and_press =
    gives (seats 6 10 ++ pins 0x9F ++ ticks 5) (reads 0x10 0x0D)
    ∷ gives (seats 6 10 ++ pins 0x9F ++ ticks 6) (reads 0x10 0x1D)
    ∷ gives (seats 5 10 ++ pins 0x9F ++ ticks 5) (reads 0x10 0x1D)
    ∷ gives (seats 4 10 ++ pins 0x9F ++ ticks 5) (reads 0x10 0x3D)
    ∷ gives (seats 3 12 ++ 0x0000 ∷ 0x4090 ∷ 0x4014 ∷ 0x4008 ∷ (ticks 1 ++ 0x2000 ∷ [])) (reads 0x10 0x15)
    ∷ gives (seats 3 12 ++ 0x0000 ∷ 0x4090 ∷ 0x4014 ∷ 0x4008 ∷ 0x2000 ∷ ticks 1) (reads 0x10 0x05)
    ∷ []

-- ---- outputs

-- Power, lock pin, green and the interrupt of bay 0; its yellow lamp; the same of bay 1.
abbrev lamps : List Example
lamps =
    gives (R ++ w 0x14 0xA5) (drives 0x1C1)
    ∷ gives (R ++ w 0x14 0xA5 ++ w 0x10 0x04) (drives 0x1C0)
    ∷ gives requested (drives 0x021)
    ∷ gives (requested ++ w 0x10 0x08) (drives 0x021)
    ∷ gives (requested ++ w 0x10 0x0C) (drives 0x020)
    ∷ gives (requested ++ w 0x14 0x00) (drives 0x020)
    ∷ gives (RESET 0x0FB ++ w 0x1C 0xB0) (drives 0x00A)
    ∷ gives (R ++ w 0x14 0x40) (drives 0x000)
    ∷ []

-- Inserted flashes: lit through 99 ticks, dark through 199, and lit again. Enabled doesn't.
abbrev flashing : List Example
flashing =
    gives (R ++ w 0x14 0x10 ++ ticks 99) (drives 0x040)
    ∷ gives (R ++ w 0x14 0x10 ++ ticks 100) (drives 0x000)
    ∷ gives (R ++ w 0x14 0x10 ++ ticks 199) (drives 0x000)
    ∷ gives (R ++ w 0x14 0x10 ++ ticks 200) (drives 0x040)
    ∷ gives (R ++ w 0x14 0x20 ++ ticks 100) (drives 0x040)
    ∷ gives (R ++ w 0x14 0x30 ++ ticks 100) (drives 0x000)
    ∷ []

-- In LOCK_MODE 1 the lock pin is low for LETR's ticks after LOCK_CTL goes from 1 to 0, and for as many again after another; LETR written
-- meanwhile changes nothing. In LOCK_MODE 0 it is LOCK_CTL.
abbrev unlocked : ℕ → ℕ → List ℕ
unlocked time n = RESET 0x1FF ++ w 0x40 time ++ w 0x14 0x80 ++ w 0x14 0x00 ++ ticks n

abbrev again : ℕ → List ℕ
again n = unlocked 0 6 ++ w 0x14 0x80 ++ w 0x14 0x00 ++ ticks n

-- With no write of LETR: 50 ticks, or 12 if the RESET asks for the short pulse.
abbrev unlocked_by : List ℕ → ℕ → List ℕ
unlocked_by reset n = reset ++ w 0x14 0x80 ++ w 0x14 0x00 ++ ticks n

abbrev locks : List Example
locks =
    gives (unlocked_by (RESET 0x1FF) 0) (lock_pin_0 false)
    ∷ gives (unlocked_by (RESET 0x1FF) 49) (lock_pin_0 false)
    ∷ gives (unlocked_by (RESET 0x1FF) 50) (lock_pin_0 true)
    ∷ gives (unlocked_by (SHORT 0x1FF) 11) (lock_pin_0 false)
    ∷ gives (unlocked_by (SHORT 0x1FF) 12) (lock_pin_0 true)
    ∷ gives (unlocked 1 49) (lock_pin_0 false)
    ∷ gives (unlocked 1 50) (lock_pin_0 true)
    ∷ gives (unlocked 2 99) (lock_pin_0 false)
    ∷ gives (unlocked 2 100) (lock_pin_0 true)
    ∷ gives (unlocked 3 199) (lock_pin_0 false)
    ∷ gives (unlocked 3 200) (lock_pin_0 true)
    ∷ gives (again 11) (lock_pin_0 false)
    ∷ gives (again 12) (lock_pin_0 true)
    ∷ gives (unlocked 0 6 ++ w 0x40 0x03 ++ ticks 6) (lock_pin_0 true)
    ∷ gives (unlocked 0 6 ++ w 0x14 0x00 ++ ticks 6) (lock_pin_0 true)
    ∷ gives (RESET 0x0FF ++ w 0x14 0x80) (lock_pin_0 true)
    ∷ gives (RESET 0x0FF ++ w 0x14 0x80 ++ w 0x14 0x00 ++ ticks 12) (lock_pin_0 false)
    ∷ []

-- ---- answers

-- Refusal 2 tells the outputs as they are. A BYTE, a TAKE and a tick as they are answered; two data bytes: no ACK and no write; straps
-- 1100: 96h is ACKed, 90h is not.
abbrev answered : List Example
answered =
    gives (R ++ w 0x14 0x04) (answers 0xA001 2 0 0x00 0x041)
    ∷ gives (R ++ w 0x14 0x04) (answers 0xA000 0 0 0x00 0x041)
    ∷ gives (R ++ w 0x14 0x04) (answers 0x6001 0 4 0xFF 0x041)
    ∷ gives (N ++ 0x0000 ∷ 0x4090 ∷ 0x4014 ∷ 0x4004 ∷ []) (answers 0x4005 0 2 0x00 0x000)
    ∷ gives (R ++ 0x0000 ∷ 0x4090 ∷ 0x4014 ∷ 0x4004 ∷ 0x4005 ∷ 0x2000 ∷ []) (reads 0x14 0x00)
    ∷ gives (RESET 0xCFF ++ 0x0000 ∷ []) (answers 0x4096 0 1 0x00 0x000)
    ∷ gives (RESET 0xCFF ++ 0x0000 ∷ []) (answers 0x4090 0 2 0x00 0x000)
    ∷ []

-- ---- pins and ticks inside a command

-- A read of BSTR whose device leaves after the own read byte: the TAKE still gives 05, though the register then reads 04.
abbrev left : List ℕ
left = R ++ 0x0000 ∷ 0x4090 ∷ 0x4010 ∷ 0x0000 ∷ 0x4091 ∷ (pins 0xFF ++ ticks 10)

-- A write of BCER with the button pressed, and the press accepted, between its data byte and its STOP.
abbrev pressed : List ℕ
pressed = R ++ w 0x14 0xAD ++ 0x0000 ∷ 0x4090 ∷ 0x4014 ∷ 0x408D ∷ (pins 0x9F ++ ticks 5 ++ 0x2000 ∷ [])

abbrev inside : List Example
inside =
    gives left (answers 0x6000 0 3 0x05 0x000)
    ∷ gives left (reads 0x10 0x04)
    ∷ gives pressed (reads 0x10 0x3D)
    ∷ gives pressed (drives 0x1A1)
    ∷ []

unfoldable pub ours : List Example
ours =
    unstarted ++ identity ++ bstr ++ bcer ++ letr ++ short ++ dbccr ++ moves ++ over_nothing ++ with_arrival ++ quick ++ together ++ wait_time_lem ++ waits ++ goes_on ++ breaks_off ++ wait_and_press ++ lamps ++ flashing ++ locks ++ answered ++ inside

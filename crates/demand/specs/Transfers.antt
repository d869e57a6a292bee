-- Transfers of the second kind (document 03, "Bus transfers" and the end of "State"), of open length, described by the bus events since the START
-- that opened the transfer.
use Rattle.std.specs.Prelude.{ℕ, zero, suc, ◌+◌, ◌%◌, Bool, true, false, not, cond, ◌&&◌, ◌||◌, List, [], ◌∷◌, ◌++◌, length, drop}
use Rattle.bus.specs.Progress.{own_write_byte, own_read_byte}
use Rattle.machine.specs.declared.Act.{Act}
use Rattle.machine.specs.declared.Act.TheVariants.{Write, Read}
use Rattle.demand.specs.Bus.{Bus, START, STOP, BYTE, TAKE, Slot, start, stop, byte_is, any_byte, take_acked, take_nacked, bytes_in}
use Rattle.demand.specs.Commands.{register}

-- ---- the two forms, for the controller with these straps

-- What opens it, what may then come any number of times (none too), and what closes it.
pub record Transfer : Type 0 where
  pub opening : List Slot
  pub repeated : Slot
  pub closing : Slot

-- Write: START, own write byte, register byte, any number of data bytes (none too), STOP.
abbrev pub writing : ℕ → Transfer
writing straps = record { opening = start ∷ byte_is (own_write_byte straps) ∷ any_byte ∷ []; repeated = any_byte; closing = stop }

-- Read: START, own write byte, register byte, START, own read byte, any number of ACKed TAKEs, one NACKed TAKE.
abbrev pub sending : ℕ → Transfer
sending straps =
    record {
      opening = start ∷ byte_is (own_write_byte straps) ∷ any_byte ∷ start ∷ byte_is (own_read_byte straps) ∷ [];
      repeated = take_acked;
      closing = take_nacked;
    }

-- ---- bus events against a form

abbrev pub none : {A : Type 0} → List A → Bool
none [] = true
none (e ∷ es) = false

-- After the opening: each is the repeated one, or the last is the closing one.
abbrev pub on : Slot → Slot → List Bus → Bool
on again last [] = true
on again last (e ∷ es) = again e && on again last es || last e && none es

-- .. the last is the closing one.
abbrev pub over : Slot → Slot → List Bus → Bool
over again last [] = false
over again last (e ∷ es) = again e && over again last es || last e && none es

-- .. each is the repeated one.
abbrev pub within : Slot → List Bus → Bool
within again [] = true
within again (e ∷ es) = again e && within again es

-- From the START on: they begin the form ..
abbrev pub goes_by : Transfer → List Slot → List Bus → Bool
goes_by t [] es = on t.repeated t.closing es
goes_by t (slot ∷ slots) [] = true
goes_by t (slot ∷ slots) (e ∷ es) = slot e && goes_by t slots es

-- .. are all of it ..
abbrev pub ends_by : Transfer → List Slot → List Bus → Bool
ends_by t [] es = over t.repeated t.closing es
ends_by t (slot ∷ slots) [] = false
ends_by t (slot ∷ slots) (e ∷ es) = slot e && ends_by t slots es

-- .. or have come past its opening and not to its end.
abbrev pub open_by : Transfer → List Slot → List Bus → Bool
open_by t [] es = within t.repeated es
open_by t (slot ∷ slots) [] = false
open_by t (slot ∷ slots) (e ∷ es) = slot e && open_by t slots es

unfoldable pub second_goes_on : ℕ → List Bus → Bool
second_goes_on straps es = goes_by (writing straps) (writing straps).opening es || goes_by (sending straps) (sending straps).opening es

unfoldable pub second_completes : ℕ → List Bus → Bool
second_completes straps es = ends_by (writing straps) (writing straps).opening es || ends_by (sending straps) (sending straps).opening es

-- ---- the acts

-- The number is the register byte, and one more for each byte before; FFh rises to 00h.
abbrev pub number_after : ℕ → ℕ → ℕ
number_after zero r = r
number_after (suc n) r = (number_after n r + 1) % 256

-- The data bytes come after the own write byte and the register byte.
abbrev pub data_in : List Bus → List ℕ
data_in es = drop 2 (bytes_in es)

-- The last of some, and how many come before it.
abbrev pub last_of : List ℕ → ℕ
last_of [] = 0
last_of (b ∷ bs) = cond (none bs) b (last_of bs)

abbrev pub before : List ℕ → ℕ
before [] = 0
before (b ∷ bs) = length bs

abbrev pub takes_in : List Bus → ℕ
takes_in [] = 0
takes_in (START ∷ es) = takes_in es
takes_in (STOP ∷ es) = takes_in es
takes_in (BYTE b ∷ es) = takes_in es
takes_in (TAKE ack ∷ es) = suc (takes_in es)

-- Each data byte is a write of one byte at the number; the own read byte, and each ACKed TAKE for the byte after it, a read of one byte.
unfoldable pub second_decides : ℕ → List Bus → List Act
second_decides straps es =
    cond (open_by (writing straps) (writing straps).opening es && not (none (data_in es)))
    (Write (number_after (before (data_in es)) (register (bytes_in es))) (last_of (data_in es)) ∷ [])
    []
    ++ cond (open_by (sending straps) (sending straps).opening es) (Read (number_after (takes_in es) (register (bytes_in es))) ∷ []) []

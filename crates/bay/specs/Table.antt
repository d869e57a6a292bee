-- The bay moves as two tables, for a TICK and for a write of BCER: for each state from and each state to, exactly when a bay goes from
-- the one to the other (document 01, "Bay moves"). What a TICK brings is told by the accepted levels before and after it, and what
-- a write brings by the bits of the byte.
use Rattle.std.specs.Prelude.{ℕ, ◌/◌, ◌%◌, Bool, false, not, ◌&&◌, ◌||◌, List, [], ◌∷◌, eqb, get_or}
use Rattle.bits.specs.Bits.{bit}
use Rattle.bay.specs.Record.{NREMREQ, accepted_level, present}
use Rattle.bay.specs.Moves.{ticked_bay}
use Rattle.bay.specs.declared.Bay.{Bay}
use Rattle.bay.specs.declared.Setting.{Setting}

-- A row for each state from, with a test for each state to: Empty, Inserted, Enabled, Removal Requested, Removal Allowed.
abbrev pub Table : Type 0
Table = List (List Bool)

abbrev pub entry : Table → ℕ → ℕ → Bool
entry rows from to = get_or (get_or rows from []) to false

abbrev never : Bool
never = false

-- ---- a TICK

-- The device leaves.
abbrev pub gone : Bool → Setting → Bay → Bool
gone hides s b = present hides b && not (present hides (ticked_bay hides s b))

-- A device arrives with DEVSTSCHG_EN set: the bay takes notice of it ..
abbrev pub noticed : Bool → Setting → Bay → Bool
noticed hides s b = not (present hides b) && present hides (ticked_bay hides s b) && b.control.devstschg_en

-- .. at once, where it was hidden before or needn't wait.
abbrev pub come : Bool → Setting → Bay → Bool
come hides s b = noticed hides s b && (hides || eqb s.wait_ticks 0)

-- A wait that hides nothing falls to 0, and the device neither leaves nor comes in this TICK.
abbrev pub seated : Bool → Setting → Bay → Bool
seated hides s b = not (gone hides s b) && not (noticed hides s b) && (not hides && eqb b.wait 1)

-- The button is pressed over a device: nREMREQ as accepted goes from 1 to 0, and a device is present afterwards.
abbrev pub press_over : Bool → Bay → Bay → Bool
press_over hides before after = accepted_level before NREMREQ && not (accepted_level after NREMREQ) && present hides after

-- None of these, and a press over a device with REMREQ_EN set and REMREQ_STS clear.
abbrev pub press : Bool → Setting → Bay → Bool
press hides s b =
    not (gone hides s b) && not (come hides s b) && not (seated hides s b) && press_over hides b (ticked_bay hides s b)
    && b.control.remreq_en && not b.remreq_sts

-- Nor that.
abbrev pub calm : Bool → Setting → Bay → Bool
calm hides s b = not (gone hides s b) && not (come hides s b) && not (seated hides s b) && not (press hides s b)

-- G gone, C come or seated, P press, N none of these.
abbrev pub tick_rows : Bool → Bool → Bool → Bool → Table
tick_rows G C P N =
    ((G || P || N) ∷ C ∷ never ∷ never ∷ never ∷ [])
    ∷ (G ∷ (C || N) ∷ never ∷ P ∷ never ∷ [])
    ∷ (G ∷ C ∷ N ∷ P ∷ never ∷ [])
    ∷ (G ∷ C ∷ never ∷ (P || N) ∷ never ∷ [])
    ∷ (G ∷ C ∷ never ∷ never ∷ (P || N) ∷ [])
    ∷ []

unfoldable pub tick_table : Bool → Setting → Bay → Table
tick_table hides s b = tick_rows (gone hides s b) (come hides s b || seated hides s b) (press hides s b) (calm hides s b)

-- ---- a write of BCER

-- It asks for that state, with a device present: bits 6-4.
abbrev pub asks_for : Bool → ℕ → Bay → ℕ → Bool
asks_for hides v b state = present hides b && eqb (v / 16 % 8) state

-- It asks for none of 1 to 4, or there is no device.
abbrev pub asks_nothing : Bool → ℕ → Bay → Bool
asks_nothing hides v b = not (asks_for hides v b 1) && not (asks_for hides v b 2) && not (asks_for hides v b 3) && not (asks_for hides v b 4)

-- It asks for nothing and brings DEVSTSCHG_EN, bit 2, from 0 to 1 with a device present, which was hidden before or needn't wait.
abbrev pub finds : Bool → ℕ → Setting → Bay → Bool
finds hides v s b =
    asks_nothing hides v b && bit 2 v && not b.control.devstschg_en && present hides b && (hides || eqb s.wait_ticks 0)

-- It asks for nothing and brings REMREQ_EN, bit 3, from 0 to 1 with REMREQ_STS set.
abbrev pub recalls : Bool → ℕ → Bay → Bool
recalls hides v b = asks_nothing hides v b && bit 3 v && not b.control.remreq_en && b.remreq_sts

-- A asks for a state, N asks for nothing, F finds a device, R recalls a press.
abbrev pub write_rows : (ℕ → Bool) → Bool → Bool → Bool → Table
write_rows A N F R =
    ((N && not F) ∷ (A 1 || F) ∷ A 2 ∷ A 3 ∷ A 4 ∷ [])
    ∷ (never ∷ (A 1 || N && not R) ∷ A 2 ∷ (A 3 || R) ∷ A 4 ∷ [])
    ∷ (never ∷ A 1 ∷ (A 2 || N && not R) ∷ (A 3 || R) ∷ A 4 ∷ [])
    ∷ (never ∷ A 1 ∷ A 2 ∷ (A 3 || N) ∷ A 4 ∷ [])
    ∷ (never ∷ A 1 ∷ A 2 ∷ A 3 ∷ (A 4 || N) ∷ [])
    ∷ []

unfoldable pub write_table : Bool → ℕ → Setting → Bay → Table
write_table hides v s b = write_rows (asks_for hides v b) (asks_nothing hides v b) (finds hides v s b) (recalls hides v b)

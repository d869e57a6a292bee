-- Which refusal is given exactly when (document 02, request 9): the paper's list in its own order, as statements over the places of the records.
use Rattle.std.specs.Prelude.{ℕ, ◌≤◌, ◌<◌, ◌≡◌, ◌↔◌, ◌≢◌, ◌⊎◌, Bool, true, false, List, length, get_or}
use Rattle.event.specs.Words.{unpacked, StrayBitSet}
use Rattle.event.specs.declared.Event.TheVariants.{Pins, Reset}
use Rattle.bus.specs.Progress.{own_write_byte}
use Rattle.dock.specs.declared.Controller.{Controller}
use Rattle.dock.specs.declared.Standing.{Standing}
use Rattle.chassis.specs.Judge.{standings, nobody}
use Rattle.std.specs.Prelude.{Ok}

-- How the record at a place stands on the bus, by what the core tells of it: fit, started, its own address, and whether a read of it is open.
abbrev pub standing_at : List Controller → ℕ → Standing
standing_at cs i = get_or (standings cs) i nobody

-- The word is a PINS, or a RESET with these straps.
abbrev pub IsPins : ℕ → Type 0
IsPins w = (levels : ℕ) × (unpacked w ≡ Ok (Pins levels))

abbrev pub ResetsTo : ℕ → ℕ → Type 0
ResetsTo straps w = (levels : ℕ) × (short : Bool) × (unpacked w ≡ Ok (Reset straps levels short))

abbrev pub IsReset : ℕ → Type 0
IsReset w = (straps : ℕ) × ResetsTo straps w

-- Two that are started, with one own address or both with a read open.
pub record Clash (a b : Standing) : Type 0 where
  pub first : a.started ≡ true
  pub second : b.started ≡ true
  pub shared : (a.address ≡ b.address) ⊎ ((a.reading ≡ true) × (b.reading ≡ true))

-- 9: list length not 1 to 4.
abbrev pub Nine : List Controller → Type 0
Nine cs = (length cs ≡ 0) ⊎ (4 < length cs)

-- 1: any record unfit, or two started ones with one address or both with a read open.
abbrev pub One : List Controller → Type 0
One cs =
    ((i : ℕ) × (i < length cs) × ((standing_at cs i).fit ≡ false))
    ⊎ ((i : ℕ) × (j : ℕ) × (i < length cs) × (j < length cs) × (i ≢ j) × Clash (standing_at cs i) (standing_at cs j))

-- 2: a bit that must be 0 is set.
abbrev pub Two : ℕ → Type 0
Two w = StrayBitSet w

-- 10: PINS or RESET naming an absent record.
abbrev pub Ten : List Controller → ℕ → ℕ → Type 0
Ten cs n w = (IsPins w ⊎ IsReset w) × (length cs ≤ n)

-- 3: PINS for a record not started (for the rest but RESET, none started).
abbrev pub NoneStarted : List Controller → Type 0
NoneStarted cs = (i : ℕ) → i < length cs → (standing_at cs i).started ≡ false

abbrev pub Three : List Controller → ℕ → ℕ → Type 0
Three cs n w = (IsPins w × ((standing_at cs n).started ≡ false)) ⊎ ((IsPins w → ⊥) × (IsReset w → ⊥) × NoneStarted cs)

-- 11: the RESET would give a started neighbour's own address.
abbrev pub Eleven : List Controller → ℕ → ℕ → Type 0
Eleven cs n w =
    (straps : ℕ) × ResetsTo straps w
    × (i : ℕ) × (i < length cs) × (i ≢ n) × ((standing_at cs i).started ≡ true) × ((standing_at cs i).address ≡ own_write_byte straps)

-- The refusal number r of a word w that stands beside the number n, for a list: each condition, and none of those before it.
pub record Exactly (cs : List Controller) (n w r : ℕ) : Type 0 where
  pub nine : (r ≡ 9) ↔ Nine cs
  pub one : (r ≡ 1) ↔ ((Nine cs → ⊥) × One cs)
  pub two : (r ≡ 2) ↔ ((Nine cs → ⊥) × (One cs → ⊥) × Two w)
  pub ten : (r ≡ 10) ↔ ((Nine cs → ⊥) × (One cs → ⊥) × (Two w → ⊥) × Ten cs n w)
  pub three : (r ≡ 3) ↔ ((Nine cs → ⊥) × (One cs → ⊥) × (Two w → ⊥) × (Ten cs n w → ⊥) × Three cs n w)
  pub eleven : (r ≡ 11) ↔ ((Nine cs → ⊥) × (One cs → ⊥) × (Two w → ⊥) × (Ten cs n w → ⊥) × (Three cs n w → ⊥) × Eleven cs n w)
  -- 0: none of them.
  pub none : (r ≡ 0) ↔ ((Nine cs → ⊥) × (One cs → ⊥) × (Two w → ⊥) × (Ten cs n w → ⊥) × (Three cs n w → ⊥) × (Eleven cs n w → ⊥))

-- The machine's record: fresh, fit, and its parts by name (document 01, "Replies and refusal numbers" and "Registers"; document 03, "State").
use Rattle.std.specs.Prelude.{ℕ, Bool, false, not, cond, ◌&&◌, ◌||◌, List, [], ◌∷◌, eqb, ltb, leb, get_or}
use Rattle.bits.specs.Straps.{MOST_STRAPS}
use Rattle.bay.specs.Record.{no_bay, empty_bay, bay_fit}
use Rattle.bay.specs.declared.Bay.{Bay}
use Rattle.kind.specs.declared.Kind.{Kind}
use Rattle.kind.specs.declared.Kind.TheVariants.{First, Second}
use Rattle.second.specs.Record.{fresh, fits as second_fits}
use Rattle.machine.specs.declared.Machine.{Machine}
use Rattle.machine.specs.declared.Shared.{Shared}

-- ---- the paper's numbers

-- The phase is 0-199.
abbrev pub PHASES : ℕ
PHASES = 200

-- The bay count that closes bay 1, and the largest.
abbrev pub ONE_BAY : ℕ
ONE_BAY = 1

abbrev pub MOST_BAYS : ℕ
MOST_BAYS = 3

abbrev pub MOST_LOCK_TIME : ℕ
MOST_LOCK_TIME = 3

-- With the first kind in force pulses are fit 0-200 and waits 0-255; with the second, pulses 0-1200 and waits 0-560.
abbrev pub most_pulse : Kind → ℕ
most_pulse First = 200
most_pulse Second = 1200

abbrev pub most_wait : Kind → ℕ
most_wait First = 255
most_wait Second = 560

-- ---- bays by number

-- Bay 0, or else bay 1.
abbrev pub bay0 : List Bay → Bay
bay0 bs = get_or bs 0 no_bay

abbrev pub bay1 : List Bay → Bay
bay1 bs = get_or bs 1 no_bay

unfoldable pub bay_in : List Bay → ℕ → Bay
bay_in bs i = cond (eqb i 0) (bay0 bs) (bay1 bs)

abbrev pub bay_at : Machine → ℕ → Bay
bay_at m i = bay_in m.bays i

-- The bays with this one as bay 0, or else as bay 1.
unfoldable pub placed : ℕ → Bay → List Bay → List Bay
placed i b bs = cond (eqb i 0) (b ∷ bay1 bs ∷ []) (bay0 bs ∷ b ∷ [])

-- While the stored count is 1, bay 1 is closed. Counts 0, 2, 3 close nothing.
unfoldable pub open_by : ℕ → ℕ → Bool
open_by count i = eqb i 0 || not (eqb count ONE_BAY)

abbrev pub is_open : Machine → ℕ → Bool
is_open m i = open_by m.shared.bay_count i

-- ---- what acts change

-- The same machine with these registers, this phase and these bays.
abbrev pub become : Shared → ℕ → List Bay → Machine → Machine
become shared phase bays m =
    record {
      started = m.started;
      straps = m.straps;
      kind = m.kind;
      named = m.named;
      shared = shared;
      second = m.second;
      phase = phase;
      bays = bays;
    }

-- .. with these bays.
abbrev pub with_bays : List Bay → Machine → Machine
with_bays bays m = become m.shared m.phase bays m

abbrev pub with_bay : ℕ → Bay → Machine → Machine
with_bay i b m = with_bays (placed i b m.bays) m

-- ---- fresh and fit

-- DBCCR with this bay count and unwritten, LETR as given, and 42h 0.
abbrev pub unwritten : ℕ → ℕ → Shared
unwritten count letr = record { dbccr_written = false; seclock = false; bay_count = count; lock_time = letr; wait_time = 0 }

-- A fresh state is not started; the kind in force and the named kind are the first.
unfoldable pub fresh_machine : Machine
fresh_machine =
    record {
      started = false;
      straps = 0;
      kind = First;
      named = First;
      shared = unwritten 0 0;
      second = fresh;
      phase = 0;
      bays = empty_bay ∷ empty_bay ∷ [];
    }

-- A state is fit when phase is 0-199, straps 0-15, lock time 0-3, bay count 0-3, the second kind's own registers are fit, and each bay
-- is; any other field may hold any value of its kind.
abbrev pub shared_fit : Shared → Bool
shared_fit r = leb r.lock_time MOST_LOCK_TIME && leb r.bay_count MOST_BAYS

-- A bay is so by the kind in force.
abbrev pub fit_in : Kind → Bay → Bool
fit_in k b = bay_fit (most_pulse k) (most_wait k) b

unfoldable pub fits : Machine → Bool
fits m =
    ltb m.phase PHASES && leb m.straps MOST_STRAPS && shared_fit m.shared && second_fits m.second && fit_in m.kind (bay_at m 0)
    && fit_in m.kind (bay_at m 1)

-- The registers that both kinds have (document 01, "Registers"; document 03, "Registers"): DBCCR, and a bay's BSTR and BCER, as they read and
-- what a write does. Where they are is each kind's own.
use Rattle.std.specs.Prelude.{ℕ, ◌+◌, ◌%◌, true, cond, List, [], ◌∷◌, eqb, ltb}
use Rattle.bits.specs.Bits.{bit, put}
use Rattle.bay.specs.Record.{empty_bay}
use Rattle.bay.specs.Registers.{bstr_of, bcer_of, bstr_written, control_of, controlled_bay}
use Rattle.kind.specs.declared.Kind.{Kind}
use Rattle.kind.specs.declared.Kind.TheVariants.{First, Second}
use Rattle.machine.specs.Record.{ONE_BAY, bay_at, is_open, become, with_bay}
use Rattle.machine.specs.Setting.{hides, secured, setting_of}
use Rattle.machine.specs.declared.Machine.{Machine}
use Rattle.machine.specs.declared.Shared.{Shared}

-- A table by address, and what an address has that isn't in it.
pub record Row (A : Type 0) : Type 0 where
  pub address : ℕ
  pub holds : A

abbrev pub at : {A : Type 0} → ℕ → A → Row A
at a x = record { address = a; holds = x }

abbrev pub find : {A : Type 0} → ℕ → List (Row A) → A → A
find a [] other = other
find a (r ∷ rs) other = cond (eqb a r.address) r.holds (find a rs other)

-- ---- DBCCR

-- Bit 4 SECLOCK, bits 1-0 bay count, others read 0.
unfoldable pub dbccr_of : Shared → ℕ
dbccr_of r = r.bay_count % 4 + put 4 r.seclock

-- The bay count that a written byte stores: bits 1-0. In the second kind bits 3-0, and one above 2 is stored as 2 (l.461).
unfoldable pub count_written : Kind → ℕ → ℕ
count_written First v = v % 4
count_written Second v = cond (ltb 2 (v % 16)) 2 (v % 16)

-- It stores SECLOCK and the bay count. Count 1 closes bay 1: the write makes its record empty.
abbrev pub dbccr_to : Kind → ℕ → Shared → Shared
dbccr_to k v r =
    record { dbccr_written = true; seclock = bit 4 v; bay_count = count_written k v; lock_time = r.lock_time; wait_time = r.wait_time }

unfoldable pub dbccr_stored : ℕ → Machine → Machine
dbccr_stored v m =
    become (dbccr_to m.kind v m.shared) m.phase (bay_at m 0 ∷ cond (eqb (count_written m.kind v) ONE_BAY) empty_bay (bay_at m 1) ∷ []) m

-- Only the first write after a RESET counts, even if it writes 0.
unfoldable pub dbccr_write : ℕ → Machine → Machine
dbccr_write v m = cond m.shared.dbccr_written m (dbccr_stored v m)

-- ---- BSTR and BCER of a bay

-- Of a closed one they read 0 ..
unfoldable pub bstr_at : Machine → ℕ → ℕ
bstr_at m i = cond (is_open m i) (bstr_of (hides m) (secured m) (bay_at m i)) 0

unfoldable pub bcer_at : Machine → ℕ → ℕ
bcer_at m i = cond (is_open m i) (bcer_of (bay_at m i)) 0

-- .. and take no write.
unfoldable pub bstr_write : ℕ → ℕ → Machine → Machine
bstr_write i v m = cond (is_open m i) (with_bay i (bstr_written v (bay_at m i)) m) m

unfoldable pub bcer_write : ℕ → ℕ → Machine → Machine
bcer_write i v m = cond (is_open m i) (with_bay i (controlled_bay (hides m) (control_of v) (setting_of m) (bay_at m i)) m) m

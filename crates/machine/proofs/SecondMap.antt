-- The second kind's register map, address by address (document 03, "Registers"): what reads where, what takes a write and what reads back; what
-- the first write of SFR does; what a RESET into the second kind leaves, and what a name changes. Assumes nothing.
use Prim.Native.Nat.{ℕ, ◌%◌}
use mathlib.Core.Path.{◌≡◌, refl, ap, ◌∙◌}
use Rattle.kind.specs.declared.Kind.TheVariants.{Second}
use Rattle.second.specs.Record.{byte, reset}
use mathlib.Core.Bool.{Bool, ◌||◌, cond, false, not, true}
use Rattle.kind.specs.declared.Kind.{Kind}
use Rattle.machine.specs.declared.Machine.{Machine}
use Rattle.machine.specs.declared.Act.TheVariants.{Name}
use mathlib.Core.List.{[], ◌∷◌}
use Rattle.machine.proofs.Map.{among, find_none}
use Rattle.machine.specs.Record.{bay0, bay1, bay_at, bay_in, is_open, open_by}
use Rattle.machine.specs.Registers.{bcer_at, bcer_write, bstr_at, bstr_write, dbccr_of, dbccr_write}
use Rattle.bay.specs.Registers.{bcer_of, bstr_of, unlocked_bay}
use Rattle.machine.proofs.Choice.{chosen, passed}
use Rattle.machine.specs.Acts.{count_after_reset, does, keeps, letr_after_reset, name_to, reset_as, reset_to}
use lib.Dec.{eqb}
use Rattle.machine.specs.FirstKind.{first_register, first_registers}
use Rattle.machine.specs.SecondKind.{form_factor_at, form_factor_write, second_register, second_registers, second_writes, second_written, sfr_write, subsystem_at, subsystem_write}
use Rattle.machine.specs.Setting.{hides, secured}
use Rattle.machine.proofs.Addresses.{in_second}
use Rattle.kind.specs.Kind.{is_second}
use Rattle.machine.proofs.Keeps.{kept_outputs}
use Rattle.machine.specs.Outputs.{outputs}
use Rattle.machine.specs.InForce.{reading, register, written}
use Rattle.second.specs.Once.{after_sfr_write}

-- ---- what reads where, once started

pub record SecondReads (m : Machine) : Type 0 where
  pub identity : (reading m 0x00 ≡ 0x60) × (reading m 0x01 ≡ 0x12) × (reading m 0x04 ≡ 0x01)
  pub subsystem :
      (reading m 0x08 ≡ byte m.second.subsystem 0 % 256) × (reading m 0x09 ≡ byte m.second.subsystem 1 % 256)
      × (reading m 0x0A ≡ byte m.second.subsystem 2 % 256)
      × (reading m 0x0B ≡ byte m.second.subsystem 3 % 256)
  pub dbccr : reading m 0x0C ≡ dbccr_of m.shared
  pub bcer_0 : reading m 0x10 ≡ bcer_of (bay_at m 0)
  -- A wait hides the device, and the security lock shows exactly if SECLOCK is 1.
  pub bstr_0 : reading m 0x14 ≡ bstr_of true m.shared.seclock (bay_at m 0)
  pub factor_0 : reading m 0x15 ≡ byte m.second.form_factors 0 % 8
  pub bcer_1 : is_open m 1 ≡ true → reading m 0x18 ≡ bcer_of (bay_at m 1)
  pub bstr_1 : is_open m 1 ≡ true → reading m 0x20 ≡ bstr_of true m.shared.seclock (bay_at m 1)
  pub factor_1 : is_open m 1 ≡ true → reading m 0x21 ≡ byte m.second.form_factors 1 % 8
  pub sfr : reading m 0xFC ≡ m.second.sfr % 256
  pub others :
      (a : ℕ)
      → among a
      (0x00 ∷ 0x01 ∷ 0x04 ∷ 0x08 ∷ 0x09 ∷ 0x0A ∷ 0x0B ∷ 0x0C ∷ 0x10 ∷ 0x14 ∷ 0x15 ∷ 0x18 ∷ 0x20 ∷ 0x21 ∷ 0xFC ∷ []) ≡ false → reading m a ≡ 0

reads_on : (m : Machine) → m.kind ≡ Second → m.started ≡ true → (a : ℕ) → reading m a ≡ second_register m a
unfolding reading register
reads_on m e t a = chosen t _ 0 ∙ chosen (ap is_second e) _ _

bstr_second : (m : Machine) (i : ℕ) → m.kind ≡ Second → bstr_of (hides m) (secured m) (bay_at m i) ≡ bstr_of true m.shared.seclock (bay_at m i)
unfolding hides secured
bstr_second m i e = ap (λ k. bstr_of (is_second k) (not (is_second k) || m.shared.seclock) (bay_at m i)) e

pub second_reads : (m : Machine) → m.kind ≡ Second → m.started ≡ true → SecondReads m
unfolding second_register second_registers subsystem_at form_factor_at bstr_at bcer_at open_by
second_reads m e t =
    record {
      identity = (reads_on m e t 0x00, reads_on m e t 0x01, reads_on m e t 0x04);
      subsystem = (reads_on m e t 0x08, reads_on m e t 0x09, reads_on m e t 0x0A, reads_on m e t 0x0B);
      dbccr = reads_on m e t 0x0C;
      bcer_0 = reads_on m e t 0x10;
      bstr_0 = reads_on m e t 0x14 ∙ bstr_second m 0 e;
      factor_0 = reads_on m e t 0x15;
      bcer_1 = λ o. reads_on m e t 0x18 ∙ chosen o _ 0;
      bstr_1 = λ o. reads_on m e t 0x20 ∙ chosen o _ 0 ∙ bstr_second m 1 e;
      factor_1 = λ o. reads_on m e t 0x21 ∙ chosen o _ 0;
      sfr = reads_on m e t 0xFC;
      others = λ a n. reads_on m e t a ∙ find_none a (second_registers m) 0 n;
    }

-- ---- what takes a write

pub record SecondTakes (v : ℕ) (m : Machine) : Type 0 where
  pub subsystem :
      (written 0x08 v m ≡ subsystem_write 0 v m) × (written 0x09 v m ≡ subsystem_write 1 v m) × (written 0x0A v m ≡ subsystem_write 2 v m)
      × (written 0x0B v m ≡ subsystem_write 3 v m)
  pub dbccr : written 0x0C v m ≡ dbccr_write v m
  pub bcer_0 : written 0x10 v m ≡ bcer_write 0 v m
  pub bstr_0 : written 0x14 v m ≡ bstr_write 0 v m
  pub factor_0 : written 0x15 v m ≡ form_factor_write 0 v m
  pub bcer_1 : written 0x18 v m ≡ bcer_write 1 v m
  pub bstr_1 : written 0x20 v m ≡ bstr_write 1 v m
  pub factor_1 : written 0x21 v m ≡ form_factor_write 1 v m
  pub sfr : written 0xFC v m ≡ sfr_write v m
  pub others :
      (a : ℕ) → among a (0x08 ∷ 0x09 ∷ 0x0A ∷ 0x0B ∷ 0x0C ∷ 0x10 ∷ 0x14 ∷ 0x15 ∷ 0x18 ∷ 0x20 ∷ 0x21 ∷ 0xFC ∷ []) ≡ false → written a v m ≡ m

pub second_takes : (v : ℕ) (m : Machine) → m.kind ≡ Second → SecondTakes v m
unfolding second_written second_writes
second_takes v m e =
    record {
      subsystem = (in_second 0x08 v m e, in_second 0x09 v m e, in_second 0x0A v m e, in_second 0x0B v m e);
      dbccr = in_second 0x0C v m e;
      bcer_0 = in_second 0x10 v m e;
      bstr_0 = in_second 0x14 v m e;
      factor_0 = in_second 0x15 v m e;
      bcer_1 = in_second 0x18 v m e;
      bstr_1 = in_second 0x20 v m e;
      factor_1 = in_second 0x21 v m e;
      sfr = in_second 0xFC v m e;
      others = λ a n. in_second a v m e ∙ find_none a (second_writes v m) m n;
    }

-- ---- SFR

-- The first write after a RESET reads back, and leaves both bays unlocked, without power and without a pulse, and else as they were.
pub record Opens (v : ℕ) (before after : Machine) : Type 0 where
  pub stored : after.second.sfr ≡ v
  pub marked : after.second.sfr_written ≡ true
  pub bays : (i : ℕ) → bay_at after i ≡ unlocked_bay (bay_at before i)

pub sfr_opens : (v : ℕ) (m : Machine) → m.kind ≡ Second → m.second.sfr_written ≡ false → Opens v m (written 0xFC v m)
unfolding sfr_write after_sfr_write bay_in
sfr_opens v m e w =
    rw ((second_takes v m e).sfr, passed w)
    (record { stored = ap (λ t. cond (not t) v m.second.sfr) w; marked = refl; bays = λ i. pick_of (eqb i 0) })
  where
    pick_of :
        (z : Bool)
        → cond z (unlocked_bay (cond true (bay0 m.bays) (bay1 m.bays))) (unlocked_bay (cond false (bay0 m.bays) (bay1 m.bays)))
        ≡ unlocked_bay (cond z (bay0 m.bays) (bay1 m.bays))
    pick_of true = refl
    pick_of false = refl

-- No other counts.
pub sfr_again : (v : ℕ) (m : Machine) → m.kind ≡ Second → m.second.sfr_written ≡ true → written 0xFC v m ≡ m
unfolding sfr_write
sfr_again v m e w = (second_takes v m e).sfr ∙ chosen w _ _

-- ---- RESET, and a name

-- Into the second kind: DBCCR reads 02h and can be written, SFR reads 0 and can be, LETR and 42h are 0, the phase is 0, both bays are open, and
-- the subsystem words and form factors are those that there were.
pub record SecondBegun (before m : Machine) : Type 0 where
  pub started : m.started ≡ true
  pub in_force : m.kind ≡ Second
  pub dbccr : (reading m 0x0C ≡ 0x02) × (m.shared.dbccr_written ≡ false)
  pub sfr : (reading m 0xFC ≡ 0) × (m.second.sfr_written ≡ false)
  pub first_kinds_lem : (m.shared.lock_time ≡ 0) × (m.shared.wait_time ≡ 0)
  pub phase : m.phase ≡ 0
  pub both_open : is_open m 1 ≡ true
  pub kept : (m.second.subsystem ≡ before.second.subsystem) × (m.second.form_factors ≡ before.second.form_factors)

pub second_begins : (straps levels : ℕ) (short : Bool) (m : Machine) → m.named ≡ Second → SecondBegun m (reset_to straps levels short m)
unfolding reset_as count_after_reset letr_after_reset reset reading register second_register second_registers dbccr_of open_by
second_begins straps levels short m e =
    rw e
    (record {
      started = refl;
      in_force = refl;
      dbccr = (refl, refl);
      sfr = (refl, refl);
      first_kinds_lem = (refl, refl);
      phase = refl;
      both_open = refl;
      kept = (refl, refl);
    })

-- A name changes no reading, no output and not the kind in force; the next RESET brings it into force, and so does every later one.
pub record NamesLater (k : Kind) (m : Machine) : Type 0 where
  pub readings : (a : ℕ) → reading (name_to k m) a ≡ reading m a
  pub nine_outputs : outputs (name_to k m) ≡ outputs m
  pub still : (name_to k m).kind ≡ m.kind
  pub next_reset : (straps levels : ℕ) (short : Bool) → (reset_to straps levels short (name_to k m)).kind ≡ k
  pub later_reset :
      (straps levels : ℕ) (short : Bool) (s l : ℕ) (t : Bool) → (reset_to straps levels short (reset_to s l t (name_to k m))).kind ≡ k

pub names_later : (k : Kind) (m : Machine) → NamesLater k m
unfolding name_to reset_as does keeps reading register first_register first_registers second_register second_registers subsystem_at form_factor_at bstr_at bcer_at hides secured
names_later k m =
    record {
      readings = λ a. refl;
      nine_outputs = kept_outputs (Name k) m refl;
      still = refl;
      next_reset = λ straps levels short. refl;
      later_reset = λ straps levels short s l t. refl;
    }

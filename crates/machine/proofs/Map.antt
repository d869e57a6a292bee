-- The first kind's register map, address by address (document 01, "Registers"): what reads where, what takes a write, what reads back; and
-- in either kind what closing bay 1 does. An address that a table doesn't have is found nowhere in it. Assumes nothing.
use Prim.Native.Nat.{ℕ, zero, suc, ◌+◌, ◌*◌, ◌/◌, ◌%◌, ◌-◌, ◌<◌}
use native.Mathlib.Omega.{arith}
use mathlib.Core.Path.{◌≡◌, refl, sym, ap, subst, ◌∙◌}
use mathlib.Core.Logic.{◌≢◌}
use mathlib.Core.Bool.{Bool, true, false, cond, ◌||◌, true≢false}
use mathlib.Core.List.{List, [], ◌∷◌, map}
use lib.Dec.{eqb}
use borrow.Author.Tests.{eq-eqb, ne_eqb}
use Rattle.bits.specs.Bits.{bit, put}
use Rattle.bits.specs.Straps.{lock_mode}
use Rattle.bay.specs.declared.Bay.{Bay}
use Rattle.bay.specs.Record.{N1394, NUSB, NREMREQ, level, empty_bay}
use Rattle.bay.proofs.Laws.{Sensed, sampled}
use Rattle.bay.specs.Registers.{bstr_of, bcer_of}
use Rattle.bay.proofs.Named.{bcer_pulses, reset_senses}
use Rattle.machine.specs.Record.{bay_at, bay_in, open_by, is_open}
use Rattle.machine.specs.Setting.{hides, secured, pulse_ticks_of, setting_of, first_setting}
use Rattle.machine.specs.Registers.{Row, find, dbccr_of, bstr_at, bcer_at, dbccr_stored, dbccr_write, bstr_write, bcer_write, count_written}
use Rattle.machine.specs.FirstKind.{letr_write, wait_write, first_register, first_registers, first_writes, first_written}
use Rattle.machine.specs.InForce.{register, reading, written}
use Rattle.machine.specs.Acts.{reset_to, sampled_at, pins_to, count_after_reset, letr_after_reset, reset_as}
use Rattle.machine.specs.declared.Machine.{Machine}
use Rattle.machine.proofs.Bays.{put_bay}
use Rattle.machine.proofs.Choice.{chosen, passed}
use Rattle.machine.proofs.Addresses.{write_steady, in_first, in_second}
use Rattle.kind.specs.declared.Kind.TheVariants.{First, Second}
use Rattle.kind.specs.declared.Kind.{Kind}
use Rattle.kind.specs.Kind.{is_second}
use Rattle.machine.specs.SecondKind.{second_writes, second_written}

-- ---- an address in a list

abbrev pub among : ℕ → List ℕ → Bool
among a [] = false
among a (x ∷ xs) = eqb a x || among a xs

pub find_none : {A : Type 0} (a : ℕ) (rows : List (Row A)) (other : A) → among a (map (λ r. r.address) rows) ≡ false → find a rows other ≡ other
find_none a [] other h = refl
find_none a (r ∷ rows) other h = go (eqb a r.address) h (find_none a rows other)
  where
    go :
        (t : Bool) → (t || among a (map (λ r. r.address) rows)) ≡ false
        → (among a (map (λ r. r.address) rows) ≡ false → find a rows other ≡ other) → cond t r.holds (find a rows other) ≡ other
    go true k rest = absurd (true≢false k)
    go false k rest = rest k

-- ---- the first kind: what reads where, once started

pub record Reads (m : Machine) : Type 0 where
  pub identity : (reading m 0x00 ≡ 0x55) × (reading m 0x01 ≡ 0x10) × (reading m 0x04 ≡ 0x01)
  pub dbccr : reading m 0x0C ≡ dbccr_of m.shared
  pub bstr_0 : reading m 0x10 ≡ bstr_of false true (bay_at m 0)
  pub bcer_0 : reading m 0x14 ≡ bcer_of (bay_at m 0)
  pub bstr_1 : is_open m 1 ≡ true → reading m 0x18 ≡ bstr_of false true (bay_at m 1)
  pub bcer_1 : is_open m 1 ≡ true → reading m 0x1C ≡ bcer_of (bay_at m 1)
  pub letr : m.shared.lock_time < 4 → reading m 0x40 ≡ m.shared.lock_time
  pub wait : m.shared.wait_time < 256 → reading m 0x42 ≡ m.shared.wait_time
  pub others : (a : ℕ) → among a (0x00 ∷ 0x01 ∷ 0x04 ∷ 0x0C ∷ 0x10 ∷ 0x14 ∷ 0x18 ∷ 0x1C ∷ 0x40 ∷ 0x42 ∷ []) ≡ false → reading m a ≡ 0

-- What a kind makes of BSTR.
bstr_first : (m : Machine) (i : ℕ) → m.kind ≡ First → bstr_of (hides m) (secured m) (bay_at m i) ≡ bstr_of false true (bay_at m i)
unfolding hides secured
bstr_first m i e = rw e

reads_on : (m : Machine) → m.kind ≡ First → m.started ≡ true → (a : ℕ) → reading m a ≡ first_register m a
unfolding reading register
reads_on m e t a = chosen t _ 0 ∙ passed (ap is_second e) _ _

pub reads : (m : Machine) → m.kind ≡ First → m.started ≡ true → Reads m
unfolding first_register first_registers bstr_at bcer_at open_by
reads m e t =
    record {
      identity = (reads_on m e t 0x00, reads_on m e t 0x01, reads_on m e t 0x04);
      dbccr = reads_on m e t 0x0C;
      bstr_0 = reads_on m e t 0x10 ∙ bstr_first m 0 e;
      bcer_0 = reads_on m e t 0x14;
      bstr_1 = λ o. reads_on m e t 0x18 ∙ chosen o (bstr_of (hides m) (secured m) (bay_at m 1)) 0 ∙ bstr_first m 1 e;
      bcer_1 = λ o. reads_on m e t 0x1C ∙ chosen o (bcer_of (bay_at m 1)) 0;
      letr = λ l. reads_on m e t 0x40 ∙ omega (arith, l);
      wait = λ l. reads_on m e t 0x42 ∙ omega (arith, l);
      others = λ a n. reads_on m e t a ∙ find_none a (first_registers m) 0 n;
    }

-- ---- what takes a write

pub record Takes (v : ℕ) (m : Machine) : Type 0 where
  pub dbccr : written 0x0C v m ≡ dbccr_write v m
  pub bstr_0 : written 0x10 v m ≡ bstr_write 0 v m
  pub bcer_0 : written 0x14 v m ≡ bcer_write 0 v m
  pub bstr_1 : written 0x18 v m ≡ bstr_write 1 v m
  pub bcer_1 : written 0x1C v m ≡ bcer_write 1 v m
  pub letr : written 0x40 v m ≡ letr_write v m
  pub wait : written 0x42 v m ≡ wait_write v m
  pub others : (a : ℕ) → among a (0x0C ∷ 0x10 ∷ 0x14 ∷ 0x18 ∷ 0x1C ∷ 0x40 ∷ 0x42 ∷ []) ≡ false → written a v m ≡ m

pub takes : (v : ℕ) (m : Machine) → m.kind ≡ First → Takes v m
unfolding first_written first_writes
takes v m e =
    record {
      dbccr = in_first 0x0C v m e;
      bstr_0 = in_first 0x10 v m e;
      bcer_0 = in_first 0x14 v m e;
      bstr_1 = in_first 0x18 v m e;
      bcer_1 = in_first 0x1C v m e;
      letr = in_first 0x40 v m e;
      wait = in_first 0x42 v m e;
      others = λ a n. in_first a v m e ∙ find_none a (first_writes v m) m n;
    }

-- ---- DBCCR, LETR and 42h as they read back

-- A bit of a number, put back.
pub bit_back : (n : ℕ) → n < 2 → put 4 (eqb n 1) ≡ n * 16
bit_back zero l = refl
bit_back (suc zero) l = refl
bit_back (suc (suc n)) l = absurd (omega arith)

-- In either kind the first write after a RESET ..
pub dbccr_first_lem : (v : ℕ) (m : Machine) → m.shared.dbccr_written ≡ false → written 0x0C v m ≡ dbccr_stored v m
unfolding first_written first_writes second_written second_writes dbccr_write
dbccr_first_lem v m w = taken m.kind refl ∙ passed w m (dbccr_stored v m)
  where
    taken : (k : Kind) → m.kind ≡ k → written 0x0C v m ≡ dbccr_write v m
    taken First e = in_first 0x0C v m e
    taken Second e = in_second 0x0C v m e

-- .. stores bits 4 and 1-0; the others read 0.
pub dbccr_reads_back :
    (v : ℕ) (m : Machine) → m.kind ≡ First → m.started ≡ true → m.shared.dbccr_written ≡ false
    → reading (written 0x0C v m) 0x0C ≡ v % 4 + v / 16 % 2 * 16
unfolding dbccr_of dbccr_stored count_written
dbccr_reads_back v m e t w =
    (reads (written 0x0C v m) ((write_steady 0x0C v m).kind ∙ e) ((write_steady 0x0C v m).started ∙ t)).dbccr
    ∙ ap (λ (n : Machine). dbccr_of n.shared) (dbccr_first_lem v m w)
    ∙ rw e (omega (arith, bit_back (v / 16 % 2) (omega arith)))

pub letr_reads_back : (v : ℕ) (m : Machine) → m.kind ≡ First → m.started ≡ true → reading (written 0x40 v m) 0x40 ≡ v % 4
unfolding letr_write
letr_reads_back v m e t = ap (λ n. reading n 0x40) (takes v m e).letr ∙ (reads (letr_write v m) e t).letr (omega arith)

-- 42h reads back as it was written, all eight bits.
pub wait_reads_back : (v : ℕ) (m : Machine) → v < 256 → m.kind ≡ First → m.started ≡ true → reading (written 0x42 v m) 0x42 ≡ v
unfolding wait_write
wait_reads_back v m l e t = ap (λ n. reading n 0x42) (takes v m e).wait ∙ (reads (wait_write v m) e t).wait l

-- LETR's ticks, in that order.
pub lock_times : map pulse_ticks_of (0 ∷ 1 ∷ 2 ∷ 3 ∷ []) ≡ 12 ∷ 50 ∷ 100 ∷ 200 ∷ []
unfolding pulse_ticks_of
lock_times = refl

-- Where the lock is pulsed, LOCK_CTL written from 1 to 0 starts a pulse in an open bay, of the ticks that there are then.
pub unlocking :
    (i v : ℕ) (m : Machine) → is_open m i ≡ true → (setting_of m).pulsed ≡ true → (bay_at m i).control.lock_ctl ≡ true → bit 7 v ≡ false
    → (bay_at (bcer_write i v m) i).pulse ≡ (setting_of m).pulse_ticks
unfolding bcer_write
unlocking i v m o mode l h = rw (chosen o, put_bay i) ((bcer_pulses (hides m) v (setting_of m) (bay_at m i)).begins mode l h)

-- In the first kind that is in LOCK_MODE 1, and they are LETR's.
pub pulsed_first : (m : Machine) → m.kind ≡ First → ((setting_of m).pulsed ≡ lock_mode m.straps) × ((setting_of m).pulse_ticks ≡ pulse_ticks_of m.shared.lock_time) × ((setting_of m).pulse_high ≡ false)
unfolding setting_of first_setting
pulsed_first m e = rw (passed (ap is_second e)) (refl, refl, refl)

-- ---- closing bay 1

-- The first write of DBCCR with count 1 makes bay 1's record empty and closes it. Every other first write leaves it, open. Bay 0
-- is left either way.
pub record Closing (v : ℕ) (before after : Machine) : Type 0 where
  pub closed : count_written before.kind v ≡ 1 → (is_open after 1 ≡ false) × (bay_at after 1 ≡ empty_bay)
  pub left_open : count_written before.kind v ≢ 1 → (is_open after 1 ≡ true) × (bay_at after 1 ≡ bay_at before 1)
  pub other : bay_at after 0 ≡ bay_at before 0

stored_closing : (v : ℕ) (m : Machine) → Closing v m (dbccr_stored v m)
unfolding dbccr_stored open_by bay_in
stored_closing v m =
    record {
      closed = λ e. (rw (eq-eqb (count_written m.kind v) 1 e), rw (eq-eqb (count_written m.kind v) 1 e));
      left_open = λ n. (rw (ne_eqb (count_written m.kind v) 1 n), rw (ne_eqb (count_written m.kind v) 1 n));
      other = refl;
    }

pub closing : (v : ℕ) (m : Machine) → m.shared.dbccr_written ≡ false → Closing v m (written 0x0C v m)
closing v m w = subst (Closing v m) (sym (dbccr_first_lem v m w)) (stored_closing v m)

-- The count is that of bits 1-0; in the second kind of bits 3-0, and 2 at most.
pub counts :
    (map (count_written First) (0x00 ∷ 0x01 ∷ 0x02 ∷ 0x03 ∷ 0x04 ∷ 0x05 ∷ 0x0F ∷ 0x13 ∷ 0xE1 ∷ []) ≡ 0 ∷ 1 ∷ 2 ∷ 3 ∷ 0 ∷ 1 ∷ 3 ∷ 3 ∷ 1 ∷ [])
    × (map (count_written Second) (0x00 ∷ 0x01 ∷ 0x02 ∷ 0x03 ∷ 0x04 ∷ 0x05 ∷ 0x0F ∷ 0x13 ∷ 0xE1 ∷ []) ≡ 0 ∷ 1 ∷ 2 ∷ 2 ∷ 2 ∷ 2 ∷ 2 ∷ 2 ∷ 1 ∷ [])
unfolding count_written
counts = (refl, refl)

-- ---- RESET and PINS

-- Into the first kind: DBCCR and 42h read 0, DBCCR can be written, LETR reads 1, or 0 if the short pulse is asked for, the phase is 0 and
-- both bays are open.
pub record Begun (straps : ℕ) (short : Bool) (m : Machine) : Type 0 where
  pub started : m.started ≡ true
  pub straps_stored : m.straps ≡ straps
  pub in_force : m.kind ≡ First
  pub dbccr : reading m 0x0C ≡ 0
  pub unwritten : m.shared.dbccr_written ≡ false
  pub letr : reading m 0x40 ≡ cond short 0 1
  pub wait : reading m 0x42 ≡ 0
  pub phase : m.phase ≡ 0
  pub both_open : is_open m 1 ≡ true

pub reset_begins : (straps levels : ℕ) (short : Bool) (m : Machine) → m.named ≡ First → Begun straps short (reset_to straps levels short m)
unfolding reset_as count_after_reset letr_after_reset reading register first_register first_registers dbccr_of open_by
reset_begins straps levels short m e =
    rw e
    (record { started = refl; straps_stored = refl; in_force = refl; dbccr = refl; unwritten = refl; letr = starts short; wait = refl; phase = refl; both_open = refl })
  where
    starts : (b : Bool) → ◌≡◌ {A = ℕ} (cond b 0 1 % 4) (cond b 0 1)
    starts true = refl
    starts false = refl

-- The levels n1394, nUSB, nREMREQ and nSL of bay 0 are bits 7 to 4, those of bay 1 bits 3 to 0.
pub record Levels (levels top : ℕ) (b : Bay) : Type 0 where
  pub n1394 : level b N1394 ≡ bit top levels
  pub nusb : level b NUSB ≡ bit (top - 1) levels
  pub nremreq : level b NREMREQ ≡ bit (top - 2) levels
  pub nsl : b.n_sl ≡ bit (top - 3) levels

same_bit : (m n : ℕ) → m ≡ n → eqb m 1 ≡ eqb n 1
same_bit m n e = ap (λ k. eqb k 1) e

high : (levels : ℕ) (b : Bay) → Sensed (levels / 16) b → Levels levels 7 b
high levels b s =
    record {
      n1394 = s.n1394 ∙ same_bit (levels / 16 / 8 % 2) (levels / 128 % 2) (omega arith);
      nusb = s.nusb ∙ same_bit (levels / 16 / 4 % 2) (levels / 64 % 2) (omega arith);
      nremreq = s.nremreq ∙ same_bit (levels / 16 / 2 % 2) (levels / 32 % 2) (omega arith);
      nsl = s.nsl ∙ same_bit (levels / 16 / 1 % 2) (levels / 16 % 2) (omega arith);
    }

low : (levels : ℕ) (b : Bay) → Sensed (levels % 16) b → Levels levels 3 b
low levels b s =
    record {
      n1394 = s.n1394 ∙ same_bit (levels % 16 / 8 % 2) (levels / 8 % 2) (omega arith);
      nusb = s.nusb ∙ same_bit (levels % 16 / 4 % 2) (levels / 4 % 2) (omega arith);
      nremreq = s.nremreq ∙ same_bit (levels % 16 / 2 % 2) (levels / 2 % 2) (omega arith);
      nsl = s.nsl ∙ same_bit (levels % 16 / 1 % 2) (levels / 1 % 2) (omega arith);
    }

pub reset_levels :
    (straps levels : ℕ) (short : Bool) (m : Machine) → Levels levels 7 (bay_at (reset_to straps levels short m) 0) × Levels levels 3 (bay_at (reset_to straps levels short m) 1)
unfolding reset_as bay_in
reset_levels straps levels short m = (high levels _ (reset_senses _ _), low levels _ (reset_senses _ _))

pub pins_levels :
    (levels : ℕ) (m : Machine)
    → Levels levels 7 (bay_at (pins_to levels m) 0) × (is_open m 1 ≡ true → Levels levels 3 (bay_at (pins_to levels m) 1))
unfolding pins_to bay_in sampled_at open_by
pins_levels levels m = (high levels _ (sampled (levels / 16) (bay_at m 0)).senses, λ o. rw (chosen o) (low levels _ (sampled (levels % 16) (bay_at m 1)).senses))

-- A fit machine stays fit, whatever word comes: the parts of fitness are taken apart, each rule keeps them, and they are put
-- together again. Assumes nothing.
use Prim.Native.Nat.{ℕ, zero, suc, ◌-◌, ◌<◌, ◌≤◌, ◌%◌}
use native.Mathlib.Omega.{arith}
use mathlib.Core.Path.{◌≡◌, sym, subst, refl}
use mathlib.Core.Logic.{◌↔◌}
use mathlib.Core.Bool.{Bool, true, false, not, ◌&&◌, and-eq-true_iff}
use lib.Dec.{eqb, ltb}
use borrow.Author.Tests.{lt-ltb, le-leb, ltb-true, leb-true, ltb-false}
use Rattle.bits.specs.Straps.{MOST_STRAPS}
use Rattle.bay.proofs.Taut.{pick}
use Rattle.bay.specs.declared.Bay.{Bay}
use Rattle.bay.proofs.Fit.{Fits as Parts, fit_parts as bay_parts, empty_fit, reset_fit, sampled_fit, ticked_fit, bstr_written_fit, controlled_fit, unlocked_fit}
use Rattle.machine.specs.Record.{PHASES, bay_at, bay_in, fits, fresh_machine, fit_in, is_open, most_pulse, most_wait}
use Rattle.machine.specs.Setting.{hides, pulse_ticks_of, setting_of, first_setting, second_setting}
use Rattle.machine.specs.InForce.{written}
use Rattle.machine.specs.Acts.{reset_to, pins_to, next_phase, tick_to, does, count_after_reset, letr_after_reset, name_to, reset_as}
use Rattle.machine.specs.After.{shared_written, first_kinds}
use Rattle.machine.specs.Kept.{Kept}
use Rattle.machine.specs.declared.Machine.{Machine}
use Rattle.machine.specs.declared.Shared.{Shared}
use Rattle.machine.specs.declared.Act.{Act}
use Rattle.machine.specs.declared.Act.TheVariants.{Write, Pins, Tick}
use Rattle.machine.proofs.Bays.{each}
use Rattle.machine.proofs.Addresses.{write_steady, by_address}
use Rattle.machine.proofs.After.{written_shared, after_act}
use Rattle.kind.specs.declared.Kind.TheVariants.{First, Second}
use Rattle.kind.specs.declared.Kind.{Kind}
use Rattle.machine.specs.Registers.{bcer_write, bstr_write, count_written, dbccr_stored, dbccr_write}
use Rattle.second.specs.First.{written as second_written_by, form_factor, sfr, subsystem}
use Rattle.second.specs.Record.{fits as second_fits}
use Rattle.second.proofs.Laws.{fresh_fit as second_fresh_fit, reset_fit as second_reset_fit, most_pulse_lem, most_wait_lem, written_fit}
use Rattle.machine.specs.SecondKind.{form_factor_write, sfr_write, subsystem_write}
use Rattle.machine.specs.FirstKind.{letr_write, wait_write}

-- Fitness, part by part, in the paper's numbers.
pub record Fits (m : Machine) : Type 0 where
  pub phase : m.phase < 200
  pub straps : m.straps ≤ 15
  pub lock_time : m.shared.lock_time ≤ 3
  pub bay_count : m.shared.bay_count ≤ 3
  pub second : second_fits m.second ≡ true
  pub bays : (i : ℕ) → fit_in m.kind (bay_at m i) ≡ true

-- A bay of each kind likewise: how long its pulses and waits may be.
pub record BayFits : Type 0 where
  pub in_first : (b : Bay) → (fit_in First b ≡ true) ↔ Parts 200 255 b
  pub in_second : (b : Bay) → (fit_in Second b ≡ true) ↔ Parts 1200 560 b

pub bay_fits : BayFits
bay_fits = record { in_first = bay_parts 200 255; in_second = bay_parts 1200 560 }

-- Both bays are fit.
both : (m : Machine) → fit_in m.kind (bay_at m 0) ≡ true → fit_in m.kind (bay_at m 1) ≡ true → (i : ℕ) → fit_in m.kind (bay_at m i) ≡ true
unfolding bay_in
both m p q = each (λ x. fit_in m.kind x ≡ true) m.bays p q

pub fit_parts : (m : Machine) → (fits m ≡ true) ↔ Fits m
unfolding fits
fit_parts m =
    (parts, λ f. rw (lt-ltb _ _ f.phase, le-leb _ _ f.straps, le-leb _ _ f.lock_time, le-leb _ _ f.bay_count, f.second, f.bays 0, f.bays 1))
  where
    parts : fits m ≡ true → Fits m
    parts h =
        let a = (and-eq-true_iff _ _).0 h in
        let b = (and-eq-true_iff _ _).0 a.0 in
        let c = (and-eq-true_iff _ _).0 b.0 in
        let d = (and-eq-true_iff _ _).0 c.0 in
        let e = (and-eq-true_iff _ _).0 d.0 in
        let s = (and-eq-true_iff _ _).0 d.1 in
        record {
          phase = ltb-true _ _ e.0;
          straps = leb-true _ _ e.1;
          lock_time = leb-true _ _ s.0;
          bay_count = leb-true _ _ s.1;
          second = c.1;
          bays = both m b.1 a.1;
        }

-- ---- each rule

fresh_parts : Fits fresh_machine
unfolding fresh_machine bay_in
fresh_parts =
    record {
      phase = omega arith;
      straps = omega arith;
      lock_time = omega arith;
      bay_count = omega arith;
      second = second_fresh_fit;
      bays = both fresh_machine (empty_fit _ _) (empty_fit _ _);
    }

pub fresh_fit : fits fresh_machine ≡ true
fresh_fit = (fit_parts fresh_machine).1 fresh_parts

reset_parts : (straps levels : ℕ) (short : Bool) (m : Machine) → straps ≤ MOST_STRAPS → Fits m → Fits (reset_to straps levels short m)
unfolding reset_as letr_after_reset count_after_reset bay_in
reset_parts straps levels short m l f =
    record {
      phase = omega arith;
      straps = l;
      lock_time = letr_small m.named short;
      bay_count = count_small m.named;
      second = second_reset_fit m.second f.second;
      bays = both (reset_to straps levels short m) (reset_fit _ _ _ _) (reset_fit _ _ _ _);
    }
  where
    letr_small : (k : Kind) (short : Bool) → letr_after_reset k short ≤ 3
    letr_small First true = omega arith
    letr_small First false = omega arith
    letr_small Second short = omega arith

    count_small : (k : Kind) → count_after_reset k ≤ 3
    count_small First = omega arith
    count_small Second = omega arith

phase_on : (p : ℕ) → p < PHASES → next_phase p < PHASES
unfolding next_phase
phase_on p h = pick (λ n. n < PHASES) (ltb p (PHASES - 1)) (λ l. omega (arith, ltb-true p (PHASES - 1) l)) (λ l. omega arith)

-- What a kind makes of a bay's pulses and waits is in its ranges.
ticks_most : (t : ℕ) → pulse_ticks_of t ≤ 200
unfolding pulse_ticks_of
ticks_most zero = omega arith
ticks_most (suc zero) = omega arith
ticks_most (suc (suc zero)) = omega arith
ticks_most (suc (suc (suc t))) = omega arith

pub setting_fits : (m : Machine) → ((setting_of m).pulse_ticks ≤ most_pulse m.kind) × ((setting_of m).wait_ticks ≤ most_wait m.kind)
unfolding setting_of first_setting second_setting
setting_fits m = go m.kind refl
  where
    go : (k : Kind) → m.kind ≡ k → ((setting_of m).pulse_ticks ≤ most_pulse m.kind) × ((setting_of m).wait_ticks ≤ most_wait m.kind)
    go First e = rw e (ticks_most m.shared.lock_time, omega arith)
    go Second e = rw e (most_pulse_lem m.second, most_wait_lem m.second)

-- Each bay, at every act that leaves the kind in force.
bays_fit : (a : Act) (m : Machine) → Fits m → (i : ℕ) → fit_in m.kind (bay_at (does a m) i) ≡ true
bays_fit a m f i =
    let fit = f.bays i in
    let ticks = setting_fits m in
    after_act (λ b. fit_in m.kind b ≡ true) m i
    record {
      by_reset = reset_fit _ _;
      by_closing = empty_fit _ _;
      by_pins = λ levels. sampled_fit _ _ levels (bay_at m i) fit;
      by_tick = ticked_fit _ _ (hides m) (setting_of m) (bay_at m i) ticks.1 fit;
      by_bstr = λ v. bstr_written_fit _ _ v (bay_at m i) fit;
      by_bcer = λ v. controlled_fit _ _ (hides m) _ (setting_of m) (bay_at m i) ticks.0 ticks.1 fit;
      by_unlocking = unlocked_fit _ _ (bay_at m i) fit;
      untouched = fit;
    }
    a

pins_parts : (levels : ℕ) (m : Machine) → Fits m → Fits (pins_to levels m)
unfolding does pins_to
pins_parts levels m f =
    record { phase = f.phase; straps = f.straps; lock_time = f.lock_time; bay_count = f.bay_count; second = f.second; bays = bays_fit (Pins levels) m f }

tick_parts : (m : Machine) → Fits m → Fits (tick_to m)
unfolding does tick_to
tick_parts m f =
    record {
      phase = phase_on m.phase f.phase;
      straps = f.straps;
      lock_time = f.lock_time;
      bay_count = f.bay_count;
      second = f.second;
      bays = bays_fit Tick m f;
    }

pub name_fits : (k : Kind) (m : Machine) → fits m ≡ true → fits (name_to k m) ≡ true
unfolding name_to fits
name_fits k m h = h

-- ---- a write

abbrev SharedFits : Shared → Type 0
SharedFits r = (r.lock_time ≤ 3) × (r.bay_count ≤ 3)

count_fits : (k : Kind) (v : ℕ) → count_written k v ≤ 3
unfolding count_written
count_fits First v = omega arith
count_fits Second v = pick (λ n. n ≤ 3) {m = 2} (ltb 2 (v % 16)) (λ _. omega arith) (λ l. omega (arith, ltb-false 2 (v % 16) l))

shared_parts : (a v : ℕ) (m : Machine) → Fits m → SharedFits (written a v m).shared
unfolding shared_written
shared_parts a v m f =
    subst SharedFits (sym (written_shared a v m))
    (pick SharedFits (eqb a 0x0C && not m.shared.dbccr_written) (λ _. (f.lock_time, count_fits m.kind v))
    (λ _. pick SharedFits (first_kinds m 0x40 a) (λ _. (omega arith, f.bay_count))
    (λ _. pick SharedFits (first_kinds m 0x42 a) (λ _. (f.lock_time, f.bay_count)) (λ _. (f.lock_time, f.bay_count)))))

-- The second kind's own registers.
second_parts : (a v : ℕ) (m : Machine) → Fits m → second_fits (written a v m).second ≡ true
unfolding dbccr_write dbccr_stored letr_write wait_write bstr_write bcer_write subsystem_write form_factor_write sfr_write second_written_by
second_parts a v m f =
    by_address SecondFits a v m
    record {
      dbccr = pick SecondFits m.shared.dbccr_written (λ _. fit) (λ _. fit);
      bstr = λ i. pick SecondFits (is_open m i) (λ _. fit) (λ _. fit);
      bcer = λ i. pick SecondFits (is_open m i) (λ _. fit) (λ _. fit);
      letr = fit;
      wait = fit;
      subsystem = λ k. written_fit (subsystem k v) m.second fit;
      form_factor = λ i. pick SecondFits (is_open m i) (λ _. written_fit (form_factor i v) m.second fit) (λ _. fit);
      sfr = pick SecondFits m.second.sfr_written (λ _. fit) (λ _. written_fit (sfr v) m.second fit);
      none = fit;
    }
  where
    SecondFits : Machine → Type 0
    SecondFits n = second_fits n.second ≡ true

    fit : SecondFits m
    fit = f.second

written_parts : (a v : ℕ) (m : Machine) → Fits m → Fits (written a v m)
unfolding does
written_parts a v m f =
    let same = write_steady a v m in
    let shared = shared_parts a v m f in
    record {
      phase = omega (arith, same.phase, f.phase);
      straps = omega (arith, same.straps, f.straps);
      lock_time = shared.0;
      bay_count = shared.1;
      second = second_parts a v m f;
      bays = λ i. rw same.kind (bays_fit (Write a v) m f i);
    }

-- Fitness is kept by every rule, and a RESET makes it.
pub fits_kept : Kept (λ m. fits m ≡ true)
fits_kept =
    record {
      by_reset = λ straps levels short m l f. (fit_parts _).1 (reset_parts straps levels short m l ((fit_parts m).0 f));
      by_write = λ a v m t h. (fit_parts _).1 (written_parts a v m ((fit_parts m).0 h));
      by_pins = λ levels m t h. (fit_parts _).1 (pins_parts levels m ((fit_parts m).0 h));
      by_tick = λ m t h. (fit_parts _).1 (tick_parts m ((fit_parts m).0 h));
      by_name = name_fits;
    }

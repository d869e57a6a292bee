-- 42h and a bay's wait after each act are what the tables say, in every machine: from what becomes of the bay. Assumes nothing.
use Prim.Native.Nat.{ℕ, ◌<◌, ◌%◌, ◌*◌, ◌/◌}
use native.Mathlib.Omega.{arith}
use mathlib.Core.Path.{◌≡◌, refl, sym, ap, ◌∙◌}
use mathlib.Core.Bool.{Bool, true, false, not, cond, ◌&&◌, and-eq-true_iff, and-false, true≢false}
use lib.Dec.{eqb}
use borrow.Author.Tests.{eqb-true, eq-eqb, ne_eqb}
use Rattle.bits.specs.Bits.{bit}
use Rattle.bay.specs.declared.Bay.{Bay}
use Rattle.bay.specs.Record.{contact, present, empty_bay, reset_bay}
use Rattle.bay.specs.Moves.{ticked_bay}
use Rattle.bay.specs.Table.{asks_nothing}
use Rattle.bay.specs.Waits.{wait_ticked, wait_written_by}
use Rattle.bay.proofs.Taut.{pick}
use Rattle.bay.proofs.Laws.{wait_ticked_lem, sampled}
use Rattle.bay.proofs.Named.{bstr_clears, bay_unlocks}
use Rattle.bay.proofs.Waits.{wait_written_lem}
use Rattle.machine.specs.Record.{bay_at, is_open}
use Rattle.machine.specs.Setting.{hides, setting_of, first_setting, second_setting}
use Rattle.machine.specs.InForce.{written}
use Rattle.machine.specs.Acts.{pins_to, tick_to, does, name_to, reset_as}
use Rattle.machine.specs.After.{closes, bay_after, shared_written, bcer_own, first_kinds}
use Rattle.machine.specs.Wait.{wait_time, wait_time_after, wait_of, wait_after}
use Rattle.machine.specs.declared.Machine.{Machine}
use Rattle.machine.specs.declared.Shared.{Shared}
use Rattle.machine.specs.declared.Act.{Act}
use Rattle.machine.specs.declared.Act.TheVariants.{Write, Read, Pins, Tick, Reset, Name}
use Rattle.machine.proofs.Choice.{chosen, passed}
use Rattle.machine.proofs.After.{bay_after_lem, of_write, written_shared, three}
use Rattle.machine.proofs.Moves.{pins_keep}
use Rattle.kind.specs.declared.Kind.TheVariants.{First, Second}
use Rattle.kind.specs.Kind.{is_second}
use Rattle.second.specs.Sfr.{wait_ticks_of}

-- ---- 42h

write_time : (a v : ℕ) (m : Machine) → wait_time (written a v m) ≡ cond (first_kinds m 0x42 a) v (wait_time m)
unfolding shared_written
write_time a v m =
    ap (λ (r : Shared). r.wait_time) (written_shared a v m)
    ∙ pick P (eqb a 0x0C && not m.shared.dbccr_written)
    (λ h. rw (eqb-true a 0x0C ((and-eq-true_iff _ _).0 h).0, and-false (not (is_second m.kind))))
    (λ _. pick P (first_kinds m 0x40 a) (λ e. rw (eqb-true a 0x40 ((and-eq-true_iff (not (is_second m.kind)) _).0 e).1, and-false (not (is_second m.kind))))
    (λ _. pick P (first_kinds m 0x42 a) (λ e. rw e) (λ e. rw e)))
  where
    P : Shared → Type 0
    P r = r.wait_time ≡ cond (first_kinds m 0x42 a) v (wait_time m)

pub wait_time_after_lem : (a : Act) (m : Machine) → wait_time (does a m) ≡ wait_time_after m a
unfolding does wait_time_after pins_to tick_to reset_as name_to
wait_time_after_lem (Write a v) m = write_time a v m
wait_time_after_lem (Read a) m = refl
wait_time_after_lem (Pins levels) m = refl
wait_time_after_lem Tick m = refl
wait_time_after_lem (Reset straps levels short) m = refl
wait_time_after_lem (Name k) m = refl

-- ---- a bay's wait

write_wait :
    (a v : ℕ) (m : Machine) (i : ℕ)
    → wait_of (written a v m) i
    ≡ cond (eqb a (bcer_own m i) && is_open m i) (wait_written_by (hides m) v (setting_of m) (bay_at m i)) (cond (closes m i a v) 0 (wait_of m i))
unfolding empty_bay
write_wait a v m i =
    of_write a v m
    (λ (b : Bay). b.wait ≡ cond (eqb a (bcer_own m i) && is_open m i) (wait_written_by (hides m) v (setting_of m) (bay_at m i)) (cond (closes m i a v) 0 (wait_of m i)))
    i (λ e o. wait_written_lem (hides m) v (setting_of m) (bay_at m i) ∙ rw (e, eq-eqb (bcer_own m i) (bcer_own m i) refl, o))
    (λ e o. (bstr_clears v (bay_at m i)).wait_kept ∙ rw (e, (three m.kind i).bstr_bcer, (three m.kind i).bstr_dbccr))
    (λ k l c. rw (k, c))
    (λ k l c u. (bay_unlocks (bay_at m i)).wait_kept ∙ rw (k, c))
    (λ k l c u. rw (k, c))

-- Of the bay that is picked.
of_picked : (o : Bool) (b c : Bay) → (cond o b c).wait ≡ cond o b.wait c.wait
of_picked true b c = refl
of_picked false b c = refl

pub wait_after_lem : (a : Act) (m : Machine) (i : ℕ) → wait_of (does a m) i ≡ wait_after m i a
unfolding does wait_after bay_after reset_bay
wait_after_lem (Write a v) m i = write_wait a v m i
wait_after_lem (Read a) m i = refl
wait_after_lem (Pins levels) m i = pins_keep (λ b. b.wait) (λ levels b. (sampled levels b).wait_kept) levels m i
wait_after_lem Tick m i =
    ap (λ (b : Bay). b.wait) (bay_after_lem Tick m i) ∙ of_picked (is_open m i) _ _
    ∙ ap (λ n. cond (is_open m i) n (wait_of m i)) (wait_ticked_lem (hides m) (setting_of m) (bay_at m i))
wait_after_lem (Reset straps levels short) m i = ap (λ (b : Bay). b.wait) (bay_after_lem (Reset straps levels short) m i)
wait_after_lem (Name k) m i = ap (λ (b : Bay). b.wait) (bay_after_lem (Name k) m i)

-- ---- what a wait begins with

-- What the kind in force makes of 42h, or of ITO.
pub ticks_first : (m : Machine) → m.kind ≡ First → wait_time m < 256 → (setting_of m).wait_ticks ≡ wait_time m
unfolding setting_of first_setting
ticks_first m e l = rw (passed (ap is_second e)) (omega (arith, l))

pub ticks_second : (m : Machine) → m.kind ≡ Second → (setting_of m).wait_ticks ≡ m.second.sfr / 32 % 8 * 80
unfolding setting_of second_setting wait_ticks_of
ticks_second m e = rw (chosen (ap is_second e))

-- The second kind: in the TICK in which contact is new.
pub contact_begins :
    (m : Machine) (i : ℕ) → m.kind ≡ Second → is_open m i ≡ true → wait_of m i ≡ 0 → contact (bay_at m i) ≡ false → contact (bay_at (does Tick m) i) ≡ true
    → wait_of (does Tick m) i ≡ (setting_of m).wait_ticks
unfolding wait_after wait_ticked bay_after hides
contact_begins m i e o z p q =
    let device : contact (ticked_bay (hides m) (setting_of m) (bay_at m i)) ≡ true = sym (ap contact (bay_after_lem Tick m i ∙ chosen o _ _)) ∙ q in
    wait_after_lem Tick m i ∙ chosen o _ _ ∙ begun (hides m) (ap is_second e) device
  where
    begun : (h : Bool) → h ≡ true → contact (ticked_bay h (setting_of m) (bay_at m i)) ≡ true → wait_ticked h (setting_of m) (bay_at m i) ≡ (setting_of m).wait_ticks
    begun true r d = rw (p, d, z)
    begun false r d = absurd (true≢false (sym r))

-- The first kind, with 42h above 0.
module _ (m : Machine) (i : ℕ) (e : m.kind ≡ First) (o : is_open m i ≡ true) (above : 0 < wait_time m) (byte : wait_time m < 256) where
  none_hidden : hides m ≡ false
  unfolding hides
  none_hidden = ap is_second e

  above_0 : eqb (setting_of m).wait_ticks 0 ≡ false
  above_0 = ne_eqb (setting_of m).wait_ticks 0 (λ z. omega (arith, z, ticks_first m e byte))

  -- In the TICK of an arrival with DEVSTSCHG_EN.
  pub arrival_begins :
      (bay_at m i).control.devstschg_en ≡ true → contact (bay_at m i) ≡ false → contact (bay_at (does Tick m) i) ≡ true → wait_of (does Tick m) i ≡ wait_time m
  unfolding wait_after wait_ticked bay_after
  arrival_begins on p q =
      let device : contact (ticked_bay (hides m) (setting_of m) (bay_at m i)) ≡ true = sym (ap contact (bay_after_lem Tick m i ∙ chosen o _ _)) ∙ q in
      wait_after_lem Tick m i ∙ chosen o _ _ ∙ begun (hides m) none_hidden device ∙ ticks_first m e byte
    where
      begun : (h : Bool) → h ≡ false → contact (ticked_bay h (setting_of m) (bay_at m i)) ≡ true → wait_ticked h (setting_of m) (bay_at m i) ≡ (setting_of m).wait_ticks
      begun false r d = rw (p, d, on, above_0)
      begun true r d = absurd (true≢false r)

  -- At the write of BCER that brings DEVSTSCHG_EN, bit 2, from 0 to 1 in Empty over a device and asks for nothing.
  pub enable_begins :
      (v : ℕ) → bit 2 v ≡ true → asks_nothing (hides m) v (bay_at m i) ≡ true → (bay_at m i).control.devstschg_en ≡ false → (bay_at m i).state ≡ 0
      → present (hides m) (bay_at m i) ≡ true → wait_of (does (Write (bcer_own m i) v) m) i ≡ wait_time m
  unfolding wait_after wait_written_by
  enable_begins v on none off z p =
      wait_after_lem (Write (bcer_own m i) v) m i ∙ rw (eq-eqb (bcer_own m i) (bcer_own m i) refl) (chosen o _ _)
      ∙ begun (hides m) none_hidden none p
      ∙ ticks_first m e byte
    where
      begun :
          (h : Bool) → h ≡ false → asks_nothing h v (bay_at m i) ≡ true → present h (bay_at m i) ≡ true
          → wait_written_by h v (setting_of m) (bay_at m i) ≡ (setting_of m).wait_ticks
      begun false r n q = rw (on, n, q, eq-eqb (bay_at m i).state 0 z, off, above_0)
      begun true r n q = absurd (true≢false r)

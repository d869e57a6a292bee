-- A bay after each act is what the table says, in every machine, and so are the shared registers after a write: by cases on the act and,
-- for a write, on the address. This is the one place that goes through the addresses for their sake. Assumes nothing.
use Prim.Native.Nat.{ℕ, ◌/◌, ◌%◌}
use mathlib.Core.Path.{◌≡◌, refl, sym, subst}
use mathlib.Core.Bool.{Bool, true, false, not, cond, ◌&&◌, ◌||◌, and-true, and-false, and-eq-true_iff}
use lib.Dec.{eqb}
use borrow.Author.Tests.{eqb-true}
use Rattle.bay.specs.declared.Bay.{Bay}
use Rattle.bay.specs.Record.{empty_bay, reset_bay}
use Rattle.bay.specs.Debounce.{sampled_bay}
use Rattle.bay.specs.Moves.{ticked_bay}
use Rattle.bay.specs.Registers.{bstr_written, control_of, controlled_bay, unlocked_bay}
use Rattle.bay.proofs.Taut.{pick}
use Rattle.machine.specs.Record.{bay0, bay1, bay_at, bay_in, placed, open_by, is_open, with_bay}
use Rattle.machine.specs.Setting.{hides, setting_of}
use Rattle.machine.specs.Registers.{dbccr_to, dbccr_stored, dbccr_write, bstr_write, bcer_write, count_written}
use Rattle.machine.specs.FirstKind.{letr_write, wait_write, first_writes, first_written, letr_to, wait_to}
use Rattle.machine.specs.InForce.{written}
use Rattle.machine.specs.Acts.{lock_after_reset, reset_to, sampled_at, ticked_at, pins_to, tick_to, does, name_to, reset_as}
use Rattle.machine.specs.After.{bstr_address, bcer_address, closes, own_levels, bay_written, bay_after, shared_written, unlocks, bcer_own, bstr_own}
use Rattle.machine.specs.declared.Machine.{Machine}
use Rattle.machine.specs.declared.Act.{Act}
use Rattle.machine.specs.declared.Act.TheVariants.{Write, Read, Pins, Tick, Reset, Name}
use Rattle.machine.proofs.Addresses.{in_first, in_second}
use Rattle.kind.specs.declared.Kind.TheVariants.{First, Second}
use Rattle.kind.specs.declared.Kind.{Kind}
use mathlib.Core.List.{[], ◌∷◌}
use Rattle.machine.specs.SecondKind.{form_factor_write, second_writes, second_written, sfr_write, subsystem_write, with_second}
use Rattle.second.specs.Once.{after_sfr_write}
use Rattle.machine.specs.declared.Shared.{Shared}

-- ---- a write

module _ (a v : ℕ) (m : Machine) where
  abbrev controlled : Bay → Bay
  controlled b = controlled_bay (hides m) (control_of v) (setting_of m) b

  -- Of a machine that a table leads to: its first bay is the one that was, or its second.
  abbrev FirstKept : Machine → Type 0
  FirstKept n = bay0 n.bays ≡ bay0 m.bays

  abbrev SecondKept : Machine → Type 0
  SecondKept n = bay1 n.bays ≡ bay1 m.bays

  -- What is written for bay 1 while it is open, and what DBCCR stores.
  chooses : (x : Bay) (t : Bool) → bay1 (cond t (with_bay 1 x m) m).bays ≡ cond t x (bay1 m.bays)
  unfolding placed
  chooses x true = refl
  chooses x false = refl

  stored : (t : Bool) → bay1 (cond t m (dbccr_stored v m)).bays ≡ cond (eqb (count_written m.kind v) 1 && not t) empty_bay (bay1 m.bays)
  unfolding dbccr_stored bay_in
  stored true = rw and-false
  stored false = rw and-true

  -- The first kind: bay 0, which is always open, and bay 1.
  abbrev first_to : ℕ → ℕ → Bay
  first_to bcer bstr = cond (eqb a bcer) (controlled (bay0 m.bays)) (cond (eqb a bstr) (bstr_written v (bay0 m.bays)) (bay0 m.bays))

  abbrev second_to : ℕ → ℕ → Bay → Bay
  second_to bcer bstr other =
      cond (eqb a bcer && is_open m 1) (controlled (bay1 m.bays))
      (cond (eqb a bstr && is_open m 1) (bstr_written v (bay1 m.bays))
      (cond (eqb a 0x0C && eqb (count_written m.kind v) 1 && not m.shared.dbccr_written) empty_bay other))

  first_kind_0 : bay0 (first_written a v m).bays ≡ first_to 0x14 0x10
  unfolding first_written first_writes dbccr_write dbccr_stored letr_write wait_write bstr_write bcer_write open_by placed bay_in
  first_kind_0 =
      pick P (eqb a 0x0C) (λ e. rw (eqb-true a 0x0C e) (pick FirstKept m.shared.dbccr_written (λ _. refl) (λ _. refl)))
      (λ _. pick P (eqb a 0x10) (λ e. rw (eqb-true a 0x10 e))
      (λ n. pick P (eqb a 0x14) (λ e. rw e)
      (λ o. pick P (eqb a 0x18) (λ _. rw (n, o) (pick FirstKept (is_open m 1) (λ _. refl) (λ _. refl)))
      (λ _. pick P (eqb a 0x1C) (λ _. rw (n, o) (pick FirstKept (is_open m 1) (λ _. refl) (λ _. refl)))
      (λ _. pick P (eqb a 0x40) (λ _. rw (n, o)) (λ _. pick P (eqb a 0x42) (λ _. rw (n, o)) (λ _. rw (n, o))))))))
    where
      P : Machine → Type 0
      P n = bay0 n.bays ≡ first_to 0x14 0x10

  first_kind_1 : bay1 (first_written a v m).bays ≡ second_to 0x1C 0x18 (bay1 m.bays)
  unfolding first_written first_writes dbccr_write letr_write wait_write bstr_write bcer_write open_by placed bay_in
  first_kind_1 =
      pick P (eqb a 0x0C) (λ e. rw (eqb-true a 0x0C e) (stored m.shared.dbccr_written))
      (λ d. pick P (eqb a 0x10) (λ e. rw (eqb-true a 0x10 e))
      (λ _. pick P (eqb a 0x14) (λ e. rw (eqb-true a 0x14 e))
      (λ _. pick P (eqb a 0x18) (λ e. rw (eqb-true a 0x18 e) (chooses (bstr_written v (bay1 m.bays)) (is_open m 1)))
      (λ n. pick P (eqb a 0x1C) (λ e. rw (eqb-true a 0x1C e) (chooses (controlled (bay1 m.bays)) (is_open m 1)))
      (λ o. pick P (eqb a 0x40) (λ _. rw (d, n, o)) (λ _. pick P (eqb a 0x42) (λ _. rw (d, n, o)) (λ _. rw (d, n, o))))))))
    where
      P : Machine → Type 0
      P n = bay1 n.bays ≡ second_to 0x1C 0x18 (bay1 m.bays)

  -- The second kind: the first write of SFR opens the lock.
  abbrev opened : Bay → Bay
  opened b = cond (eqb a 0xFC && not m.second.sfr_written) (unlocked_bay b) b

  second_kind_0 :
      bay0 (second_written a v m).bays
      ≡ cond (eqb a 0x10) (controlled (bay0 m.bays)) (cond (eqb a 0x14) (bstr_written v (bay0 m.bays)) (opened (bay0 m.bays)))
  unfolding second_written second_writes dbccr_write dbccr_stored bstr_write bcer_write subsystem_write form_factor_write sfr_write open_by placed bay_in
  second_kind_0 =
      pick P (eqb a 0x08) (λ e. rw (eqb-true a 0x08 e))
      (λ _. pick P (eqb a 0x09) (λ e. rw (eqb-true a 0x09 e))
      (λ _. pick P (eqb a 0x0A) (λ e. rw (eqb-true a 0x0A e))
      (λ _. pick P (eqb a 0x0B) (λ e. rw (eqb-true a 0x0B e))
      (λ _. pick P (eqb a 0x0C) (λ e. rw (eqb-true a 0x0C e) (pick FirstKept m.shared.dbccr_written (λ _. refl) (λ _. refl)))
      (λ _. pick P (eqb a 0x10) (λ e. rw (eqb-true a 0x10 e))
      (λ n. pick P (eqb a 0x14) (λ e. rw (eqb-true a 0x14 e))
      (λ o. pick P (eqb a 0x15) (λ e. rw (eqb-true a 0x15 e))
      (λ _. pick P (eqb a 0x18) (λ e. rw (eqb-true a 0x18 e) (pick FirstKept (is_open m 1) (λ _. refl) (λ _. refl)))
      (λ _. pick P (eqb a 0x20) (λ e. rw (eqb-true a 0x20 e) (pick FirstKept (is_open m 1) (λ _. refl) (λ _. refl)))
      (λ _. pick P (eqb a 0x21) (λ e. rw (eqb-true a 0x21 e) (pick FirstKept (is_open m 1) (λ _. refl) (λ _. refl)))
      (λ _. pick P (eqb a 0xFC) (λ e. rw (eqb-true a 0xFC e) (unlocked m.second.sfr_written)) (λ p. rw (n, o, p)))))))))))))
    where
      P : Machine → Type 0
      P n = bay0 n.bays ≡ cond (eqb a 0x10) (controlled (bay0 m.bays)) (cond (eqb a 0x14) (bstr_written v (bay0 m.bays)) (opened (bay0 m.bays)))

      unlocked :
          (t : Bool)
          → bay0 (cond t m (with_second (after_sfr_write v m.second) (unlocked_bay (bay0 m.bays) ∷ unlocked_bay (bay1 m.bays) ∷ []) m)).bays
          ≡ cond (not t) (unlocked_bay (bay0 m.bays)) (bay0 m.bays)
      unlocked true = refl
      unlocked false = refl

  second_kind_1 : bay1 (second_written a v m).bays ≡ second_to 0x18 0x20 (opened (bay1 m.bays))
  unfolding second_written second_writes dbccr_write bstr_write bcer_write subsystem_write form_factor_write sfr_write open_by placed bay_in
  second_kind_1 =
      pick P (eqb a 0x08) (λ e. rw (eqb-true a 0x08 e))
      (λ _. pick P (eqb a 0x09) (λ e. rw (eqb-true a 0x09 e))
      (λ _. pick P (eqb a 0x0A) (λ e. rw (eqb-true a 0x0A e))
      (λ _. pick P (eqb a 0x0B) (λ e. rw (eqb-true a 0x0B e))
      (λ _. pick P (eqb a 0x0C) (λ e. rw (eqb-true a 0x0C e) (stored m.shared.dbccr_written))
      (λ d. pick P (eqb a 0x10) (λ e. rw (eqb-true a 0x10 e))
      (λ _. pick P (eqb a 0x14) (λ e. rw (eqb-true a 0x14 e))
      (λ _. pick P (eqb a 0x15) (λ e. rw (eqb-true a 0x15 e))
      (λ _. pick P (eqb a 0x18) (λ e. rw (eqb-true a 0x18 e) (chooses (controlled (bay1 m.bays)) (is_open m 1)))
      (λ n. pick P (eqb a 0x20) (λ e. rw (eqb-true a 0x20 e) (chooses (bstr_written v (bay1 m.bays)) (is_open m 1)))
      (λ o. pick P (eqb a 0x21) (λ e. rw (eqb-true a 0x21 e) (pick SecondKept (is_open m 1) (λ _. refl) (λ _. refl)))
      (λ _. pick P (eqb a 0xFC) (λ e. rw (eqb-true a 0xFC e) (unlocked m.second.sfr_written)) (λ p. rw (d, n, o, p)))))))))))))
    where
      P : Machine → Type 0
      P n = bay1 n.bays ≡ second_to 0x18 0x20 (opened (bay1 m.bays))

      unlocked :
          (t : Bool)
          → bay1 (cond t m (with_second (after_sfr_write v m.second) (unlocked_bay (bay0 m.bays) ∷ unlocked_bay (bay1 m.bays) ∷ []) m)).bays
          ≡ cond (not t) (unlocked_bay (bay1 m.bays)) (bay1 m.bays)
      unlocked true = refl
      unlocked false = refl

  pub written_bay : (i : ℕ) → bay_at (written a v m) i ≡ bay_written m i a v
  unfolding bay_written bay_in open_by bstr_address bcer_address
  written_bay i = by_kind m.kind refl (eqb i 0) refl
    where
      by_kind : (k : Kind) → m.kind ≡ k → (z : Bool) → eqb i 0 ≡ z → bay_at (written a v m) i ≡ bay_written m i a v
      by_kind First e true z = rw (in_first a v m e, e, z, and-true (eqb a 0x14), and-true (eqb a 0x10), and-false) (rw e at first_kind_0)
      by_kind First e false z = rw (in_first a v m e, e, z, and-true (eqb a 0x0C && eqb (count_written First v) 1 && not m.shared.dbccr_written)) (rw e at first_kind_1)
      by_kind Second e true z = rw (in_second a v m e, e, z, and-true (eqb a 0x10), and-true (eqb a 0x14), and-false) (rw e at second_kind_0)
      by_kind Second e false z = rw (in_second a v m e, e, z, and-true (eqb a 0x0C && eqb (count_written Second v) 1 && not m.shared.dbccr_written)) (rw e at second_kind_1)

  -- What holds of a bay after a write of its BCER, of its BSTR, after its closing, after its lock was opened and after any other write, holds
  -- of it after a write. Where it is its BCER or BSTR, the write doesn't close it, nor is it the other of the two.
  pub of_write :
      (P : Bay → Type 0) (i : ℕ) → (a ≡ bcer_own m i → is_open m i ≡ true → P (controlled (bay_at m i)))
      → (a ≡ bstr_own m i → is_open m i ≡ true → P (bstr_written v (bay_at m i)))
      → ((eqb a (bcer_own m i) && is_open m i) ≡ false → (eqb a (bstr_own m i) && is_open m i) ≡ false → closes m i a v ≡ true → P empty_bay)
      → ((eqb a (bcer_own m i) && is_open m i) ≡ false → (eqb a (bstr_own m i) && is_open m i) ≡ false → closes m i a v ≡ false → unlocks m a ≡ true → P (unlocked_bay (bay_at m i)))
      → ((eqb a (bcer_own m i) && is_open m i) ≡ false → (eqb a (bstr_own m i) && is_open m i) ≡ false → closes m i a v ≡ false → unlocks m a ≡ false → P (bay_at m i))
      → P (bay_at (written a v m) i)
  unfolding bay_written
  of_write P i c t e u n =
      subst P (sym (written_bay i))
      (pick P (eqb a (bcer_own m i) && is_open m i) (λ h. let both = (and-eq-true_iff _ _).0 h in c (eqb-true a (bcer_own m i) both.0) both.1)
      (λ k. pick P (eqb a (bstr_own m i) && is_open m i) (λ h. let both = (and-eq-true_iff _ _).0 h in t (eqb-true a (bstr_own m i) both.0) both.1)
      (λ l. pick P (closes m i a v) (e k l) (λ d. pick P (unlocks m a) (u k l d) (n k l d)))))

-- ---- the shared registers

module _ (a v : ℕ) (m : Machine) where
  abbrev SharedKept : Machine → Type 0
  SharedKept n = n.shared ≡ m.shared

  -- What DBCCR stores, and what a write to a bay leaves.
  dbccr_stores : (t : Bool) → (cond t m (dbccr_stored v m)).shared ≡ cond (not t) (dbccr_to m.kind v m.shared) m.shared
  unfolding dbccr_stored
  dbccr_stores true = refl
  dbccr_stores false = refl

  bstr_keeps : (i : ℕ) → SharedKept (bstr_write i v m)
  unfolding bstr_write
  bstr_keeps i = pick SharedKept (is_open m i) (λ _. refl) (λ _. refl)

  bcer_keeps : (i : ℕ) → SharedKept (bcer_write i v m)
  unfolding bcer_write
  bcer_keeps i = pick SharedKept (is_open m i) (λ _. refl) (λ _. refl)

  abbrev dbccr_first : Shared → Shared
  dbccr_first other = cond (eqb a 0x0C && not m.shared.dbccr_written) (dbccr_to m.kind v m.shared) other

  first_kind_shared :
      (first_written a v m).shared ≡ dbccr_first (cond (eqb a 0x40) (letr_to v m.shared) (cond (eqb a 0x42) (wait_to v m.shared) m.shared))
  unfolding first_written first_writes dbccr_write letr_write wait_write
  first_kind_shared =
      pick P (eqb a 0x0C) (λ e. rw (eqb-true a 0x0C e) (dbccr_stores m.shared.dbccr_written))
      (λ d. pick P (eqb a 0x10) (λ e. rw (eqb-true a 0x10 e) (bstr_keeps 0))
      (λ _. pick P (eqb a 0x14) (λ e. rw (eqb-true a 0x14 e) (bcer_keeps 0))
      (λ _. pick P (eqb a 0x18) (λ e. rw (eqb-true a 0x18 e) (bstr_keeps 1))
      (λ _. pick P (eqb a 0x1C) (λ e. rw (eqb-true a 0x1C e) (bcer_keeps 1))
      (λ _. pick P (eqb a 0x40) (λ e. rw (d, e)) (λ n. pick P (eqb a 0x42) (λ e. rw (d, n, e)) (λ o. rw (d, n, o))))))))
    where
      P : Machine → Type 0
      P n = n.shared ≡ dbccr_first (cond (eqb a 0x40) (letr_to v m.shared) (cond (eqb a 0x42) (wait_to v m.shared) m.shared))

  second_kind_shared : (second_written a v m).shared ≡ dbccr_first m.shared
  unfolding second_written second_writes dbccr_write subsystem_write form_factor_write sfr_write
  second_kind_shared = go (eqb a 0x0C) refl
    where
      go : (t : Bool) → eqb a 0x0C ≡ t → (second_written a v m).shared ≡ cond (t && not m.shared.dbccr_written) (dbccr_to m.kind v m.shared) m.shared
      go true e = rw (eqb-true a 0x0C e) (dbccr_stores m.shared.dbccr_written)
      go false e =
          rw e
          (pick SharedKept (eqb a 0x08) (λ _. refl)
          (λ _. pick SharedKept (eqb a 0x09) (λ _. refl)
          (λ _. pick SharedKept (eqb a 0x0A) (λ _. refl)
          (λ _. pick SharedKept (eqb a 0x0B) (λ _. refl)
          (λ _. pick SharedKept (eqb a 0x10) (λ _. bcer_keeps 0)
          (λ _. pick SharedKept (eqb a 0x14) (λ _. bstr_keeps 0)
          (λ _. pick SharedKept (eqb a 0x15) (λ _. pick SharedKept (is_open m 0) (λ _. refl) (λ _. refl))
          (λ _. pick SharedKept (eqb a 0x18) (λ _. bcer_keeps 1)
          (λ _. pick SharedKept (eqb a 0x20) (λ _. bstr_keeps 1)
          (λ _. pick SharedKept (eqb a 0x21) (λ _. pick SharedKept (is_open m 1) (λ _. refl) (λ _. refl))
          (λ _. pick SharedKept (eqb a 0xFC) (λ _. pick SharedKept m.second.sfr_written (λ _. refl) (λ _. refl)) (λ _. refl))))))))))))

  pub written_shared : (written a v m).shared ≡ shared_written m a v
  unfolding shared_written
  written_shared = by_kind m.kind refl
    where
      by_kind : (k : Kind) → m.kind ≡ k → (written a v m).shared ≡ shared_written m a v
      by_kind First e = rw (in_first a v m e, e) (rw e at first_kind_shared)
      by_kind Second e = rw (in_second a v m e, e) (rw e at second_kind_shared)

-- The addresses of a kind that its laws go by are different.
pub record Three (k : Kind) (i : ℕ) : Type 0 where
  pub bcer_bstr : eqb (bcer_address k i) (bstr_address k i) ≡ false
  pub bstr_bcer : eqb (bstr_address k i) (bcer_address k i) ≡ false
  pub bcer_dbccr : eqb (bcer_address k i) 0x0C ≡ false
  pub bstr_dbccr : eqb (bstr_address k i) 0x0C ≡ false
  pub bcer_sfr : eqb (bcer_address k i) 0xFC ≡ false
  pub bstr_sfr : eqb (bstr_address k i) 0xFC ≡ false

pub three : (k : Kind) (i : ℕ) → Three k i
unfolding bcer_address bstr_address
three First i = go (eqb i 0) refl
  where
    go : (z : Bool) → eqb i 0 ≡ z → Three First i
    go true e = record { bcer_bstr = rw e; bstr_bcer = rw e; bcer_dbccr = rw e; bstr_dbccr = rw e; bcer_sfr = rw e; bstr_sfr = rw e }
    go false e = record { bcer_bstr = rw e; bstr_bcer = rw e; bcer_dbccr = rw e; bstr_dbccr = rw e; bcer_sfr = rw e; bstr_sfr = rw e }
three Second i = go (eqb i 0) refl
  where
    go : (z : Bool) → eqb i 0 ≡ z → Three Second i
    go true e = record { bcer_bstr = rw e; bstr_bcer = rw e; bcer_dbccr = rw e; bstr_dbccr = rw e; bcer_sfr = rw e; bstr_sfr = rw e }
    go false e = record { bcer_bstr = rw e; bstr_bcer = rw e; bcer_dbccr = rw e; bstr_dbccr = rw e; bcer_sfr = rw e; bstr_sfr = rw e }

-- ---- every act

-- A TICK and PINS pass a closed bay by; of PINS and RESET a bay takes its own levels.
tick_bay : (m : Machine) (i : ℕ) → bay_at (tick_to m) i ≡ cond (is_open m i) (ticked_bay (hides m) (setting_of m) (bay_at m i)) (bay_at m i)
unfolding tick_to ticked_at bay_in open_by
tick_bay m i = go (eqb i 0)
  where
    go :
        (z : Bool)
        → cond z (ticked_at m 0) (ticked_at m 1)
        ≡ cond (z || is_open m 1) (ticked_bay (hides m) (setting_of m) (cond z (bay_at m 0) (bay_at m 1))) (cond z (bay_at m 0) (bay_at m 1))
    go true = refl
    go false = refl

pins_bay : (levels : ℕ) (m : Machine) (i : ℕ) → bay_at (pins_to levels m) i ≡ cond (is_open m i) (sampled_bay (own_levels i levels) (bay_at m i)) (bay_at m i)
unfolding pins_to sampled_at bay_in open_by
pins_bay levels m i = go (eqb i 0)
  where
    go :
        (z : Bool)
        → cond z (sampled_at m 0 (levels / 16)) (sampled_at m 1 (levels % 16))
        ≡ cond (z || is_open m 1) (sampled_bay (cond z (levels / 16) (levels % 16)) (cond z (bay_at m 0) (bay_at m 1))) (cond z (bay_at m 0) (bay_at m 1))
    go true = refl
    go false = refl

reset_bay_lem :
    (straps levels : ℕ) (short : Bool) (m : Machine) (i : ℕ)
    → bay_at (reset_to straps levels short m) i ≡ reset_bay (own_levels i levels) (lock_after_reset m.named straps)
unfolding reset_as bay_in
reset_bay_lem straps levels short m i = go (eqb i 0)
  where
    go :
        (z : Bool)
        → cond z (reset_bay (levels / 16) (lock_after_reset m.named straps)) (reset_bay (levels % 16) (lock_after_reset m.named straps))
        ≡ reset_bay (cond z (levels / 16) (levels % 16)) (lock_after_reset m.named straps)
    go true = refl
    go false = refl

pub bay_after_lem : (a : Act) (m : Machine) (i : ℕ) → bay_at (does a m) i ≡ bay_after m i a
unfolding does bay_after name_to
bay_after_lem (Write a v) m i = written_bay a v m i
bay_after_lem (Read a) m i = refl
bay_after_lem (Pins levels) m i = pins_bay levels m i
bay_after_lem Tick m i = tick_bay m i
bay_after_lem (Reset straps levels short) m i = reset_bay_lem straps levels short m i
bay_after_lem (Name k) m i = refl

-- So what holds of the bays that a RESET and a closing make, and of what each rule makes of this bay, holds of it after any act.
pub record EachRule (P : Bay → Type 0) (m : Machine) (b : Bay) : Type 0 where
  pub by_reset : (levels : ℕ) (lock : Bool) → P (reset_bay levels lock)
  pub by_closing : P empty_bay
  pub by_pins : (levels : ℕ) → P (sampled_bay levels b)
  pub by_tick : P (ticked_bay (hides m) (setting_of m) b)
  pub by_bstr : (v : ℕ) → P (bstr_written v b)
  pub by_bcer : (v : ℕ) → P (controlled_bay (hides m) (control_of v) (setting_of m) b)
  pub by_unlocking : P (unlocked_bay b)
  pub untouched : P b

pub after_act : (P : Bay → Type 0) (m : Machine) (i : ℕ) → EachRule P m (bay_at m i) → (a : Act) → P (bay_at (does a m) i)
unfolding does bay_after
after_act P m i r (Write a v) = of_write a v m P i (λ _ _. r.by_bcer v) (λ _ _. r.by_bstr v) (λ _ _ _. r.by_closing) (λ _ _ _ _. r.by_unlocking) (λ _ _ _ _. r.untouched)
after_act P m i r (Read a) = r.untouched
after_act P m i r (Pins levels) = subst P (sym (bay_after_lem (Pins levels) m i)) (pick P (is_open m i) (λ _. r.by_pins _) (λ _. r.untouched))
after_act P m i r Tick = subst P (sym (bay_after_lem Tick m i)) (pick P (is_open m i) (λ _. r.by_tick) (λ _. r.untouched))
after_act P m i r (Reset straps levels short) = subst P (sym (bay_after_lem (Reset straps levels short) m i)) (r.by_reset _ _)
after_act P m i r (Name k) = subst P (sym (bay_after_lem (Name k) m i)) r.untouched

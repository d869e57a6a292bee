-- A fresh machine is sound, a RESET makes a sound one, and each act keeps it so. Assumes nothing.
use Prim.Native.Nat.{ℕ, ◌%◌, ◌≤◌, ◌/◌}
use mathlib.Core.Path.{◌≡◌, refl, sym, ap, ◌∙◌}
use mathlib.Core.Bool.{Bool, true, false, not, cond, ◌&&◌, true≢false, false≢true, and-eq-true_iff}
use lib.Dec.{eqb, ltb}
use Rattle.bits.specs.Straps.{MOST_STRAPS, lock_mode}
use Rattle.bay.specs.declared.Bay.{Bay}
use Rattle.bay.specs.declared.Setting.{Setting}
use Rattle.bay.specs.Record.{empty_bay, reset_bay}
use Rattle.bay.specs.Registers.{control_of, controlled_bay, pulse_written, unlocked_bay}
use Rattle.bay.specs.Sound.{Sound as BaySound}
use Rattle.bay.proofs.Laws.{sampled}
use Rattle.bay.proofs.Named.{bstr_clears, pulse_falls, bay_unlocks}
use Rattle.bay.proofs.Sound.{empty_sound, reset_sound, sampled_sound, ticked_sound, bstr_written_sound, controlled_sound, unlocked_sound}
use Rattle.machine.specs.Record.{bay_at, bay_in, open_by, is_open, fresh_machine, fits}
use Rattle.machine.specs.Setting.{hides, setting_of, first_setting, second_setting}
use Rattle.machine.specs.Registers.{dbccr_to, count_written}
use Rattle.machine.specs.FirstKind.{letr_to, wait_to}
use Rattle.machine.specs.InForce.{written}
use Rattle.machine.specs.Acts.{reset_to, pins_to, tick_to, does, count_after_reset, name_to, reset_as}
use Rattle.machine.specs.After.{bay_after, shared_written, closes, first_kinds, unlocks}
use Rattle.machine.specs.Sound.{Sound}
use Rattle.kind.specs.declared.Kind.TheVariants.{First, Second}
use Rattle.second.specs.Sfr.{pulsed}
use Rattle.machine.specs.Kept.{Kept}
use Rattle.machine.specs.declared.Machine.{Machine}
use Rattle.machine.specs.declared.Shared.{Shared}
use Rattle.machine.specs.declared.Act.{Act}
use Rattle.machine.specs.declared.Act.TheVariants.{Write, Pins, Tick}
use Rattle.machine.proofs.Bays.{each}
use Rattle.machine.proofs.Choice.{passed}
use Rattle.machine.proofs.Addresses.{write_steady}
use Rattle.machine.proofs.After.{bay_after_lem, of_write, written_shared, after_act, three}
use Rattle.machine.proofs.Fit.{fresh_fit, fits_kept, name_fits}
use Rattle.kind.specs.declared.Kind.{Kind}
use Rattle.kind.specs.Kind.{is_second}
use Rattle.machine.proofs.Own.{sfr_kept}

-- ---- each bay, at every act

NoPulse : Bay → Type 0
NoPulse b = b.pulse ≡ 0

no_pulse_reset : (levels : ℕ) (lock : Bool) → (reset_bay levels lock).pulse ≡ 0
unfolding reset_bay
no_pulse_reset levels lock = refl

no_pulse_empty : empty_bay.pulse ≡ 0
unfolding empty_bay
no_pulse_empty = refl

-- Where the lock isn't pulsed a write starts no pulse.
no_pulse_written : (hides : Bool) (v : ℕ) (s : Setting) (b : Bay) → s.pulsed ≡ false → b.pulse ≡ 0 → (controlled_bay hides (control_of v) s b).pulse ≡ 0
unfolding controlled_bay pulse_written
no_pulse_written hides v s b m z = rw m z

-- Each act that leaves the kind in force keeps a bay sound.
bays_sound : (a : Act) (m : Machine) → Sound m → (i : ℕ) → BaySound (hides m) (bay_at (does a m) i)
bays_sound a m h i =
    let sound = h.bays i in
    after_act (BaySound (hides m)) m i
    record {
      by_reset = reset_sound (hides m);
      by_closing = empty_sound (hides m);
      by_pins = λ levels. sampled_sound (hides m) levels (bay_at m i) sound;
      by_tick = ticked_sound (hides m) (setting_of m) (bay_at m i) sound;
      by_bstr = λ v. bstr_written_sound (hides m) v (bay_at m i) sound;
      by_bcer = λ v. controlled_sound (hides m) _ (setting_of m) (bay_at m i) sound;
      by_unlocking = unlocked_sound (hides m) (bay_at m i) sound;
      untouched = sound;
    }
    a

no_pulses : (a : Act) (m : Machine) → Sound m → (setting_of m).pulsed ≡ false → (i : ℕ) → (bay_at (does a m) i).pulse ≡ 0
unfolding NoPulse
no_pulses a m h z i =
    let none = h.pulses z i in
    after_act NoPulse m i
    record {
      by_reset = no_pulse_reset;
      by_closing = no_pulse_empty;
      by_pins = λ levels. (sampled levels (bay_at m i)).pulse_kept ∙ none;
      by_tick = pulse_falls (hides m) (setting_of m) (bay_at m i) ∙ rw none;
      by_bstr = λ v. (bstr_clears v (bay_at m i)).pulse_kept ∙ none;
      by_bcer = λ v. no_pulse_written (hides m) v (setting_of m) (bay_at m i) z none;
      by_unlocking = (bay_unlocks (bay_at m i)).no_pulse;
      untouched = none;
    }
    a

empty_unlocked : unlocked_bay empty_bay ≡ empty_bay
unfolding empty_bay unlocked_bay
empty_unlocked = refl

-- ---- acts

-- Both kinds start with both bays open.
starts_open : (k : Kind) → open_by (count_after_reset k) 1 ≡ true
unfolding open_by count_after_reset
starts_open First = refl
starts_open Second = refl

reset_keeps : (straps levels : ℕ) (short : Bool) (m : Machine) → straps ≤ MOST_STRAPS → fits m ≡ true → Sound (reset_to straps levels short m)
unfolding reset_as open_by NoPulse
reset_keeps straps levels short m l f =
    record {
      fit = fits_kept.by_reset straps levels short m l f;
      bays = each (BaySound (hides (reset_to straps levels short m))) (reset_to straps levels short m).bays (reset_sound _ _ _) (reset_sound _ _ _);
      closed = λ o. absurd (true≢false (sym (starts_open m.named) ∙ o));
      pulses = λ z. each NoPulse (reset_to straps levels short m).bays (no_pulse_reset _ _) (no_pulse_reset _ _);
      untouched = λ n. absurd (true≢false n);
    }

-- A closed bay is passed by.
pins_keeps : (levels : ℕ) (m : Machine) → m.started ≡ true → Sound m → Sound (pins_to levels m)
unfolding does pins_to bay_after hides setting_of first_setting second_setting
pins_keeps levels m t h =
    record {
      fit = fits_kept.by_pins levels m t h.fit;
      bays = bays_sound (Pins levels) m h;
      closed = λ o. bay_after_lem (Pins levels) m 1 ∙ passed o _ _ ∙ h.closed o;
      pulses = no_pulses (Pins levels) m h;
      untouched = λ f. absurd (true≢false (sym t ∙ f));
    }

tick_keeps : (m : Machine) → m.started ≡ true → Sound m → Sound (tick_to m)
unfolding does tick_to bay_after hides setting_of first_setting second_setting
tick_keeps m t h =
    record {
      fit = fits_kept.by_tick m t h.fit;
      bays = bays_sound Tick m h;
      closed = λ o. bay_after_lem Tick m 1 ∙ passed o _ _ ∙ h.closed o;
      pulses = no_pulses Tick m h;
      untouched = λ f. absurd (true≢false (sym t ∙ f));
    }

-- A name alters nothing that is told of here.
pub name_sound : (k : Kind) (m : Machine) → Sound m → Sound (name_to k m)
unfolding name_to hides setting_of first_setting second_setting
name_sound k m h =
    record {
      fit = name_fits k m h.fit;
      bays = h.bays;
      closed = h.closed;
      pulses = h.pulses;
      untouched = λ f. ap (name_to k) (h.untouched f);
    }

-- The write that closes bay 1 empties it, and none writes to it while it is closed.
closed_kept : (a v : ℕ) (m : Machine) → Sound m → is_open (written a v m) 1 ≡ false → bay_at (written a v m) 1 ≡ empty_bay
unfolding open_by shared_written
closed_kept a v m h o =
    of_write a v m (λ b. b ≡ empty_bay) 1 (λ e p. absurd (true≢false (sym p ∙ elsewhere (ap (λ x. eqb x 0x0C) e ∙ (three m.kind 1).bcer_dbccr))))
    (λ e p. absurd (true≢false (sym p ∙ elsewhere (ap (λ x. eqb x 0x0C) e ∙ (three m.kind 1).bstr_dbccr))))
    (λ _ _ _. refl) (λ _ _ n u. ap unlocked_bay (h.closed (before n)) ∙ empty_unlocked) (λ _ _ n u. h.closed (before n))
  where
    still : not (eqb (shared_written m a v).bay_count 1) ≡ false
    still = ap (λ (r : Shared). not (eqb r.bay_count 1)) (sym (written_shared a v m)) ∙ o

    -- A first write of DBCCR that doesn't close it stores another count, and every other write keeps the count.
    left_open : (p c w : Bool) → (p && c && w && true) ≡ false → (p && w) ≡ true → c ≡ false
    left_open true true true k q = absurd (true≢false k)
    left_open true true false k q = absurd (false≢true q)
    left_open true false w k q = refl
    left_open false c w k q = absurd (false≢true q)

    rest : (p q : Bool) → not (eqb (cond p (letr_to v m.shared) (cond q (wait_to v m.shared) m.shared)).bay_count 1) ≡ false → is_open m 1 ≡ false
    rest true q s = s
    rest false true s = s
    rest false false s = s

    kept :
        (g : Bool)
        → not (eqb (cond g (dbccr_to m.kind v m.shared) (cond (first_kinds m 0x40 a) (letr_to v m.shared) (cond (first_kinds m 0x42 a) (wait_to v m.shared) m.shared))).bay_count 1) ≡ false
        → (g ≡ true → eqb (count_written m.kind v) 1 ≡ false) → is_open m 1 ≡ false
    kept true s n = absurd (true≢false (rw (n refl) at s))
    kept false s n = rest (first_kinds m 0x40 a) (first_kinds m 0x42 a) s

    before : closes m 1 a v ≡ false → is_open m 1 ≡ false
    before n = kept (eqb a 0x0C && not m.shared.dbccr_written) still (left_open (eqb a 0x0C) (eqb (count_written m.kind v) 1) (not m.shared.dbccr_written) n)

    elsewhere : eqb a 0x0C ≡ false → is_open m 1 ≡ false
    elsewhere n = kept (eqb a 0x0C && not m.shared.dbccr_written) still (λ g. absurd (true≢false (sym ((and-eq-true_iff (eqb a 0x0C) _).0 g).0 ∙ n)))

-- Whether the lock is pulsed stays, but by the first write of SFR, which leaves no pulse.
pulsed_kept : (a v : ℕ) (m : Machine) → unlocks m a ≡ false → (setting_of (written a v m)).pulsed ≡ (setting_of m).pulsed
unfolding setting_of first_setting second_setting pulsed
pulsed_kept a v m n = rw (write_steady a v m).kind (go (is_second m.kind))
  where
    go :
        (t : Bool)
        → (cond t (second_setting (written a v m)) (first_setting (written a v m))).pulsed ≡ (cond t (second_setting m) (first_setting m)).pulsed
    go true = ap (λ x. ltb 0 (x / 2 % 16)) (sfr_kept a v m n)
    go false = ap lock_mode (write_steady a v m).straps

pulses_kept : (a v : ℕ) (m : Machine) → Sound m → (setting_of (written a v m)).pulsed ≡ false → (i : ℕ) → (bay_at (written a v m) i).pulse ≡ 0
unfolding does NoPulse
pulses_kept a v m h z i = go (unlocks m a) refl
  where
    is_sfr : unlocks m a ≡ true → eqb a 0xFC ≡ true
    is_sfr u = ((and-eq-true_iff (is_second m.kind) (eqb a 0xFC)).0 ((and-eq-true_iff (is_second m.kind && eqb a 0xFC) _).0 u).0).1

    go : (t : Bool) → unlocks m a ≡ t → (bay_at (written a v m) i).pulse ≡ 0
    go true u =
        of_write a v m NoPulse i (λ e o. absurd (true≢false (sym (is_sfr u) ∙ ap (λ x. eqb x 0xFC) e ∙ (three m.kind i).bcer_sfr)))
        (λ e o. absurd (true≢false (sym (is_sfr u) ∙ ap (λ x. eqb x 0xFC) e ∙ (three m.kind i).bstr_sfr)))
        (λ _ _ _. no_pulse_empty) (λ _ _ _ _. (bay_unlocks (bay_at m i)).no_pulse) (λ _ _ _ n. absurd (true≢false (sym u ∙ n)))
    go false u = no_pulses (Write a v) m h (sym (pulsed_kept a v m u) ∙ z) i

write_keeps : (a v : ℕ) (m : Machine) → m.started ≡ true → Sound m → Sound (written a v m)
unfolding does hides
write_keeps a v m t h =
    record {
      fit = fits_kept.by_write a v m t h.fit;
      bays = λ i. rw (write_steady a v m).kind (bays_sound (Write a v) m h i);
      closed = closed_kept a v m h;
      pulses = pulses_kept a v m h;
      untouched = λ f. absurd (true≢false (sym ((write_steady a v m).started ∙ t) ∙ f));
    }

-- ---- a fresh machine, and all acts

pub fresh_sound : Sound fresh_machine
unfolding fresh_machine bay_in open_by NoPulse name_to
fresh_sound =
    record {
      fit = fresh_fit;
      bays = each (BaySound (hides fresh_machine)) fresh_machine.bays (empty_sound (hides fresh_machine)) (empty_sound (hides fresh_machine));
      closed = λ o. absurd (true≢false o);
      pulses = λ z. each NoPulse fresh_machine.bays no_pulse_empty no_pulse_empty;
      untouched = λ f. refl;
    }

pub sound_kept : Kept Sound
sound_kept = record { by_reset = reset_keeps; by_write = write_keeps; by_pins = pins_keeps; by_tick = tick_keeps; by_name = name_sound }

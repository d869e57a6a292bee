-- A wait keeps its promise over acts, in every sound machine: what acts are to the bay is what the bay's own promise is about. Assumes
-- nothing.
use Prim.Native.Nat.{ℕ, suc, ◌-◌, ◌/◌, ◌%◌, ◌<◌}
use native.Mathlib.Omega.{arith}
use mathlib.Core.Path.{◌≡◌, refl, sym, ap, ◌∙◌}
use mathlib.Core.Bool.{Bool, true, false, not, ◌&&◌, and-eq-true_iff, and-true, and-false, or-true, true≢false, ◌||◌}
use mathlib.Core.List.{List, [], ◌∷◌}
use lib.Dec.{eqb}
use borrow.Author.Tests.{eq-eqb, not-true, not-false}
use Rattle.bits.specs.Bits.{bit}
use Rattle.bay.specs.declared.Bay.{Bay}
use Rattle.bay.specs.Record.{contact, present, empty_bay, reset_bay}
use Rattle.bay.specs.Moves.{ticked_bay}
use Rattle.bay.specs.Registers.{control_of, asks, controlled_bay}
use Rattle.bay.specs.Table.{asks_nothing}
use Rattle.bay.specs.Happens.{Happens, tick, bcer, happens, happens_all}
use Rattle.bay.specs.Waits.{breaks, unbroken, ticks_of, Seating, Seated, Broken, Waits, Unseen}
use Rattle.bay.proofs.Taut.{pick, neither}
use Rattle.bay.proofs.Waits.{asks_by, unbroken_more, ticks_more, waits}
use Rattle.machine.specs.Record.{bay1, bay_at, bay_in, open_by, is_open}
use Rattle.machine.specs.Setting.{hides, setting_of}
use Rattle.machine.specs.Acts.{does, does_all}
use Rattle.machine.specs.After.{closes, bay_after, bcer_own, bstr_own, unlocks}
use Rattle.machine.specs.Happens.{happens_at, happened, remakes, remade}
use Rattle.machine.specs.Sound.{Sound}
use Rattle.machine.specs.Wait.{wait_of}
use Rattle.machine.specs.Seats.{clears_or_asks, ends_wait, undisturbed, one_tick, ticks_in, Over, BrokenOff, Seats}
use Rattle.machine.specs.declared.Machine.{Machine}
use Rattle.machine.specs.declared.Act.{Act}
use Rattle.machine.specs.declared.Act.TheVariants.{Write, Read, Pins, Tick, Reset, Name}
use Rattle.machine.proofs.After.{bay_after_lem, of_write, three}
use Rattle.machine.proofs.Moves.{moves}
use Rattle.machine.proofs.Happens.{act_happens, act_open, bay_run, open_run, act_kind, kind_run}

-- A bay in which a wait runs is open: the record of a closed one is empty.
waits_open : (m : Machine) → Sound m → (i : ℕ) → 0 < wait_of m i → is_open m i ≡ true
unfolding open_by bay_in empty_bay
waits_open m h i l = go (eqb i 0) refl
  where
    second : (o : Bool) → is_open m 1 ≡ o → 0 < (bay1 m.bays).wait → o ≡ true
    second true q k = refl
    second false q k = absurd (omega (arith, k, ap (λ (b : Bay). b.wait) (h.closed q)))

    go : (z : Bool) → eqb i 0 ≡ z → is_open m i ≡ true
    go true e = rw e
    go false e = rw e (second (is_open m 1) refl (rw (wait_of, e) at l))

-- What makes another bay of it ends its wait, whether or not one runs.
closing_ends : (m : Machine) (i v : ℕ) → closes m i 0x0C v ≡ true → Over 0 (bay_at (does (Write 0x0C v) m) i)
unfolding does empty_bay
closing_ends m i v c =
    of_write 0x0C v m (Over 0) i
    (λ e o. absurd (true≢false (sym (eq-eqb (bcer_own m i) 0x0C (sym e)) ∙ (three m.kind i).bcer_dbccr)))
    (λ e o. absurd (true≢false (sym (eq-eqb (bstr_own m i) 0x0C (sym e)) ∙ (three m.kind i).bstr_dbccr)))
    (λ k l d. record { none = refl; stands = refl })
    (λ k l d u. absurd (true≢false (sym c ∙ d)))
    (λ k l d u. absurd (true≢false (sym c ∙ d)))

reset_ends : (m : Machine) (i straps levels : ℕ) (short : Bool) → Over 0 (bay_at (does (Reset straps levels short) m) i)
unfolding bay_after reset_bay
reset_ends m i straps levels short = rw (bay_after_lem (Reset straps levels short) m i) (record { none = refl; stands = refl })

-- ---- acts that end no wait

-- To an open bay each leaves the bay the one that it is, nothing happens by it that breaks a wait off, and it is a TICK where it is one.
act_kept : (a : Act) (m : Machine) (i : ℕ) → ends_wait m i a ≡ false → remakes m i a ≡ false
unfolding ends_wait remakes
act_kept (Write a v) m i e = (neither (not (hides m) && eqb a (bcer_own m i) && clears_or_asks m i v) (closes m i a v) e).1
act_kept (Read a) m i e = refl
act_kept (Pins levels) m i e = refl
act_kept Tick m i e = refl
act_kept (Reset straps levels short) m i e = e
act_kept (Name k) m i e = refl

act_whole : (a : Act) (m : Machine) (i : ℕ) → is_open m i ≡ true → ends_wait m i a ≡ false → unbroken (hides m) (happens_at m i a) (bay_at m i) ≡ true
unfolding ends_wait happens_at unbroken breaks control_of
act_whole (Write a v) m i o e =
    pick P (eqb a (bcer_own m i) && is_open m i)
    (λ h.
    let own = ((and-eq-true_iff (eqb a (bcer_own m i)) (is_open m i)).0 h).0 in
    let neither-of-both = rw (own, and-true (not (hides m))) at (neither (not (hides m) && eqb a (bcer_own m i) && clears_or_asks m i v) (closes m i a v) e).0 in
    rw (asks_by (hides m) v (bay_at m i), neither-of-both))
    (λ _. pick P (eqb a (bstr_own m i) && is_open m i) (λ _. refl) (λ _. pick P (unlocks m a) (λ _. refl) (λ _. refl)))
  where
    P : List Happens → Type 0
    P xs = unbroken (hides m) xs (bay_at m i) ≡ true
act_whole (Read a) m i o e = refl
act_whole (Pins levels) m i o e = rw o
act_whole Tick m i o e =
    let there = rw ((moves m i).tick o) at (not-false (contact (bay_at (does Tick m) i)) e) in
    rw (o, there, and-false)
act_whole (Reset straps levels short) m i o e = refl
act_whole (Name k) m i o e = refl

act_ticks : (a : Act) (m : Machine) (i : ℕ) → is_open m i ≡ true → ticks_of (happens_at m i a) ≡ one_tick a
unfolding happens_at
act_ticks (Write a v) m i o =
    pick P (eqb a (bcer_own m i) && is_open m i) (λ _. refl)
    (λ _. pick P (eqb a (bstr_own m i) && is_open m i) (λ _. refl) (λ _. pick P (unlocks m a) (λ _. refl) (λ _. refl)))
  where
    P : List Happens → Type 0
    P xs = ticks_of xs ≡ 0
act_ticks (Read a) m i o = refl
act_ticks (Pins levels) m i o = rw o
act_ticks Tick m i o = rw o
act_ticks (Reset straps levels short) m i o = refl
act_ticks (Name k) m i o = refl

-- So a list of them.
record Quiet (m : Machine) (i : ℕ) (acts : List Act) : Type 0 where
  kept : remade m i acts ≡ false
  whole : unbroken (hides m) (happened m i acts) (bay_at m i) ≡ true
  ticks : ticks_of (happened m i acts) ≡ ticks_in acts

quiet : (acts : List Act) (m : Machine) (i : ℕ) → is_open m i ≡ true → undisturbed m i acts ≡ true → Quiet m i acts
unfolding undisturbed remade happened unbroken
quiet [] m i o u = record { kept = refl; whole = refl; ticks = refl }
quiet (a ∷ acts) m i o u =
    let both = (and-eq-true_iff (not (ends_wait m i a)) (undisturbed (does a m) i acts)).0 u in
    let on = not-true (ends_wait m i a) both.0 in
    let k = act_kept a m i on in
    let more = quiet acts (does a m) i (act_open a m i o k) both.1 in
    record {
      kept = rw (k, more.kept);
      whole = unbroken_more (hides m) (happens_at m i a) (happened (does a m) i acts) (bay_at m i) ∙ rw (act_whole a m i o on, ← act_happens a m i k, ← act_kind a m i k, more.whole);
      ticks = ticks_more (happens_at m i a) (happened (does a m) i acts) ∙ rw (act_ticks a m i o, more.ticks);
    }

-- ---- the promise

-- Bay i of m, in which a wait runs, after acts: what has happened to it by them.
module _ (m : Machine) (sound : Sound m) (i : ℕ) (runs : 0 < wait_of m i) (acts : List Act) (u : undisturbed m i acts ≡ true) where
  abbrev now : Machine
  now = does_all acts m

  abbrev by_then : Bay
  by_then = happens_all (hides m) (happened m i acts) (bay_at m i)

  run : Quiet m i acts
  run = quiet acts m i (waits_open m sound i runs) u

  same : bay_at now i ≡ by_then
  same = bay_run acts m i run.kept

  still_open : is_open now i ≡ true
  still_open = open_run acts m i (waits_open m sound i runs) run.kept

  kept_kind : hides now ≡ hides m
  kept_kind = kind_run acts m i run.kept

  ticks_so : bay_at (does Tick now) i ≡ ticked_bay (hides m) (setting_of now) (bay_at now i)
  ticks_so = rw kept_kind at ((moves now i).tick still_open)

  writes_so : (v : ℕ) → bay_at (does (Write (bcer_own now i) v) now) i ≡ controlled_bay (hides m) (control_of v) (setting_of now) (bay_at now i)
  writes_so v = rw kept_kind at ((moves now i).bcer v still_open)

  promise : Waits (hides m) (wait_of m i) (bay_at m i)
  promise = waits (hides m) (bay_at m i) (sound.bays i) runs

  goes_on : ticks_in acts < wait_of m i → Seating (hides m) (wait_of m i - ticks_in acts) (bay_at now i)
  goes_on l = rw (same, ← run.ticks) (promise.goes_on (happened m i acts) run.whole (rw run.ticks l))

  ends : suc (ticks_in acts) ≡ wait_of m i → contact (bay_at (does Tick now) i) ≡ true → Seated (hides m) (bay_at now i) (bay_at (does Tick now) i)
  ends k p =
      let there = rw (ticks_so, same) at p in
      rw (ticks_so, same) (promise.ends (happened m i acts) (setting_of now) run.whole (rw run.ticks k) (rw there (and-false (contact by_then))))

  -- What breaks it off in any of its ticks.
  module _ (l : ticks_in acts < wait_of m i) where
    touches : contact by_then ≡ true
    touches = (promise.goes_on (happened m i acts) run.whole (rw run.ticks l)).touches

    device : present (hides m) by_then ≡ not (hides m)
    device = (promise.goes_on (happened m i acts) run.whole (rw run.ticks l)).device

    off : (x : Happens) → breaks (hides m) x by_then ≡ true → Broken (hides m) x by_then (happens (hides m) x by_then)
    off x q = promise.broken (happened m i acts) x run.whole (rw run.ticks l) q

    gone : contact (bay_at (does Tick now) i) ≡ false → Broken (hides m) (tick (setting_of now)) (bay_at now i) (bay_at (does Tick now) i)
    unfolding breaks happens
    gone p =
        let left = rw (ticks_so, same) at p in
        rw (ticks_so, same) (off (tick (setting_of now)) (rw (touches, left)))

    removal : contact (bay_at (does Tick now) i) ≡ false → Over 0 (bay_at (does Tick now) i)
    removal p = record { none = (gone p).over; stands = (gone p).unmoved }

    unseen : hides now ≡ true → contact (bay_at (does Tick now) i) ≡ false → Unseen (bay_at now i) (bay_at (does Tick now) i)
    unseen h p = (gone p).unseen (sym kept_kind ∙ h)

    -- A write of BCER, where the device isn't hidden.
    module _ (shows : hides now ≡ false) (v : ℕ) where
      not_hidden : hides m ≡ false
      not_hidden = sym kept_kind ∙ shows

      asks_so : asks (control_of v) ≡ not (asks_nothing (hides now) v (bay_at now i))
      asks_so =
          sym (and-true (asks (control_of v))) ∙ ap (λ d. asks (control_of v) && d) (sym (device ∙ ap not not_hidden)) ∙ asks_by (hides m) v by_then
          ∙ rw (kept_kind, same)

      written : (not (bit 2 v) || asks (control_of v) && present (hides m) by_then) ≡ true → Broken (hides m) (bcer (control_of v) (setting_of now)) (bay_at now i) (bay_at (does (Write (bcer_own now i) v) now) i)
      unfolding breaks happens control_of
      written b = rw (writes_so v, same) (off (bcer (control_of v) (setting_of now)) ((and-eq-true_iff (not (hides m)) _).1 (ap not not_hidden, b)))

      cleared : bit 2 v ≡ false → asks_nothing (hides now) v (bay_at now i) ≡ true → Over 0 (bay_at (does (Write (bcer_own now i) v) now) i)
      cleared z n = let broken = written (rw z) in record { none = broken.over; stands = broken.unmoved ∙ rw (asks_so, n) }

      asked : asks_nothing (hides now) v (bay_at now i) ≡ false → Over (v / 16 % 8) (bay_at (does (Write (bcer_own now i) v) now) i)
      unfolding control_of
      asked n =
          let broken = written (rw (asks_so, n, device, not_hidden) (or-true (not (bit 2 v)))) in
          record { none = broken.over; stands = broken.unmoved ∙ rw (asks_so, n) }

    broken_off : BrokenOff now i
    broken_off = record { removal = removal; unseen = unseen; cleared = cleared; asked = asked; closed = closing_ends now i; reset = reset_ends now i }

pub seats : (m : Machine) → Sound m → (i : ℕ) → 0 < wait_of m i → Seats (wait_of m i) m i
seats m h i l = record { goes_on = goes_on m h i l; ends = ends m h i l; broken = broken_off m h i l }

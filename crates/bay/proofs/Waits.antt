-- A wait keeps its promise, in every sound bay, and what becomes of a wait in every bay. By cases on what happens, and by induction on a
-- list of it. Assumes nothing.
use Prim.Native.Nat.{ℕ, ◌+◌, ◌-◌, ◌/◌, ◌%◌, ◌<◌}
use native.Mathlib.Omega.{arith}
use mathlib.Core.Path.{◌≡◌, refl, sym, ap, ◌∙◌}
use mathlib.Core.Bool.{Bool, true, false, not, cond, ◌&&◌, ◌||◌, beq, and-eq-true_iff, and_assoc, and-true, and-false, or-true, or-false, false≢true}
use mathlib.Core.List.{List, [], ◌∷◌, ◌++◌}
use lib.Dec.{eqb, ltb, leb}
use borrow.Author.Tests.{lt-ltb, not-true, not-false}
use Rattle.bits.specs.Bits.{bit}
use Rattle.bay.specs.Record.{contact, present}
use Rattle.bay.specs.Moves.{begun, in_use, ticked_bay}
use Rattle.bay.specs.Registers.{control_of, asks, finds, state_written, wait_written, controlled_bay}
use Rattle.bay.specs.Outputs.{green, yellow}
use Rattle.bay.specs.Table.{asks_nothing}
use Rattle.bay.specs.Sound.{Sound}
use Rattle.bay.specs.Happens.{Happens, tick, pins, bstr, bcer, unlock, happens, happens_all}
use Rattle.bay.specs.Waits.{wait_written_by, lost, breaks, unbroken, one_tick, ticks_of, shown_changes, Seating, Seated, asked_by, Unseen, Broken, Waits}
use Rattle.bay.specs.declared.Bay.{Bay}
use Rattle.bay.specs.declared.Control.{Control}
use Rattle.bay.specs.declared.Setting.{Setting}
use Rattle.bay.proofs.Taut.{below_taut, same}
use Rattle.bay.proofs.Laws.{tick_keeps_control, stayed, wait_falls, present_means, pressed_sets, change_told, sampled}
use Rattle.bay.proofs.Named.{bstr_clears, bay_unlocks}
use Rattle.bay.proofs.Press.{press_over_nothing, empty_without_device, none_above_0, no_wait_without_contact, no_device_without_contact, begun_from_0, coming_changes, coming}
use Rattle.bay.proofs.Sound.{sampled_sound, ticked_sound, bstr_written_sound, controlled_sound, unlocked_sound}

-- ---- in every bay: by a write; what a TICK makes of it is `wait_ticked_lem` of Laws

-- Asking for a state over a device, by the bits of the byte.
pub asks_by : (hides : Bool) (v : ℕ) (b : Bay) → (asks (control_of v) && present hides b) ≡ not (asks_nothing hides v b)
unfolding asks control_of
asks_by hides v b =
    same _ _
    (below_taut 8 1
    (λ r d. beq (ltb 0 r && leb r 4 && d) (not (not (d && eqb r 1) && not (d && eqb r 2) && not (d && eqb r 3) && not (d && eqb r 4))))
    refl (v / 16 % 8) (omega arith) (present hides b))

pub wait_written_lem : (hides : Bool) (v : ℕ) (s : Setting) (b : Bay) → (controlled_bay hides (control_of v) s b).wait ≡ wait_written_by hides v s b
unfolding wait_written_by controlled_bay wait_written finds begun control_of
wait_written_lem true v s b = refl
wait_written_lem false v s b = rw (asks_by false v b) (go (bit 2 v) _ (not b.control.devstschg_en) (eqb b.state 0) (present false b) (eqb s.wait_ticks 0))
  where
    picks : (found z : Bool) (m n : ℕ) → cond found (cond z n m) n ≡ cond (found && not z) m n
    picks true true m n = refl
    picks true false m n = refl
    picks false z m n = refl

    go :
        (m x off e d z : Bool)
        → cond (not m || x) 0 (cond (m && off && e && d) (cond z b.wait s.wait_ticks) b.wait)
        ≡ cond (not m || x) 0 (cond (off && e && d && not z) s.wait_ticks b.wait)
    go true true off e d z = refl
    go true false off e d z = picks (off && e && d) z s.wait_ticks b.wait
    go false x off e d z = refl

-- ---- one that begins

-- DEVSTSCHG_EN from 0 to 1 in Empty over a device, with no state asked for: the bay is Inserted if the device was hidden before or needn't
-- wait, and else it seats.
pub record Found (hides : Bool) (s : Setting) (after : Bay) : Type 0 where
  pub moved : after.state ≡ cond (hides || eqb s.wait_ticks 0) 1 0
  pub waits : after.wait ≡ cond hides 0 s.wait_ticks

pub found :
    (hides : Bool) (c : Control) (s : Setting) (b : Bay) → Sound hides b → present hides b ≡ true → b.state ≡ 0
    → b.control.devstschg_en ≡ false → c.devstschg_en ≡ true → asks c ≡ false → Found hides s (controlled_bay hides c s b)
unfolding controlled_bay state_written wait_written finds in_use
found hides c s b h p e off on none =
    record {
      moved = rw (p, none, on, off, e, and-false);
      waits = rw (p, none, on, off, e) (go hides p h.seating);
    }
  where
    go :
        (t : Bool) → present t b ≡ true → (0 < b.wait → (b.state ≡ 0) × (contact b ≡ true) × (t ≡ false → b.control.devstschg_en ≡ true))
        → cond t b.wait (begun s.wait_ticks b.wait) ≡ cond t 0 s.wait_ticks
    go true d f = ((present_means true b).0 d).1 refl
    go false d f =
        ap (λ n. begun s.wait_ticks n) (none_above_0 b.wait (λ l. false≢true (sym off ∙ (f l).2 refl))) ∙ begun_from_0 s.wait_ticks

-- ---- one that runs

happens_sound : (hides : Bool) (x : Happens) (b : Bay) → Sound hides b → Sound hides (happens hides x b)
unfolding happens
happens_sound hides (tick s) b h = ticked_sound hides s b h
happens_sound hides (pins levels) b h = sampled_sound hides levels b h
happens_sound hides (bstr v) b h = bstr_written_sound hides v b h
happens_sound hides (bcer c s) b h = controlled_sound hides c s b h
happens_sound hides unlock b h = unlocked_sound hides b h

all_sound : (hides : Bool) (xs : List Happens) (b : Bay) → Sound hides b → Sound hides (happens_all hides xs b)
unfolding happens_all
all_sound hides [] b h = h
all_sound hides (x ∷ xs) b h = all_sound hides xs (happens hides x b) (happens_sound hides x b h)

-- Contact that isn't lost is there afterwards.
stays_there : (hides : Bool) (s : Setting) (b : Bay) → contact b ≡ true → lost hides s b ≡ false → contact (ticked_bay hides s b) ≡ true
stays_there hides s b p g = not-false (contact (ticked_bay hides s b)) (sym (ap (λ t. t && not (contact (ticked_bay hides s b))) p) ∙ g)

-- A write that breaks nothing off leaves a wait that runs ..
written_on :
    (hides : Bool) (c : Control) (s : Setting) (b : Bay) → (hides ≡ false → b.control.devstschg_en ≡ true) → breaks hides (bcer c s) b ≡ false
    → (controlled_bay hides c s b).wait ≡ b.wait
unfolding breaks controlled_bay wait_written finds
written_on true c s b e q = refl
written_on false c s b e q = rw (q, e refl, and-false)

-- .. and one that does, of a device that isn't hidden, ends it: the bay goes where it is asked to, and else stays Empty.
written_off :
    (c : Control) (s : Setting) (b : Bay) → (b.state ≡ 0) × (contact b ≡ true) × (b.control.devstschg_en ≡ true)
    → breaks false (bcer c s) b ≡ true → ((controlled_bay false c s b).wait ≡ 0) × ((controlled_bay false c s b).state ≡ asked_by (bcer c s))
unfolding breaks controlled_bay wait_written state_written finds in_use present
written_off c s b h q = (rw q, rw (h.1, h.2, h.0, and-true (asks c), and-false c.devstschg_en, and-false))

-- What doesn't break it off leaves it, but that a TICK takes one off it.
one_less :
    (hides : Bool) (x : Happens) (b : Bay) → Sound hides b → 0 < b.wait → breaks hides x b ≡ false → (happens hides x b).wait ≡ b.wait - one_tick x
unfolding happens breaks
one_less hides (tick s) b h l q = let touch = (h.seating l).1 in wait_falls hides s b touch (stays_there hides s b touch q)
one_less hides (pins levels) b h l q = (sampled levels b).wait_kept ∙ omega arith
one_less hides (bstr v) b h l q = (bstr_clears v b).wait_kept ∙ omega arith
one_less hides (bcer c s) b h l q = written_on hides c s b (h.seating l).2 q ∙ omega arith
one_less hides unlock b h l q = (bay_unlocks b).wait_kept ∙ omega arith

-- It runs as it did.
seating : (hides : Bool) (n : ℕ) (b : Bay) → Sound hides b → b.wait ≡ n → 0 < n → Seating hides n b
unfolding green yellow present
seating hides n b h e l =
    let three = h.seating (omega (arith, e)) in
    let on = lt-ltb 0 b.wait (omega (arith, e)) in
    record {
      left = e;
      empty = three.0;
      touches = three.1;
      device = rw (on, three.1) (simp and-true);
      enable = three.2;
      lamps = λ lit. (rw (on, ap (λ n. eqb n 2) three.0, ap (λ n. eqb n 0) three.0, ap (λ n. eqb n 1) three.0, and-true hides, and-true hides, or-false), rw (ap (λ n. eqb n 3) three.0));
    }

runs_on :
    (hides : Bool) (xs : List Happens) (b : Bay) (n : ℕ) → Sound hides b → b.wait ≡ n → unbroken hides xs b ≡ true → ticks_of xs < n
    → (happens_all hides xs b).wait ≡ n - ticks_of xs
unfolding happens_all unbroken
runs_on hides [] b n h e u l = e ∙ omega arith
runs_on hides (x ∷ xs) b n h e u l =
    let both = (and-eq-true_iff (not (breaks hides x b)) (unbroken hides xs (happens hides x b))).0 u in
    let less = one_less hides x b h (omega (arith, e)) (not-true (breaks hides x b) both.0) in
    runs_on hides xs (happens hides x b) (n - one_tick x) (happens_sound hides x b h) (less ∙ ap (λ m. m - one_tick x) e) both.1 (omega arith) ∙ omega arith

-- Two lists of what happens, one after the other.
pub unbroken_more :
    (hides : Bool) (xs ys : List Happens) (b : Bay) → unbroken hides (xs ++ ys) b ≡ (unbroken hides xs b && unbroken hides ys (happens_all hides xs b))
unfolding unbroken happens_all
unbroken_more hides [] ys b = refl
unbroken_more hides (x ∷ xs) ys b =
    rw (unbroken_more hides xs ys (happens hides x b)) (sym (and_assoc (not (breaks hides x b)) (unbroken hides xs (happens hides x b)) _))

pub ticks_more : (xs ys : List Happens) → ticks_of (xs ++ ys) ≡ ticks_of xs + ticks_of ys
ticks_more [] ys = omega arith
ticks_more (x ∷ xs) ys = rw (ticks_more xs ys) (omega arith)

-- A device that a wait hides is not there while it runs.
unseen_yet : (b : Bay) → 0 < b.wait → present true b ≡ false
unfolding present
unseen_yet b l = rw (lt-ltb 0 b.wait l)

-- The last tick.
last : (hides : Bool) (s : Setting) (b : Bay) → Sound hides b → b.wait ≡ 1 → lost hides s b ≡ false → Seated hides b (ticked_bay hides s b)
last true s b h e g =
    let touch = (h.seating (omega (arith, e))).1 in
    let still = stays_there true s b touch g in
    let over = wait_falls true s b touch still ∙ ap (λ n. n - 1) e in
    let absent = unseen_yet b (omega (arith, e)) in
    let device = (present_means true (ticked_bay true s b)).1 (still, λ _. over) in
    let told : (ticked_bay true s b).devstschg ≡ (b.devstschg || shown_changes true b (ticked_bay true s b)) = change_told true s b ∙ rw (absent, and-false, and-true) in
    record {
      device = device;
      inserted = coming true s b h absent device ∙ rw (and-true b.control.devstschg_en);
      over = over;
      pressed = pressed_sets true s b;
      told = told;
      unhidden = λ _. told ∙ rw (coming_changes true b (ticked_bay true s b) absent, device) (or-true b.devstschg);
    }
last false s b h e g =
    let touch = (h.seating (omega (arith, e))).1 in
    let still = stays_there false s b touch g in
    let here = (present_means false b).1 (touch, λ q. absurd (false≢true q)) in
    let device = (present_means false (ticked_bay false s b)).1 (still, λ q. absurd (false≢true q)) in
    record {
      device = device;
      inserted = (stayed false s b (device ∙ sym here)).state_kept ∙ rw (ap (λ n. eqb n 1) e);
      over = wait_falls false s b touch still ∙ ap (λ n. n - 1) e;
      pressed = pressed_sets false s b;
      told = change_told false s b ∙ rw (device, and-false, and-false, and-true);
      unhidden = λ q. absurd (false≢true q);
    }

-- A hidden device that is gone again.
unseen : (s : Setting) (b : Bay) → 0 < b.wait → contact (ticked_bay true s b) ≡ false → Unseen b (ticked_bay true s b)
unseen s b l q =
    let absent = unseen_yet b l in
    let none = no_device_without_contact true (ticked_bay true s b) q in
    record {
      flags_kept = ((press_over_nothing true s b none).remreq_kept, change_told true s b ∙ rw (coming_changes true b (ticked_bay true s b) absent, none) (or-false b.devstschg));
      control_kept = tick_keeps_control true s b (λ p. absurd (false≢true (sym absent ∙ p)));
      nothing_shows = (absent, none);
    }

unseen_if : (hides : Bool) (s : Setting) (b : Bay) → 0 < b.wait → contact (ticked_bay hides s b) ≡ false → hides ≡ true → Unseen b (ticked_bay hides s b)
unseen_if true s b l q e = unseen s b l q
unseen_if false s b l q e = absurd (false≢true e)

-- What breaks it off.
breaks_off : (hides : Bool) (x : Happens) (b : Bay) → Sound hides b → 0 < b.wait → breaks hides x b ≡ true → Broken hides x b (happens hides x b)
unfolding happens breaks
breaks_off hides (tick s) b h l q =
    let gone = not-true (contact (ticked_bay hides s b)) ((and-eq-true_iff (contact b) (not (contact (ticked_bay hides s b)))).0 q).1 in
    let sound = ticked_sound hides s b h in
    record {
      over = no_wait_without_contact hides (ticked_bay hides s b) sound gone;
      unmoved = empty_without_device hides (ticked_bay hides s b) sound (no_device_without_contact hides (ticked_bay hides s b) gone);
      unseen = unseen_if hides s b l gone;
    }
breaks_off hides (pins levels) b h l q = absurd (false≢true q)
breaks_off hides (bstr v) b h l q = absurd (false≢true q)
breaks_off true (bcer c s) b h l q = absurd (false≢true q)
breaks_off false (bcer c s) b h l q =
    let three = h.seating l in
    let off = written_off c s b (three.0, three.1, three.2 refl) q in
    record { over = off.0; unmoved = off.1; unseen = λ e. absurd (false≢true e) }
breaks_off hides unlock b h l q = absurd (false≢true q)

-- ---- the promise

pub waits : (hides : Bool) (b : Bay) → Sound hides b → 0 < b.wait → Waits hides b.wait b
waits hides b h l =
    record {
      goes_on = λ xs u k. seating hides (b.wait - ticks_of xs) (happens_all hides xs b) (all_sound hides xs b h) (runs_on hides xs b b.wait h refl u k) (omega arith);
      ends = λ xs s u k g. last hides s (happens_all hides xs b) (all_sound hides xs b h) (runs_on hides xs b b.wait h refl u (omega arith) ∙ omega arith) g;
      broken = λ xs x u k q. let run = runs_on hides xs b b.wait h refl u k in breaks_off hides x (happens_all hides xs b) (all_sound hides xs b h) (omega (arith, run)) q;
    }

-- A sound bay stays sound, whatever happens to it, and RESET makes one. Held, waiting and seating speak of five Bools only (whether a wait
-- hides the device, contact, Empty, DEVSTSCHG_EN, a wait), and powered of three (PWR_CTL, LOCK_CTL, a device), so that each step is a
-- tautology over the tests that it makes. Assumes nothing.
use Prim.Native.Nat.{ℕ, zero, suc, ◌+◌, ◌-◌, ◌<◌}
use native.Mathlib.Omega.{arith}
use mathlib.Core.Path.{◌≡◌, refl, sym, ◌∙◌}
use mathlib.Core.Logic.{◌≢◌, ◌⊎◌, inl, inr}
use mathlib.Core.Bool.{Bool, true, false, not, cond, ◌&&◌, ◌||◌, and-eq-true_iff, and-false, or-true, true≢false, false≢true}
use mathlib.Core.List.{[], ◌∷◌}
use lib.ListN.{get_or}
use lib.Dec.{eqb, ltb, leb}
use borrow.Author.Tests.{eq-eqb, ne_eqb, eqb-true, eqb-false, lt-ltb, ltb-true, not-true}
use Rattle.bay.specs.Record.{N1394, NUSB, NREMREQ, EMPTY, INSERTED, ENABLED, contact, runs, hidden, present, level, accepted_level, empty_bay, reset_bay, bay_fit, with_status}
use Rattle.bay.specs.Debounce.{debounce, sampled_bay}
use Rattle.bay.specs.Moves.{input, contact_after, heeded, in_use, begun, wait_after, inserts, state_after, moved_to, moved_bay, ticked_bay}
use Rattle.bay.specs.Registers.{bstr_written, asks, finds, state_written, wait_written, controlled_bay, unlocked_bay}
use Rattle.bay.specs.Sound.{Sound}
use Rattle.bay.specs.declared.Bay.{Bay}
use Rattle.bay.specs.declared.Control.{Control}
use Rattle.bay.specs.declared.Setting.{Setting}
use Rattle.bay.proofs.OneStep.{restart_same}
use Rattle.bay.proofs.Laws.{write_keeps_presence}
use Rattle.bay.proofs.Taut.{implies, suppose, apply, taut}

-- ---- held, waiting and seating, as a test

-- A device that a wait doesn't hide.
abbrev device : Bool → Bool → Bool → Bool
device h k wait = not (h && wait) && k

-- Of whether a wait hides it, contact, Empty, DEVSTSCHG_EN and a wait.
abbrev placed : Bool → Bool → Bool → Bool → Bool → Bool
placed h k empty en wait =
    implies (not empty) (device h k wait) && implies (device h k wait && empty) (not en || wait) && implies wait (empty && k && (h || en))

abbrev empty : ℕ → Bool
empty n = eqb n EMPTY

record Placed (h k : Bool) (n : ℕ) (en : Bool) (wait : ℕ) : Type 0 where
  held : n ≢ EMPTY → device h k (runs wait) ≡ true
  waiting : device h k (runs wait) ≡ true → n ≡ EMPTY → (en ≡ false) ⊎ (0 < wait)
  seating : 0 < wait → (n ≡ EMPTY) × (k ≡ true) × (h ≡ false → en ≡ true)

test : (h k : Bool) (n : ℕ) (en : Bool) (wait : ℕ) → Placed h k n en wait → placed h k (empty n) en (runs wait) ≡ true
test h k n en wait p =
    (and-eq-true_iff _ _).1 (
      (and-eq-true_iff _ _).1 (
        suppose _ _ (λ o. p.held (eqb-false n EMPTY (not-true _ o))),
        suppose _ _ (λ d. let both = (and-eq-true_iff (device h k (runs wait)) (empty n)).0 d in either (p.waiting both.0 (eqb-true n EMPTY both.1))),
      ),
      suppose _ _ (λ w. let three = p.seating (ltb-true 0 wait w) in rw (three.0, three.1) (enabled h three.2)),
    )
  where
    either : (en ≡ false) ⊎ (0 < wait) → (not en || runs wait) ≡ true
    either (inl e) = rw e
    either (inr l) = rw (lt-ltb 0 wait l) (or-true (not en))

    enabled : (h : Bool) → (h ≡ false → en ≡ true) → (h || en) ≡ true
    enabled true f = refl
    enabled false f = f refl

meant : (h k : Bool) (n : ℕ) (en : Bool) (wait : ℕ) → placed h k (empty n) en (runs wait) ≡ true → Placed h k n en wait
meant h k n en wait t =
    let two = (and-eq-true_iff (implies (not (empty n)) (device h k (runs wait)) && implies (device h k (runs wait) && empty n) (not en || runs wait)) (implies (runs wait) (empty n && k && (h || en)))).0 t in
    let both = (and-eq-true_iff (implies (not (empty n)) (device h k (runs wait))) (implies (device h k (runs wait) && empty n) (not en || runs wait))).0 two.0 in
    record {
      held = λ o. apply (not (empty n)) _ both.0 (rw (ne_eqb n EMPTY o));
      waiting = λ d e. either en refl (apply (device h k (runs wait) && empty n) _ both.1 ((and-eq-true_iff (device h k (runs wait)) (empty n)).1 (d, eq-eqb n EMPTY e)));
      seating = λ l. three (apply (runs wait) _ two.1 (lt-ltb 0 wait l));
    }
  where
    either : (t : Bool) → en ≡ t → (not en || runs wait) ≡ true → (en ≡ false) ⊎ (0 < wait)
    either true e o = inr (ltb-true 0 wait (rw e at o))
    either false e o = inl e

    three : (empty n && k && (h || en)) ≡ true → (n ≡ EMPTY) × (k ≡ true) × (h ≡ false → en ≡ true)
    three o =
        let last = (and-eq-true_iff (empty n && k) (h || en)).0 o in
        let first = (and-eq-true_iff (empty n) k).0 last.0 in
        (eqb-true n EMPTY first.0, first.1, λ e. rw e at last.1)

-- A test that Empty doesn't pass rules Empty out.
rules_out : (f : ℕ → Bool) (s : ℕ) → f EMPTY ≡ false → implies (f s) (not (empty s)) ≡ true
rules_out f s h = go (empty s) refl
  where
    go : (e : Bool) → empty s ≡ e → implies (f s) (not e) ≡ true
    go true e = rw (eqb-true s EMPTY e, h)
    go false e = suppose (f s) true (λ _. refl)

empty_pick : (t : Bool) (m n : ℕ) → empty (cond t m n) ≡ cond t (empty m) (empty n)
empty_pick true m n = refl
empty_pick false m n = refl

-- A wait that is picked, one that falls, and one that begins.
runs_pick : (t : Bool) (m n : ℕ) → runs (cond t m n) ≡ cond t (runs m) (runs n)
runs_pick true m n = refl
runs_pick false m n = refl

runs_fallen : (n : ℕ) → runs (n - 1) ≡ (runs n && not (eqb n 1))
runs_fallen zero = refl
runs_fallen (suc zero) = refl
runs_fallen (suc (suc n)) = rw (lt-ltb 0 (suc (suc n) - 1) (omega arith), lt-ltb 0 (suc (suc n)) (omega arith), ne_eqb (suc (suc n)) 1 (λ e. omega (arith, e)))

runs_begun : (ticks n : ℕ) → runs (begun ticks n) ≡ cond (eqb ticks 0) (runs n) true
unfolding begun
runs_begun zero n = refl
runs_begun (suc ticks) n = rw (ne_eqb (suc ticks) 0 (λ e. omega (arith, e))) (lt-ltb 0 (suc ticks) (omega arith))

in_use_rules_out : (b : Bay) → implies (in_use b) (not (empty b.state)) ≡ true
unfolding in_use
in_use_rules_out b = rules_out (λ s. eqb s INSERTED || eqb s ENABLED) b.state refl

asked_rules_out : (c : Control) → implies (asks c) (not (empty c.request)) ≡ true
unfolding asks
asked_rules_out c = rules_out (λ r. ltb EMPTY r && leb r 4) c.request refl

-- ---- what a TICK and a write do to them

-- A bay as it is placed.
abbrev placed_in : Bool → Bay → Bool
placed_in hides b = placed hides (contact b) (empty b.state) b.control.devstschg_en (runs b.wait)

one_runs : (n : ℕ) → implies (eqb n 1) (runs n) ≡ true
one_runs n = suppose (eqb n 1) (runs n) (λ e. lt-ltb 0 n (omega (arith, eqb-true n 1 e)))

-- Whether a wait runs after a TICK, by whether one did, w, or one of 1, o, and by there being no ticks to wait, z; p and q are contact
-- before and after.
abbrev runs_on : Bool → Bool → Bool → Bool → Bool → Bool → Bool → Bool
runs_on h p q en w o z = cond ((h || p) && not q) false (cond ((not p && q) && cond h (not w) en) (cond z w true) (w && not o))

runs_after :
    (hides : Bool) (ticks : ℕ) (b : Bay) (q : Bool)
    → runs (wait_after hides ticks b q) ≡ runs_on hides (contact b) q b.control.devstschg_en (runs b.wait) (eqb b.wait 1) (eqb ticks 0)
unfolding wait_after
runs_after hides ticks b q = rw (runs_pick, runs_pick, runs_begun, runs_fallen)

-- e is Empty, and x stands for the rest of a press's conditions beside the state in use, u.
placed_ticked :
    (hides : Bool) (ticks : ℕ) (b : Bay) (q press : Bool) → placed_in hides b ≡ true
    → placed hides q (empty (state_after hides ticks b (device hides (contact b) (runs b.wait) && not (device hides q (runs (wait_after hides ticks b q)))) (not (device hides (contact b) (runs b.wait)) && device hides q (runs (wait_after hides ticks b q))) press)) b.control.devstschg_en (runs (wait_after hides ticks b q)) ≡ true
unfolding state_after inserts
placed_ticked hides ticks b q press h =
    rw (empty_pick, empty_pick, empty_pick, runs_after hides ticks b q)
    (apply _ _
    (taut 10
    (λ h p q en x u e w o z.
    let r = runs_on h p q en w o z in
    let was = device h p w in
    let is = device h q r in
    implies (placed h p e en w && implies u (not e) && implies o w)
    (placed h q (cond (was && not is) true (cond (cond (not was && is && en) (h || z) (not h && o)) false (cond (x && u) false e))) en r))
    refl hides (contact b) q b.control.devstschg_en (press && b.control.remreq_en && not b.remreq_sts) (in_use b) (empty b.state)
    (runs b.wait) (eqb b.wait 1) (eqb ticks 0))
    ((and-eq-true_iff _ _).1 ((and-eq-true_iff _ _).1 (h, in_use_rules_out b), one_runs b.wait)))

-- a is that the request is stored, r that it is Empty, and m DEVSTSCHG_EN as written.
placed_written :
    (hides : Bool) (ticks : ℕ) (c : Control) (b : Bay) → placed_in hides b ≡ true
    → placed hides (contact b) (empty (state_written hides ticks c (device hides (contact b) (runs b.wait)) b)) c.devstschg_en (runs (wait_written hides ticks c (device hides (contact b) (runs b.wait)) b)) ≡ true
unfolding state_written wait_written finds
placed_written hides ticks c b h =
    rw (empty_pick, empty_pick, empty_pick, runs_pick, runs_pick, runs_pick, runs_begun)
    (apply _ _
    (taut 11
    (λ h a r k en m x u e w z.
    let p = device h k w in
    implies (placed h k e en w && implies u (not e) && implies a (not r))
    (placed h k (cond (a && p) r (cond (m && not en && e && p && (h || z)) false (cond (x && u) false e))) m
    (cond h w (cond (not m || a && p) false (cond (m && not en && e && p) (cond z w true) w)))))
    refl hides (asks c) (empty c.request) (contact b) b.control.devstschg_en c.devstschg_en
    (c.remreq_en && not b.control.remreq_en && b.remreq_sts) (in_use b) (empty b.state) (runs b.wait) (eqb ticks 0))
    ((and-eq-true_iff _ _).1 ((and-eq-true_iff _ _).1 (h, in_use_rules_out b), asked_rules_out c)))

placed_sound : (hides : Bool) (b : Bay) → Sound hides b → placed_in hides b ≡ true
unfolding present
placed_sound hides b s =
    test hides (contact b) b.state b.control.devstschg_en b.wait (record { held = s.held; waiting = s.waiting; seating = s.seating })

-- ---- powered

-- w is PWR_CTL, k LOCK_CTL, p and q the device before and after.
powered_ticked : (w k p q : Bool) → (w ≡ true → (k ≡ true) × (p ≡ true)) → (w && not (p && not q)) ≡ true → (k ≡ true) × (q ≡ true)
powered_ticked w k p q h t =
    (and-eq-true_iff k q).0
    (apply _ _
    (taut 4 (λ w k p q. implies (implies w (k && p) && (w && not (p && not q))) (k && q)) refl w k p q)
    ((and-eq-true_iff _ _).1 (suppose w (k && p) (λ t. (and-eq-true_iff k p).1 (h t)), t)))

-- ---- still

-- An input whose level differed has accepted it, with a count of 0, or differs still.
settled_or_apart : (l : Bool) (n : ℕ) (t : Bool) → l ≡ cond t l (not l) → cond t 0 n ≡ 0
settled_or_apart l n true e = refl
settled_or_apart true n false e = absurd (true≢false e)
settled_or_apart false n false e = absurd (false≢true e)

still_debounced : (length : ℕ) (l a : Bool) (n : ℕ) → (l ≡ a → n ≡ 0) → l ≡ (debounce length l a n).accepted → (debounce length l a n).count ≡ 0
unfolding debounce
still_debounced length true true n h e = h refl
still_debounced length true false n h e = settled_or_apart true (n + 1) (leb length (n + 1)) e
still_debounced length false true n h e = settled_or_apart false (n + 1) (leb length (n + 1)) e
still_debounced length false false n h e = h refl

-- A bay keeps three counts, and none past them.
of_three :
    (P : ℕ → ℕ → Type 0) {x y z : ℕ} → P 0 x → P 1 y → P 2 z → ((i : ℕ) → P (suc (suc (suc i))) 0) → (i : ℕ) → P i (get_or (x ∷ y ∷ z ∷ []) i 0)
of_three P p0 p1 p2 past zero = p0
of_three P p0 p1 p2 past (suc zero) = p1
of_three P p0 p1 p2 past (suc (suc zero)) = p2
of_three P p0 p1 p2 past (suc (suc (suc i))) = past i

-- ---- the bays that RESET and each event make

pub reset_sound : (hides : Bool) (levels : ℕ) (lock : Bool) → Sound hides (reset_bay levels lock)
unfolding reset_bay present
reset_sound hides levels lock =
    record {
      powered = λ w. absurd (false≢true w);
      held = λ n. absurd (n refl);
      waiting = λ d e. inl refl;
      seating = λ l. absurd (omega (arith, l));
      still = λ i _. of_three (λ i n. n ≡ 0) refl refl refl (λ i. refl) i;
    }

-- An empty bay is one that RESET makes of levels 1.
pub empty_sound : (hides : Bool) → Sound hides empty_bay
unfolding empty_bay reset_bay
empty_sound hides = reset_sound hides 15 false

pub sampled_sound : (hides : Bool) (levels : ℕ) (b : Bay) → Sound hides b → Sound hides (sampled_bay levels b)
unfolding sampled_bay present contact
sampled_sound hides levels b s =
    record {
      powered = s.powered;
      held = s.held;
      waiting = s.waiting;
      seating = s.seating;
      still =
          of_three (λ i n. level (sampled_bay levels b) i ≡ accepted_level b i → n ≡ 0) (restart_same _ _ _) (restart_same _ _ _)
          (restart_same _ _ _) (λ i e. refl);
    }

pub ticked_sound : (hides : Bool) (g : Setting) (b : Bay) → Sound hides b → Sound hides (ticked_bay hides g b)
unfolding ticked_bay moved_bay moved_to present contact
ticked_sound hides g b s =
    let q = contact_after (input b N1394) (input b NUSB) in
    let place =
    meant hides q (ticked_bay hides g b).state b.control.devstschg_en (ticked_bay hides g b).wait
    (placed_ticked hides g.wait_ticks b q (heeded hides (ticked_bay hides g b).wait (input b N1394) (input b NUSB) (input b NREMREQ)) (placed_sound hides b s))
    in
    record {
      powered = powered_ticked b.control.pwr_ctl b.control.lock_ctl (present hides b) (present hides (ticked_bay hides g b)) s.powered;
      held = place.held;
      waiting = place.waiting;
      seating = place.seating;
      still =
          of_three (λ i n. level b i ≡ accepted_level (ticked_bay hides g b) i → n ≡ 0) (still_debounced _ _ _ _ (s.still N1394))
          (still_debounced _ _ _ _ (s.still NUSB)) (still_debounced _ _ _ _ (s.still NREMREQ)) (λ i e. refl);
    }

pub bstr_written_sound : (hides : Bool) (v : ℕ) (b : Bay) → Sound hides b → Sound hides (bstr_written v b)
unfolding bstr_written present contact
bstr_written_sound hides v b s = record { powered = s.powered; held = s.held; waiting = s.waiting; seating = s.seating; still = s.still }

pub controlled_sound : (hides : Bool) (c : Control) (g : Setting) (b : Bay) → Sound hides b → Sound hides (controlled_bay hides c g b)
unfolding controlled_bay present contact
controlled_sound hides c g b s =
    let place =
    meant hides (contact b) (controlled_bay hides c g b).state c.devstschg_en (controlled_bay hides c g b).wait
    (placed_written hides g.wait_ticks c b (placed_sound hides b s))
    in
    record {
      powered =
          λ w.
          let both = (and-eq-true_iff (c.pwr_ctl && c.lock_ctl) (present hides b)).0 w in
          (((and-eq-true_iff c.pwr_ctl c.lock_ctl).0 both.0).1, write_keeps_presence hides c g b ∙ both.1);
      held = place.held;
      waiting = place.waiting;
      seating = place.seating;
      still = s.still;
    }

-- No power is left over a lock that opens.
pub unlocked_sound : (hides : Bool) (b : Bay) → Sound hides b → Sound hides (unlocked_bay b)
unfolding unlocked_bay present contact
unlocked_sound hides b s =
    record { powered = λ w. absurd (false≢true w); held = s.held; waiting = s.waiting; seating = s.seating; still = s.still }

-- Fitness alone doesn't make a bay sound: this one is fit, and powered with nothing in it.
powered_and_empty : Bay
powered_and_empty = with_status EMPTY false false powered 0 0 empty_bay
  where
    powered : Control
    powered =
        record {
          lock_ctl = true;
          request = 0;
          remreq_en = false;
          devstschg_en = false;
          remevtwak_en = false;
          pwr_ctl = true;
        }

pub sound_is_more_than_fit : (b : Bay) × (bay_fit 0 0 b ≡ true) × ((hides : Bool) → Sound hides b → ⊥)
unfolding powered_and_empty empty_bay bay_fit present contact
sound_is_more_than_fit = (powered_and_empty, refl, λ hides s. false≢true (sym (and-false (not (hidden hides 0))) ∙ (s.powered refl).1))

-- Which of two wins, a press or a device that leaves or arrives, whichever began first. By induction on the ticks: before, in and after
-- the fifth tick of the press and the tenth of the device. Assumes nothing.
use Prim.Native.Nat.{ℕ, zero, suc, ◌+◌, ◌-◌, ◌<◌, ◌≤◌}
use native.Mathlib.Omega.{arith}
use mathlib.Core.Path.{◌≡◌, refl, sym, ap, ◌∙◌}
use mathlib.Core.Logic.{◌⊎◌, inl, inr}
use mathlib.Core.Bool.{Bool, true, false, not, cond, ◌&&◌, ◌||◌, and-true, and-false, or-true, or-false}
use lib.Dec.{eqb, ltb, leb}
use borrow.Author.Tests.{ltb-true, ltb-false, lt-ltb, le-ltb, leb-true, leb-false, le-leb, lt-leb, eqb-true, eqb-false, eq-eqb, ne_eqb}
use Rattle.bay.specs.Record.{N1394, NUSB, level, accepted_level, any_asserted, contact, present}
use Rattle.bay.specs.Debounced.{Line, rest_line, differing}
use Rattle.bay.specs.Moves.{in_use, ticked_bay}
use Rattle.bay.specs.Happens.{line}
use Rattle.bay.specs.Table.{gone, come, seated, press_over, press}
use Rattle.bay.specs.Order.{ticked_for, Pressing, Leaving, Coming, heeds, RemovalAndPress, ArrivalAndPress}
use Rattle.bay.specs.Sound.{Sound}
use Rattle.bay.specs.declared.Bay.{Bay}
use Rattle.bay.specs.declared.Setting.{Setting}
use Rattle.bay.proofs.Taut.{neither}
use Rattle.bay.proofs.Laws.{tick_keeps_control, no_wait_begins, wait_falls}
use Rattle.bay.proofs.Table.{one_move}
use Rattle.bay.proofs.Sound.{ticked_sound}
use Rattle.bay.proofs.Press.{press_over_nothing, empty_without_device, no_wait_without_contact, no_device_without_contact, Arrived, arrival}
use Rattle.bay.proofs.Underway.{itself, not_below, touching_after, press_at, told_after_lem, keeps_state, moves_state, fifth_or_later}

-- ---- a removal and a press

module _ (hides : Bool) (g : Setting) (p r : ℕ) (b : Bay) (leaving : Leaving p b) (pressing : Pressing r b) (seated : b.wait ≡ 0) where
  touches_after : (k : ℕ) → contact (ticked_for hides g k b) ≡ ltb (p + k) 10
  touches_after k =
      touching_after hides g false p b leaving.contacts leaving.short k
      ∙ rw (leaving.there, raised 0 (omega arith), raised 1 (omega arith)) (itself (ltb (p + k) 10))
    where
      up : (i : ℕ) → (line b i ≡ rest_line true) ⊎ (line b i ≡ differing false p) → level b i ≡ true
      up i (inl e) = ap (λ (j : Line). j.level) e
      up i (inr e) = ap (λ (j : Line). j.level) e

      raised : (i : ℕ) → i < 2 → level b i ≡ true
      raised i l = up i (leaving.contacts i l)

  -- No wait runs, and none begins.
  leaving_wait : (k : ℕ) → (ticked_for hides g k b).wait ≡ 0
  unfolding ticked_for
  leaving_wait zero = seated
  leaving_wait (suc k) = no_wait_begins hides g (ticked_for hides g k b) there (leaving_wait k)
    where
      there : contact (ticked_for hides g (suc k) b) ≡ true → contact (ticked_for hides g k b) ≡ true
      there h = touches_after k ∙ lt-ltb (p + k) 10 (omega (arith, ltb-true (p + suc k) 10 (sym (touches_after (suc k)) ∙ h)))

  leaves_after : (k : ℕ) → present hides (ticked_for hides g k b) ≡ ltb (p + k) 10
  unfolding present
  leaves_after k = rw (ap (λ n. ltb 0 n) (leaving_wait k), and-false) (touches_after k)

  leaving_told : (k : ℕ) → (ticked_for hides g k b).remreq_sts ≡ (b.remreq_sts || leb 5 (r + k) && ltb p (r + 5))
  leaving_told = told_after_lem hides g r b pressing (ltb p (r + 5)) (λ k e. leaves_after (suc k) ∙ first k e (ltb p (r + 5)) refl)
    where
      first : (k : ℕ) → r + suc k ≡ 5 → (t : Bool) → ltb p (r + 5) ≡ t → ltb (p + suc k) 10 ≡ t
      first k e true f = lt-ltb (p + suc k) 10 (omega (arith, ltb-true p (r + 5) f))
      first k e false f = le-ltb (p + suc k) 10 (omega (arith, ltb-false p (r + 5) f))

  leaving_control : (k : ℕ) → p + k < 10 → (ticked_for hides g k b).control ≡ b.control
  unfolding ticked_for
  leaving_control zero h = refl
  leaving_control (suc k) h =
      tick_keeps_control hides g (ticked_for hides g k b) (λ _. leaves_after (suc k) ∙ lt-ltb (p + suc k) 10 h) ∙ leaving_control k (omega arith)

  abbrev emptied : ℕ → ℕ
  emptied k = cond (leb 10 (p + k)) 0 (cond (leb 5 (r + k) && heeds b) 3 b.state)

  -- The device has left, in this TICK or before.
  leaving_empty : (k : ℕ) → (ticked_for hides g k b).state ≡ emptied k → 10 ≤ p + suc k → (ticked_for hides g (suc k) b).state ≡ 0
  unfolding ticked_for
  leaving_empty k before h = (press_over_nothing hides g (ticked_for hides g k b) (leaves_after (suc k) ∙ le-ltb (p + suc k) 10 h)).unmoved ∙ gone (ltb (p + k) 10) refl
    where
      gone : (t : Bool) → ltb (p + k) 10 ≡ t → cond (present hides (ticked_for hides g k b)) 0 (cond (not hides && eqb (ticked_for hides g k b).wait 1) 1 (ticked_for hides g k b).state) ≡ 0
      gone true e = rw (leaves_after k, e)
      gone false e = rw (leaves_after k, e, ap (λ n. eqb n 1) (leaving_wait k), and-false) (before ∙ rw (le-leb 10 (p + k) (ltb-false (p + k) 10 e)))

  -- It is still there.
  leaving_stays :
      (k : ℕ) → (ticked_for hides g k b).state ≡ emptied k → p + suc k < 10 → (t : Bool) → eqb (r + suc k) 5 ≡ t
      → (ticked_for hides g (suc k) b).state ≡ cond (leb 5 (r + suc k) && heeds b) 3 b.state
  unfolding in_use
  leaving_stays k before h true e =
      let fifth = eqb-true (r + suc k) 5 e in
      let state : (ticked_for hides g k b).state ≡ b.state = before ∙ rw (lt-leb 10 (p + k) (omega arith), lt-leb 5 (r + k) (omega arith)) in
      let untold : (ticked_for hides g k b).remreq_sts ≡ b.remreq_sts = leaving_told k ∙ rw (lt-leb 5 (r + k) (omega arith)) (or-false b.remreq_sts) in
      moves_state hides g r b pressing k e (leaves_after k ∙ lt-ltb (p + k) 10 (omega arith)) (leaves_after (suc k) ∙ lt-ltb (p + suc k) 10 h)
      ∙ rw (ap (λ n. eqb n 1) (leaving_wait k), and-false, state, untold, leaving_control k (omega arith), le-leb 5 (r + suc k) (omega arith))
  leaving_stays k before h false e =
      keeps_state hides g r b pressing k e (leaves_after (suc k) ∙ lt-ltb (p + suc k) 10 h ∙ sym (leaves_after k ∙ lt-ltb (p + k) 10 (omega arith)))
      ∙ rw (ap (λ n. eqb n 1) (leaving_wait k), and-false) (before ∙ rw (lt-leb 10 (p + k) (omega arith), fifth_or_later r k, e, or-false))

  leaving_next : (k : ℕ) → (ticked_for hides g k b).state ≡ emptied k → (ticked_for hides g (suc k) b).state ≡ emptied (suc k)
  leaving_next k before = go (ltb (p + suc k) 10) refl
    where
      go : (t : Bool) → ltb (p + suc k) 10 ≡ t → (ticked_for hides g (suc k) b).state ≡ emptied (suc k)
      go true e = let h = ltb-true (p + suc k) 10 e in rw (lt-leb 10 (p + suc k) h) (leaving_stays k before h (eqb (r + suc k) 5) refl)
      go false e = let h = ltb-false (p + suc k) 10 e in rw (le-leb 10 (p + suc k) h) (leaving_empty k before h)

  leaving_state : (k : ℕ) → (ticked_for hides g k b).state ≡ emptied k
  unfolding ticked_for
  leaving_state zero = rw (lt-leb 10 (p + 0) (omega (arith, leaving.short)), lt-leb 5 (r + 0) (omega (arith, pressing.short)))
  leaving_state (suc k) = leaving_next k (leaving_state k)

  -- Whichever began first.
  pub removal_and_press : (k : ℕ) → RemovalAndPress hides p r k b (ticked_for hides g k b)
  removal_and_press k = record { device = leaves_after k; told = leaving_told k; moves = leaving_state k }

-- ---- an arrival and a press

module _ (hides : Bool) (g : Setting) (p r : ℕ) (b : Bay) (sound : Sound hides b) (coming : Coming p b) (pressing : Pressing r b) where
  apart : contact b ≡ false
  unfolding contact
  apart = rw (up 0 (coming.contacts 0 (omega arith)), up 1 (coming.contacts 1 (omega arith)))
    where
      up : (i : ℕ) → (line b i ≡ rest_line true) ⊎ (line b i ≡ differing true p) → accepted_level b i ≡ true
      up i (inl e) = ap (λ (j : Line). j.accepted) e
      up i (inr e) = ap (λ (j : Line). j.accepted) e

  closes_after : (k : ℕ) → contact (ticked_for hides g k b) ≡ leb 10 (p + k)
  closes_after k =
      touching_after hides g true p b coming.contacts coming.short k ∙ rw (apart, closed coming.closed) (not_below (p + k) 10)
    where
      closed : (line b 0 ≡ differing true p) ⊎ (line b 1 ≡ differing true p) → any_asserted (level b N1394) (level b NUSB) ≡ true
      closed (inl e) = rw (ap (λ (j : Line). j.level) e)
      closed (inr e) = rw (ap (λ (j : Line). j.level) e) (or-true (not (level b N1394)))

  coming_sound : (k : ℕ) → Sound hides (ticked_for hides g k b)
  unfolding ticked_for
  coming_sound zero = sound
  coming_sound (suc k) = ticked_sound hides g (ticked_for hides g k b) (coming_sound k)

  -- The ticks to wait, those for which the device is hidden, and DEVSTSCHG_EN.
  abbrev w : ℕ
  w = g.wait_ticks

  abbrev v : ℕ
  v = cond hides g.wait_ticks 0

  abbrev en : Bool
  en = b.control.devstschg_en

  abbrev seating : ℕ → ℕ
  seating k = cond (leb 10 (p + k) && (hides || en)) (10 + w - (p + k)) 0

  abbrev arrived : ℕ → ℕ
  arrived k =
      cond (leb (10 + w) (p + k) && en) (cond (leb 5 (r + k) && ltb (r + 5 + w) p && b.control.remreq_en && not b.remreq_sts) 3 1) 0

  -- Before contact there is no wait, and the bay is Empty.
  coming_apart : (k : ℕ) → p + k < 10 → contact (ticked_for hides g k b) ≡ false
  coming_apart k h = closes_after k ∙ lt-leb 10 (p + k) h

  coming_none : (k : ℕ) → p + k < 10 → (ticked_for hides g k b).wait ≡ 0
  coming_none k h = no_wait_without_contact hides (ticked_for hides g k b) (coming_sound k) (coming_apart k h)

  coming_empty : (k : ℕ) → p + k < 10 → (ticked_for hides g k b).state ≡ 0
  coming_empty k h =
      empty_without_device hides (ticked_for hides g k b) (coming_sound k) (no_device_without_contact hides (ticked_for hides g k b) (coming_apart k h))

  -- Contact is new in this TICK.
  coming_touches : (k : ℕ) → p + suc k ≡ 10 → Arrived hides g (ticked_for hides g k b) (ticked_for hides g (suc k) b)
  unfolding ticked_for
  coming_touches k h =
      arrival hides g (ticked_for hides g k b) (coming_empty k (omega arith)) (coming_none k (omega arith)) (coming_apart k (omega arith)) (closes_after (suc k) ∙ le-leb 10 (p + suc k) (omega arith))

  -- ---- the wait, presence and BCER

  -- A device that a wait hides is there once that is over.
  shows_when : (k : ℕ) → (ticked_for hides g k b).wait ≡ seating k → present hides (ticked_for hides g k b) ≡ leb (10 + v) (p + k)
  unfolding present
  shows_when k e = rw (ap (λ n. ltb 0 n) e, closes_after k) (go hides (leb 10 (p + k)) refl)
    where
      over : (n : ℕ) → 10 ≤ n → not (ltb 0 (10 + w - n)) ≡ leb (10 + w) n
      over n h = go (leb (10 + w) n) refl
        where
          go : (t : Bool) → leb (10 + w) n ≡ t → not (ltb 0 (10 + w - n)) ≡ t
          go true e = rw (le-ltb 0 (10 + w - n) (omega (arith, leb-true (10 + w) n e)))
          go false e = rw (lt-ltb 0 (10 + w - n) (omega (arith, leb-false (10 + w) n e)))

      go : (t q : Bool) → leb 10 (p + k) ≡ q → (not (t && ltb 0 (cond (q && (t || en)) (10 + w - (p + k)) 0)) && q) ≡ leb (10 + cond t w 0) (p + k)
      go true true e = rw (and-true (not (ltb 0 (10 + w - (p + k))))) (over (p + k) (leb-true 10 (p + k) e))
      go true false e = sym (lt-leb (10 + w) (p + k) (omega (arith, leb-false 10 (p + k) e)))
      go false true e = sym e
      go false false e = sym e

  coming_seats : (k : ℕ) → (ticked_for hides g k b).wait ≡ seating k → (ticked_for hides g k b).control ≡ b.control → (ticked_for hides g (suc k) b).wait ≡ seating (suc k)
  unfolding ticked_for
  coming_seats k before same-control = go (ltb (p + suc k) 10) refl (ltb (p + k) 10) refl
    where
      falls : (t : Bool) → cond t (10 + w - (p + k)) 0 - 1 ≡ cond t (10 + w - (p + suc k)) 0
      falls true = omega arith
      falls false = refl

      go : (t : Bool) → ltb (p + suc k) 10 ≡ t → (u : Bool) → ltb (p + k) 10 ≡ u → (ticked_for hides g (suc k) b).wait ≡ seating (suc k)
      go true e u f = let h = ltb-true (p + suc k) 10 e in coming_none (suc k) h ∙ rw (lt-leb 10 (p + suc k) h)
      go false e true f =
          let now : p + suc k ≡ 10 = omega (arith, ltb-false (p + suc k) 10 e, ltb-true (p + k) 10 f) in
          (coming_touches k now).waits ∙ rw (same-control, le-leb 10 (p + suc k) (omega arith)) (ap (λ n. cond (hides || en) n 0) (omega arith))
      go false e false f =
          let h = ltb-false (p + k) 10 f in
          let more : 10 ≤ p + suc k = omega arith in
          wait_falls hides g (ticked_for hides g k b) (closes_after k ∙ le-leb 10 (p + k) h) (closes_after (suc k) ∙ le-leb 10 (p + suc k) more)
          ∙ ap (λ n. n - 1) before
          ∙ rw (le-leb 10 (p + k) h, le-leb 10 (p + suc k) more) (falls (hides || en))

  coming_so : (k : ℕ) → ((ticked_for hides g k b).wait ≡ seating k) × ((ticked_for hides g k b).control ≡ b.control)
  unfolding ticked_for
  coming_so zero = (coming_none 0 (omega (arith, coming.short)) ∙ rw (lt-leb 10 (p + 0) (omega (arith, coming.short))), refl)
  coming_so (suc k) =
      let before = coming_so k in
      let after = coming_seats k before.0 before.1 in
      (after, tick_keeps_control hides g (ticked_for hides g k b) (λ h. shows_when (suc k) after ∙ le-leb (10 + v) (p + suc k) (omega (arith, leb-true (10 + v) (p + k) (sym (shows_when k before.0) ∙ h)))) ∙ before.1)

  comes_after : (k : ℕ) → present hides (ticked_for hides g k b) ≡ leb (10 + v) (p + k)
  comes_after k = shows_when k (coming_so k).0

  coming_told : (k : ℕ) → (ticked_for hides g k b).remreq_sts ≡ (b.remreq_sts || leb 5 (r + k) && leb (r + 5 + v) p)
  coming_told = told_after_lem hides g r b pressing (leb (r + 5 + v) p) (λ k e. comes_after (suc k) ∙ first k e (leb (r + 5 + v) p) refl)
    where
      first : (k : ℕ) → r + suc k ≡ 5 → (t : Bool) → leb (r + 5 + v) p ≡ t → leb (10 + v) (p + suc k) ≡ t
      first k e true f = le-leb (10 + v) (p + suc k) (omega (arith, leb-true (r + 5 + v) p f))
      first k e false f = lt-leb (10 + v) (p + suc k) (omega (arith, leb-false (r + 5 + v) p f))

  -- ---- the state

  -- A press that moves the bay is accepted in a later tick than that in which it is Inserted.
  early : (k : ℕ) → p + suc k ≤ 10 + w → (leb 5 (r + suc k) && ltb (r + 5 + w) p) ≡ false
  early k h = go (ltb (r + 5 + w) p) refl
    where
      go : (t : Bool) → ltb (r + 5 + w) p ≡ t → (leb 5 (r + suc k) && ltb (r + 5 + w) p) ≡ false
      go true e = rw (lt-leb 5 (r + suc k) (omega (arith, ltb-true (r + 5 + w) p e)))
      go false e = rw e (and-false (leb 5 (r + suc k)))

  -- It is touched in this TICK.
  coming_arrives : (k : ℕ) → p + suc k ≡ 10 → (ticked_for hides g (suc k) b).state ≡ arrived (suc k)
  coming_arrives k h = (coming_touches k h).moved ∙ rw (coming_so k).1 (at_once (eqb w 0) refl)
    where
      at_once : (t : Bool) → eqb w 0 ≡ t → cond (en && t) 1 0 ≡ arrived (suc k)
      at_once true z = rw (le-leb (10 + w) (p + suc k) (omega (arith, eqb-true w 0 z)), early k (omega arith), and-true)
      at_once false z = rw (lt-leb (10 + w) (p + suc k) (omega (arith, eqb-false w 0 z)), and-false)

  -- It was before: it stays, ..
  coming_stays : (k : ℕ) → gone hides g (ticked_for hides g k b) ≡ false
  unfolding ticked_for
  coming_stays k = rw (comes_after k, comes_after (suc k)) (go (leb (10 + v) (p + k)) refl)
    where
      go : (t : Bool) → leb (10 + v) (p + k) ≡ t → (t && not (leb (10 + v) (p + suc k))) ≡ false
      go true e = rw (le-leb (10 + v) (p + suc k) (omega (arith, leb-true (10 + v) (p + k) e)))
      go false e = refl

  -- .. and it has seated in this TICK exactly as its ticks are over, and with DEVSTSCHG_EN.
  inserted_now : (k : ℕ) → 10 ≤ p + k → (come hides g (ticked_for hides g k b) || seated hides g (ticked_for hides g k b)) ≡ (en && eqb (p + suc k) (10 + w))
  unfolding ticked_for
  inserted_now k h =
      rw (comes_after k, comes_after (suc k), ap (λ n. eqb n 1) (coming_so k).0, (coming_so k).1, le-leb 10 (p + k) h) (go hides en)
    where
      last : eqb (10 + w - (p + k)) 1 ≡ eqb (p + suc k) (10 + w)
      last = go (eqb (p + suc k) (10 + w)) refl
        where
          go : (t : Bool) → eqb (p + suc k) (10 + w) ≡ t → eqb (10 + w - (p + k)) 1 ≡ t
          go true e = eq-eqb (10 + w - (p + k)) 1 (omega (arith, eqb-true (p + suc k) (10 + w) e))
          go false e = ne_eqb (10 + w - (p + k)) 1 (λ q. omega (arith, q, eqb-false (p + suc k) (10 + w) e))

      shows : (not (leb (10 + w) (p + k)) && leb (10 + w) (p + suc k)) ≡ eqb (p + suc k) (10 + w)
      shows = go (leb (10 + w) (p + k)) refl (leb (10 + w) (p + suc k)) refl
        where
          go : (t : Bool) → leb (10 + w) (p + k) ≡ t → (u : Bool) → leb (10 + w) (p + suc k) ≡ u → (not t && u) ≡ eqb (p + suc k) (10 + w)
          go true e u f = sym (ne_eqb (p + suc k) (10 + w) (λ q. omega (arith, q, leb-true (10 + w) (p + k) e)))
          go false e true f = sym (eq-eqb (p + suc k) (10 + w) (omega (arith, leb-false (10 + w) (p + k) e, leb-true (10 + w) (p + suc k) f)))
          go false e false f = sym (ne_eqb (p + suc k) (10 + w) (λ q. omega (arith, q, leb-false (10 + w) (p + suc k) f)))

      go :
          (t e : Bool)
          → (((not (leb (10 + cond t w 0) (p + k)) && leb (10 + cond t w 0) (p + suc k)) && e) && (t || eqb w 0) || (not (leb (10 + cond t w 0) (p + k) && not (leb (10 + cond t w 0) (p + suc k))) && not ((not (leb (10 + cond t w 0) (p + k)) && leb (10 + cond t w 0) (p + suc k)) && e)) && (not t && eqb (cond (t || e) (10 + w - (p + k)) 0) 1))
          ≡ (e && eqb (p + suc k) (10 + w))
      go true true = simp (and-true, and-false, or-false) shows
      go true false = simp and-false
      go false true = rw (le-leb 10 (p + k) h, le-leb 10 (p + suc k) (omega arith)) last
      go false false = rw (le-leb 10 (p + k) h, le-leb 10 (p + suc k) (omega arith))

  abbrev before : ℕ → Bay
  before k = ticked_for hides g k b

  coming_moves :
      (k : ℕ) → 10 ≤ p + k
      → (before (suc k)).state
      ≡ cond (en && eqb (p + suc k) (10 + w)) 1 (cond (press hides g (before k) && (eqb (before k).state 1 || eqb (before k).state 2)) 3 (before k).state)
  unfolding ticked_for
  coming_moves k h =
      one_move hides g (before k)
      ∙ ap (λ t. cond t 0 (cond (come hides g (before k) || seated hides g (before k)) 1 (cond (press hides g (before k) && (eqb (before k).state 1 || eqb (before k).state 2)) 3 (before k).state))) (coming_stays k)
      ∙ ap (λ t. cond t 1 (cond (press hides g (before k) && (eqb (before k).state 1 || eqb (before k).state 2)) 3 (before k).state)) (inserted_now k h)

  -- The press moves it in its fifth TICK, if it may.
  coming_pressed :
      (k : ℕ) → 10 ≤ p + k → (en && eqb (p + suc k) (10 + w)) ≡ false
      → press hides g (before k)
      ≡ ((eqb (r + suc k) 5 && leb (10 + v) (p + suc k)) && b.control.remreq_en && not (before k).remreq_sts)
  unfolding ticked_for
  coming_pressed k h e =
      let none = neither (come hides g (before k)) (seated hides g (before k)) (inserted_now k h ∙ e) in
      rw (none.1, none.0, coming_stays k, pressed_at, (coming_so k).1)
    where
      pressed_at : press_over hides (before k) (ticked_bay hides g (before k)) ≡ (eqb (r + suc k) 5 && leb (10 + v) (p + suc k))
      pressed_at = press_at hides g r b pressing k ∙ ap (λ t. eqb (r + suc k) 5 && t) (comes_after (suc k))

  -- Not seated yet, or with DEVSTSCHG_EN clear: Empty.
  stays_empty : (k : ℕ) → 10 ≤ p + k → (before k).state ≡ 0 → (en && eqb (p + suc k) (10 + w)) ≡ false → (before (suc k)).state ≡ 0
  stays_empty k h z e =
      coming_moves k h
      ∙ rw e (ap (λ n. cond (press hides g (before k) && (eqb n 1 || eqb n 2)) 3 n) z ∙ rw (and-false (press hides g (before k))))

  not_now : (k : ℕ) → 10 + w ≤ p + k → eqb (p + suc k) (10 + w) ≡ false
  not_now k h = ne_eqb (p + suc k) (10 + w) (λ e. omega (arith, e))

  there : (k : ℕ) → 10 + w ≤ p + k → 10 + v ≤ p + suc k
  there k h = go hides
    where
      go : (t : Bool) → 10 + cond t w 0 ≤ p + suc k
      go true = omega arith
      go false = omega arith

  -- Seated before: a press moves the bay, if it may.
  seated_before :
      (k : ℕ) → (before k).state ≡ arrived k → 10 + w ≤ p + k → en ≡ true → (t : Bool) → eqb (r + suc k) 5 ≡ t
      → (before (suc k)).state ≡ cond (leb 5 (r + suc k) && ltb (r + 5 + w) p && b.control.remreq_en && not b.remreq_sts) 3 1
  seated_before k was h e true f =
      let fifth = eqb-true (r + suc k) 5 f in
      let later = not_now k h in
      let state : (before k).state ≡ 1 = was ∙ rw (le-leb (10 + w) (p + k) h, e, lt-leb 5 (r + k) (omega arith)) in
      let untold : (before k).remreq_sts ≡ b.remreq_sts = coming_told k ∙ rw (lt-leb 5 (r + k) (omega arith)) (or-false b.remreq_sts) in
      coming_moves k (omega arith)
      ∙ rw (later, and-false, coming_pressed k (omega arith) (rw (later, and-false)), f, le-leb (10 + v) (p + suc k) (there k h), untold, ap (λ n. eqb n 1) state, le-leb 5 (r + suc k) (omega arith), lt-ltb (r + 5 + w) p (omega arith), and-true)
      (ap (λ n. cond (b.control.remreq_en && not b.remreq_sts) 3 n) state)
  seated_before k was h e false f =
      let later = not_now k h in
      coming_moves k (omega arith)
      ∙ rw (later, and-false, coming_pressed k (omega arith) (rw (later, and-false)), f) (was ∙ rw (le-leb (10 + w) (p + k) h, e, fifth_or_later r k, f, or-false))

  coming_next : (k : ℕ) → (before k).state ≡ arrived k → 10 ≤ p + k → (before (suc k)).state ≡ arrived (suc k)
  coming_next k was h = go en refl (ltb (p + suc k) (10 + w)) refl (ltb (p + k) (10 + w)) refl
    where
      go :
          (t : Bool) → en ≡ t → (u : Bool) → ltb (p + suc k) (10 + w) ≡ u → (x : Bool) → ltb (p + k) (10 + w) ≡ x
          → (before (suc k)).state ≡ arrived (suc k)
      go false e u f x q = stays_empty k h (was ∙ rw (e, and-false)) (rw e) ∙ rw (e, and-false)
      go true e true f x q =
          let more = ltb-true (p + suc k) (10 + w) f in
          stays_empty k h (was ∙ rw (lt-leb (10 + w) (p + k) (omega arith))) (rw (ne_eqb (p + suc k) (10 + w) (λ s. omega (arith, s)), and-false)) ∙ rw (lt-leb (10 + w) (p + suc k) more)
      go true e false f true q =
          let now : p + suc k ≡ 10 + w = omega (arith, ltb-false (p + suc k) (10 + w) f, ltb-true (p + k) (10 + w) q) in
          coming_moves k h ∙ rw (e, eq-eqb (p + suc k) (10 + w) now, le-leb (10 + w) (p + suc k) (omega arith), early k (omega arith))
      go true e false f false q =
          seated_before k was (ltb-false (p + k) (10 + w) q) e (eqb (r + suc k) 5) refl
          ∙ rw (le-leb (10 + w) (p + suc k) (ltb-false (p + suc k) (10 + w) f), e)

  coming_stands : (k : ℕ) → (ticked_for hides g k b).state ≡ arrived k
  coming_stands zero = coming_empty 0 (omega (arith, coming.short)) ∙ rw (lt-leb (10 + w) (p + 0) (omega (arith, coming.short)))
  coming_stands (suc k) = go (coming_stands k) (ltb (p + suc k) 10) refl (ltb (p + k) 10) refl
    where
      go : (before k).state ≡ arrived k → (t : Bool) → ltb (p + suc k) 10 ≡ t → (u : Bool) → ltb (p + k) 10 ≡ u → (ticked_for hides g (suc k) b).state ≡ arrived (suc k)
      go was true e u f = let l = ltb-true (p + suc k) 10 e in coming_empty (suc k) l ∙ rw (lt-leb (10 + w) (p + suc k) (omega arith))
      go was false e true f = coming_arrives k (omega (arith, ltb-false (p + suc k) 10 e, ltb-true (p + k) 10 f))
      go was false e false f = coming_next k was (ltb-false (p + k) 10 f)

  -- Whichever began first.
  pub arrival_and_press : (k : ℕ) → ArrivalAndPress hides g.wait_ticks (cond hides g.wait_ticks 0) p r k b (ticked_for hides g k b)
  arrival_and_press k = record { device = comes_after k; told = coming_told k; seats = (coming_so k).0; moves = coming_stands k }

-- What a press and a device bring tick by tick, each by itself: the button is down from the fifth tick on, a contact's level is accepted
-- at the tenth, and the laws of one TICK say what follows. By induction on the ticks. Assumes nothing.
use Prim.Native.Nat.{ℕ, zero, suc, ◌+◌, ◌<◌}
use native.Mathlib.Omega.{arith}
use mathlib.Core.Path.{◌≡◌, refl, sym, ap, ◌∙◌}
use mathlib.Core.Logic.{◌⊎◌, inl, inr}
use mathlib.Core.Bool.{Bool, true, false, not, cond, ◌&&◌, ◌||◌, beq, or-false}
use lib.Dec.{eqb, ltb, leb}
use borrow.Author.Tests.{ltb-true, ltb-false, lt-ltb, leb-true, leb-false, le-leb, lt-leb, eqb-true, eqb-false, eq-eqb, ne_eqb}
use Rattle.bay.specs.Record.{N1394, NUSB, NREMREQ, ticks_for, level, accepted_level, any_asserted, contact, present}
use Rattle.bay.specs.Debounced.{Line, rest_line, differing, Tick, sees}
use Rattle.bay.specs.Happens.{line}
use Rattle.bay.specs.Table.{press_over}
use Rattle.bay.specs.Order.{ticked_for, Button, Pressing, Contacts, heeds}
use Rattle.bay.specs.declared.Bay.{Bay}
use Rattle.bay.specs.declared.Setting.{Setting}
use Rattle.bay.proofs.Taut.{taut, same}
use Rattle.bay.proofs.OneStep.{rests, rises, settles_now}
use Rattle.bay.proofs.Laws.{stayed, pressed_sets}
use Rattle.bay.proofs.Happens.{ticked_line}

-- ---- a test that picks its own answers

pub itself : (t : Bool) → cond t true false ≡ t
itself true = refl
itself false = refl

pub not_below : (m n : ℕ) → cond (ltb m n) false true ≡ leb n m
not_below m n = go (ltb m n) refl
  where
    go : (t : Bool) → ltb m n ≡ t → cond t false true ≡ leb n m
    go true e = sym (lt-leb n m (ltb-true m n e))
    go false e = sym (le-leb n m (ltb-false m n e))

-- ---- an input, tick by tick

-- One whose level had differed for n ticks, k ticks later.
abbrev later : Bool → ℕ → ℕ → ℕ → Line
later a n length k =
    record { level = not a; accepted = cond (ltb (n + k) length) a (not a); count = cond (ltb (n + k) length) (n + k) 0 }

one_later : (a : Bool) (n length k : ℕ) → n < length → sees length Tick (later a n length k) ≡ later a n length (suc k)
one_later a n length k l = go (ltb (n + k) length) refl (ltb (n + suc k) length) refl
  where
    go :
        (t : Bool) → ltb (n + k) length ≡ t → (u : Bool) → ltb (n + suc k) length ≡ u
        → sees length Tick (record { level = not a; accepted = cond t a (not a); count = cond t (n + k) 0 })
        ≡ record { level = not a; accepted = cond u a (not a); count = cond u (n + suc k) 0 }
    go true e true f =
        let more : suc (n + k) < length = omega (arith, ltb-true (n + suc k) length f) in
        rises length a (n + k) more ∙ ap (differing a) (omega arith)
    go true e false f =
        let last : suc (n + k) ≡ length = omega (arith, ltb-true (n + k) length e, ltb-false (n + suc k) length f) in settles_now length a (n + k) last
    go false e true f = absurd (omega (arith, ltb-false (n + k) length e, ltb-true (n + suc k) length f))
    go false e false f = rests length (not a)

module _ (hides : Bool) (g : Setting) (b : Bay) (i : ℕ) (l : i < 3) where
  differs_on :
      (a : Bool) (n : ℕ) → n < ticks_for i → line b i ≡ differing a n → (k : ℕ) → line (ticked_for hides g k b) i ≡ later a n (ticks_for i) k
  unfolding ticked_for
  differs_on a n h e zero = e ∙ rw (lt-ltb (n + 0) (ticks_for i) (omega arith)) (ap (differing a) (omega arith))
  differs_on a n h e (suc k) = ticked_line hides g (ticked_for hides g k b) i l ∙ rw (differs_on a n h e k) (one_later a n (ticks_for i) k h)

  rests_on : (a : Bool) → line b i ≡ rest_line a → (k : ℕ) → line (ticked_for hides g k b) i ≡ rest_line a
  unfolding ticked_for
  rests_on a e zero = e
  rests_on a e (suc k) = ticked_line hides g (ticked_for hides g k b) i l ∙ rw (rests_on a e k) (rests (ticks_for i) a)

-- ---- the button

-- It is as it was until the fifth tick, and from then on as it is sampled: a press, up and then down.
pub button_later : (hides : Bool) (g : Setting) (a : Bool) (r : ℕ) (b : Bay) → Button a r b → (k : ℕ) → accepted_level (ticked_for hides g k b) NREMREQ ≡ cond (ltb (r + k) 5) a (not a)
button_later hides g a r b s k = ap (λ (i : Line). i.accepted) (differs_on hides g b NREMREQ (omega arith) a r s.short s.input k)

button_after : (hides : Bool) (g : Setting) (r : ℕ) (b : Bay) → Pressing r b → (k : ℕ) → accepted_level (ticked_for hides g k b) NREMREQ ≡ ltb (r + k) 5
button_after hides g r b s k = button_later hides g true r b s k ∙ itself (ltb (r + k) 5)

-- So the one TICK that accepts it is the fifth, and it is over a device if one is present then.
pub press_at :
    (hides : Bool) (g : Setting) (r : ℕ) (b : Bay) → Pressing r b → (k : ℕ)
    → press_over hides (ticked_for hides g k b) (ticked_for hides g (suc k) b) ≡ (eqb (r + suc k) 5 && present hides (ticked_for hides g (suc k) b))
press_at hides g r b s k =
    rw (button_after hides g r b s k, button_after hides g r b s (suc k)) (ap (λ t. t && present hides (ticked_for hides g (suc k) b)) (fifth (ltb (r + k) 5) refl (ltb (r + suc k) 5) refl))
  where
    fifth : (t : Bool) → ltb (r + k) 5 ≡ t → (u : Bool) → ltb (r + suc k) 5 ≡ u → (t && not u) ≡ eqb (r + suc k) 5
    fifth true e true f = sym (ne_eqb (r + suc k) 5 (λ q. omega (arith, ltb-true (r + suc k) 5 f)))
    fifth true e false f = sym (eq-eqb (r + suc k) 5 (omega (arith, ltb-true (r + k) 5 e, ltb-false (r + suc k) 5 f)))
    fifth false e u f = sym (ne_eqb (r + suc k) 5 (λ q. omega (arith, ltb-false (r + k) 5 e)))

-- Five ticks have passed now if they had before, or if this is the fifth.
pub fifth_or_later : (n k : ℕ) → leb 5 (n + suc k) ≡ (leb 5 (n + k) || eqb (n + suc k) 5)
fifth_or_later n k = go (leb 5 (n + k)) refl (eqb (n + suc k) 5) refl
  where
    go : (t : Bool) → leb 5 (n + k) ≡ t → (u : Bool) → eqb (n + suc k) 5 ≡ u → leb 5 (n + suc k) ≡ (t || u)
    go true e u f = le-leb 5 (n + suc k) (omega (arith, leb-true 5 (n + k) e))
    go false e true f = le-leb 5 (n + suc k) (omega (arith, eqb-true (n + suc k) 5 f))
    go false e false f = lt-leb 5 (n + suc k) (omega (arith, leb-false 5 (n + k) e, eqb-false (n + suc k) 5 f))

-- REMREQ_STS is set from the fifth TICK on, if a device is present at that.
pub told_after_lem :
    (hides : Bool) (g : Setting) (r : ℕ) (b : Bay) → Pressing r b → (over : Bool) → ((k : ℕ) → r + suc k ≡ 5 → present hides (ticked_for hides g (suc k) b) ≡ over) → (k : ℕ)
    → (ticked_for hides g k b).remreq_sts ≡ (b.remreq_sts || leb 5 (r + k) && over)
unfolding ticked_for
told_after_lem hides g r b s over h zero = rw (lt-leb 5 (r + 0) (omega (arith, s.short))) (sym (or-false b.remreq_sts))
told_after_lem hides g r b s over h (suc k) =
    pressed_sets hides g (ticked_for hides g k b)
    ∙ rw (told_after_lem hides g r b s over h k, fifth_or_later r k, press_at hides g r b s k, there (eqb (r + suc k) 5) refl)
    (same _ _ (taut 4 (λ t x y o. beq (t || x && o || y && o) (t || (x || y) && o)) refl b.remreq_sts (leb 5 (r + k)) (eqb (r + suc k) 5) over))
  where
    there : (t : Bool) → eqb (r + suc k) 5 ≡ t → (eqb (r + suc k) 5 && present hides (ticked_for hides g (suc k) b)) ≡ (eqb (r + suc k) 5 && over)
    there true e = rw (h k (eqb-true (r + suc k) 5 e))
    there false e = rw e

-- Where it is not the fifth TICK, and presence stays, the state is kept, but that it is Inserted as a wait ends.
pub keeps_state :
    (hides : Bool) (g : Setting) (r : ℕ) (b : Bay) → Pressing r b → (k : ℕ) → eqb (r + suc k) 5 ≡ false → present hides (ticked_for hides g (suc k) b) ≡ present hides (ticked_for hides g k b)
    → (ticked_for hides g (suc k) b).state ≡ cond (not hides && eqb (ticked_for hides g k b).wait 1) 1 (ticked_for hides g k b).state
unfolding ticked_for
keeps_state hides g r b s k e q = (stayed hides g (ticked_for hides g k b) q).state_kept ∙ rw (press_at hides g r b s k, e)

-- In the fifth TICK the press moves a bay that stays present, if it may, and if no wait ends.
pub moves_state :
    (hides : Bool) (g : Setting) (r : ℕ) (b : Bay) → Pressing r b → (k : ℕ) → eqb (r + suc k) 5 ≡ true → present hides (ticked_for hides g k b) ≡ true → present hides (ticked_for hides g (suc k) b) ≡ true
    → (ticked_for hides g (suc k) b).state ≡ cond (not hides && eqb (ticked_for hides g k b).wait 1) 1 (cond (heeds (ticked_for hides g k b)) 3 (ticked_for hides g k b).state)
unfolding ticked_for
moves_state hides g r b s k e p q = (stayed hides g (ticked_for hides g k b) (q ∙ sym p)).state_kept ∙ rw (press_at hides g r b s k, e, q)

-- ---- the contacts

module _ (hides : Bool) (g : Setting) (a : Bool) (p : ℕ) (b : Bay) (contacts : Contacts a p b) (short : p < 10) where
  contact_after_lem : (i : ℕ) → i < 2 → ticks_for i ≡ 10 → (k : ℕ) → accepted_level (ticked_for hides g k b) i ≡ cond (ltb (p + k) 10) (accepted_level b i) (level b i)
  contact_after_lem i l ten k = go (contacts i l)
    where
      either : (t : Bool) → true ≡ cond t true true
      either true = refl
      either false = refl

      go : (line b i ≡ rest_line true) ⊎ (line b i ≡ differing a p) → accepted_level (ticked_for hides g k b) i ≡ cond (ltb (p + k) 10) (accepted_level b i) (level b i)
      go (inl e) =
          rw (ap (λ (j : Line). j.accepted) (rests_on hides g b i (omega arith) true e k), ap (λ (j : Line). j.accepted) e, ap (λ (j : Line). j.level) e) (either (ltb (p + k) 10))
      go (inr e) =
          ap (λ (j : Line). j.accepted) (differs_on hides g b i (omega arith) a p (rw ten short) e k)
          ∙ rw (ten, ap (λ (j : Line). j.accepted) e, ap (λ (j : Line). j.level) e)

  -- Contact stays until the tenth tick, and is then what the contacts say.
  pub touching_after : (k : ℕ) → contact (ticked_for hides g k b) ≡ cond (ltb (p + k) 10) (contact b) (any_asserted (level b N1394) (level b NUSB))
  unfolding contact
  touching_after k = rw (contact_after_lem N1394 (omega arith) refl k, contact_after_lem NUSB (omega arith) refl k) (both (ltb (p + k) 10))
    where
      both : (t : Bool) → any_asserted (cond t (accepted_level b N1394) (level b N1394)) (cond t (accepted_level b NUSB) (level b NUSB)) ≡ cond t (any_asserted (accepted_level b N1394) (accepted_level b NUSB)) (any_asserted (level b N1394) (level b NUSB))
      both true = refl
      both false = refl

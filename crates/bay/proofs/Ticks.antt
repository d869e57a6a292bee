-- What a TICK comes to: where a device leaves, where none does, and where every level is the accepted one. Assumes nothing.
use Prim.Native.Nat.{ℕ, ◌-◌}
use mathlib.Core.Path.{◌≡◌, refl, ap, ◌∙◌}
use mathlib.Core.Bool.{Bool, true, false, not, cond, ◌&&◌, ◌||◌, and-true, and-false, or-false, and-not_self, not-and_self, and-eq-true_iff}
use mathlib.Core.List.{List, [], ◌∷◌}
use lib.Dec.{eqb}
use lib.ListN.{length, get_or}
use native.Mathlib.Omega.{arith}
use borrow.Author.Tests.{not-true, eqb-true}
use Rattle.bay.specs.Record.{N1394, NUSB, NREMREQ, ticks_for, level, accepted_level, count, contact, present, EMPTY, REMOVAL_ALLOWED, with_inputs, with_status}
use Rattle.bay.specs.Debounce.{differs, settles, debounce}
use Rattle.bay.specs.Moves.{input, contact_after, present_after, leaves, arrives, changes, pressed, heeded, wait_after, inserts, state_after, control_after, requested_after, changed_after, moved_to, moved_bay, ticked_bay, same, rests}
use Rattle.bay.specs.Table.{press_over}
use Rattle.bay.specs.declared.Bay.{Bay}
use Rattle.bay.specs.declared.Control.{Control}
use Rattle.bay.specs.declared.Input.{Input}
use Rattle.bay.specs.declared.Setting.{Setting}
use Rattle.bay.proofs.Taut.{either_way}
use Rattle.bay.proofs.OneStep.{counting, steady_input}

-- A bay after its inputs, but for its state, REMREQ_STS, DEVSTSCHG, BCER and wait.
abbrev pub after : Bay → Input → Input → Input → ℕ → Bool → Bool → Control → ℕ → Bay
after b n1394 nusb nremreq state req chg control wait =
    with_status state req chg control (b.pulse - 1) wait
    (with_inputs b.levels (n1394.accepted ∷ nusb.accepted ∷ nremreq.accepted ∷ [])
    (n1394.count ∷ nusb.count ∷ nremreq.count ∷ []) b.n_sl b)

module _ (hides : Bool) (ticks : ℕ) (b : Bay) (wait : ℕ) (n1394 nusb nremreq : Input) where
  pub left :
      leaves hides b wait n1394 nusb ≡ true
      → moved_to hides ticks b wait n1394 nusb nremreq
      ≡ after b n1394 nusb nremreq EMPTY b.remreq_sts (changed_after b (changes hides b wait n1394 nusb) (eqb b.state REMOVAL_ALLOWED && not b.control.remevtwak_en)) (control_after true b.control) wait
  unfolding moved_to state_after
  left e =
      let both = (and-eq-true_iff (present hides b) (not (present_after hides wait n1394 nusb))).0 e in
      let absent = not-true (present_after hides wait n1394 nusb) both.1 in
      rw (e, absent, and-true) (simp (and-false, or-false))

  pub stayed :
      leaves hides b wait n1394 nusb ≡ false
      → moved_to hides ticks b wait n1394 nusb nremreq
      ≡ after b n1394 nusb nremreq (state_after hides ticks b false (arrives hides b wait n1394 nusb) (heeded hides wait n1394 nusb nremreq)) (requested_after b (heeded hides wait n1394 nusb nremreq)) (b.devstschg || changes hides b wait n1394 nusb) b.control wait
  unfolding moved_to
  stayed e = rw (e, and-false) (simp and-true)

-- ---- every level is the accepted one

three : {A : Type 0} (d : A) (xs : List A) → length xs ≡ 3 → get_or xs 0 d ∷ get_or xs 1 d ∷ get_or xs 2 d ∷ [] ≡ xs
three d [] h = absurd (omega arith)
three d (x ∷ []) h = absurd (omega arith)
three d (x ∷ y ∷ []) h = absurd (omega arith)
three d (x ∷ y ∷ z ∷ []) h = refl
three d (x ∷ y ∷ z ∷ w ∷ xs) h = absurd (omega arith)

-- Where contact stays and no wait runs, none begins.
pub no_wait : (hides : Bool) (ticks : ℕ) (b : Bay) → b.wait ≡ 0 → wait_after hides ticks b (contact b) ≡ 0
unfolding wait_after contact
no_wait hides ticks b w = rw (w, not-and_self) (either_way 0 ((hides || contact b) && not (contact b)))

differs_self : (t : Bool) → differs t t ≡ false
differs_self true = refl
differs_self false = refl

-- Where no wait and no pulse runs either, the bay is as it was ..
pub rested :
    (hides : Bool) (s : Setting) (b : Bay) → rests b ≡ true
    → ticked_bay hides s b
    ≡ with_inputs b.levels (accepted_level b N1394 ∷ accepted_level b NUSB ∷ accepted_level b NREMREQ ∷ []) (count b N1394 ∷ count b NUSB ∷ count b NREMREQ ∷ []) b.n_sl b
unfolding ticked_bay moved_bay present contact state_after inserts rests changes
rested hides s b e =
    let f = (and-eq-true_iff (same b N1394 && same b NUSB && same b NREMREQ && eqb b.wait 0) (eqb b.pulse 0)).0 e in
    let w = (and-eq-true_iff (same b N1394 && same b NUSB && same b NREMREQ) (eqb b.wait 0)).0 f.0 in
    let p = (and-eq-true_iff (same b N1394 && same b NUSB) (same b NREMREQ)).0 w.0 in
    let q = (and-eq-true_iff (same b N1394) (same b NUSB)).0 p.0 in
    let none = eqb-true b.wait 0 w.1 in
    rw (
      steady_input (ticks_for N1394) (level b N1394) (accepted_level b N1394) (count b N1394) q.0,
      steady_input (ticks_for NUSB) (level b NUSB) (accepted_level b NUSB) (count b NUSB) q.1,
      steady_input (ticks_for NREMREQ) (level b NREMREQ) (accepted_level b NREMREQ) (count b NREMREQ) p.1,
      no_wait hides s.wait_ticks b none,
      stayed hides s.wait_ticks b 0 (counting (accepted_level b N1394) (count b N1394)) (counting (accepted_level b NUSB) (count b NUSB)) (counting (accepted_level b NREMREQ) (count b NREMREQ)) (rw none (and-not_self (present_after hides 0 (counting (accepted_level b N1394) (count b N1394)) (counting (accepted_level b NUSB) (count b NUSB))))),
      none,
      not-and_self,
      differs_self,
      differs_self,
      eqb-true b.pulse 0 f.1,
    )
    (simp (or-false, and-false))

-- .. to the last field, where it has three accepted levels and three counts.
pub at_rest : (hides : Bool) (s : Setting) (b : Bay) → length b.accepted ≡ 3 → length b.counts ≡ 3 → rests b ≡ true → ticked_bay hides s b ≡ b
at_rest hides s b la lc e = rw (rested hides s b e, three false b.accepted la, three 0 b.counts lc)

-- ---- what a TICK brings, by the accepted levels and the wait before and after it

pub contact_after_lem : (hides : Bool) (s : Setting) (b : Bay) → contact (ticked_bay hides s b) ≡ contact_after (input b N1394) (input b NUSB)
unfolding ticked_bay moved_bay moved_to contact
contact_after_lem hides s b = refl

-- The wait after this TICK.
abbrev pub wait_now : Bool → Setting → Bay → ℕ
wait_now hides s b = wait_after hides s.wait_ticks b (contact_after (input b N1394) (input b NUSB))

pub wait_after_lem : (hides : Bool) (s : Setting) (b : Bay) → (ticked_bay hides s b).wait ≡ wait_after hides s.wait_ticks b (contact (ticked_bay hides s b))
unfolding ticked_bay moved_bay moved_to contact
wait_after_lem hides s b = refl

pub present_after_lem : (hides : Bool) (s : Setting) (b : Bay) → present hides (ticked_bay hides s b) ≡ present_after hides (wait_now hides s b) (input b N1394) (input b NUSB)
unfolding ticked_bay moved_bay moved_to present contact
present_after_lem hides s b = refl

-- A level that was accepted in this TICK is one that was not accepted before.
accepts_other : (n : ℕ) (l a : Bool) (k : ℕ) → (debounce n l a k).settled ≡ differs a (debounce n l a k).accepted
unfolding debounce
accepts_other n true true k = refl
accepts_other n true false k = go (settles n true false k)
  where
    go : (t : Bool) → t ≡ differs false (cond t true false)
    go true = refl
    go false = refl
accepts_other n false true k = go (settles n false true k)
  where
    go : (t : Bool) → t ≡ differs true (cond t false true)
    go true = refl
    go false = refl
accepts_other n false false k = refl

-- So a press shows at the accepted levels ..
pub press_after : (hides : Bool) (s : Setting) (b : Bay) → pressed (input b NREMREQ) ≡ (accepted_level b NREMREQ && not (accepted_level (ticked_bay hides s b) NREMREQ))
unfolding ticked_bay moved_bay moved_to
press_after hides s b = ap (λ t. t && not (input b NREMREQ).accepted) (accepts_other (ticks_for NREMREQ) (level b NREMREQ) (accepted_level b NREMREQ) (count b NREMREQ)) ∙ fell (accepted_level b NREMREQ) (input b NREMREQ).accepted
  where
    fell : (before after : Bool) → (differs before after && not after) ≡ (before && not after)
    fell true true = refl
    fell true false = refl
    fell false true = refl
    fell false false = refl

-- .. and so does a heeded press.
pub heeded_after :
    (hides : Bool) (s : Setting) (b : Bay)
    → heeded hides (wait_now hides s b) (input b N1394) (input b NUSB) (input b NREMREQ) ≡ press_over hides b (ticked_bay hides s b)
heeded_after hides s b = rw (press_after hides s b, present_after_lem hides s b)

-- A press that begins with a removal or an arrival, in one PINS over a bay at rest: the press is accepted 5 ticks before the device has
-- left or come. And a release. By the laws on which of two wins. Assumes nothing.
use Prim.Native.Nat.{ℕ, zero, suc, ◌+◌, ◌-◌, ◌<◌, ◌≤◌}
use native.Mathlib.Omega.{arith}
use mathlib.Core.Path.{◌≡◌, refl, sym, ap, ◌∙◌}
use mathlib.Core.Logic.{◌⊎◌, inl, inr}
use mathlib.Core.Bool.{Bool, true, false, not, cond, ◌&&◌, ◌||◌, beq, and-false, or-true, or-false, true≢false}
use mathlib.Core.List.{[], ◌∷◌}
use lib.Dec.{leb}
use borrow.Author.Tests.{leb-true, le-leb, lt-leb, le-ltb}
use Rattle.bits.specs.Bits.{bit}
use Rattle.bay.specs.Record.{NREMREQ, level, accepted_level, contact}
use Rattle.bay.specs.Debounce.{sampled_bay}
use Rattle.bay.specs.Debounced.{rest_line, differing}
use Rattle.bay.specs.Happens.{pins, happens, happens_all, line}
use Rattle.bay.specs.Order.{ticked_for, Pressing, Releasing, Contacts, Leaving, Coming, heeds}
use Rattle.bay.specs.Sound.{Sound}
use Rattle.bay.specs.declared.Bay.{Bay}
use Rattle.bay.specs.declared.Setting.{Setting}
use Rattle.bay.proofs.Sound.{sampled_sound}
use Rattle.bay.proofs.Laws.{held_button, released_button, sampled}
use Rattle.bay.proofs.Happens.{bay_debounced, resting}
use Rattle.bay.proofs.Underway.{not_below, button_later}
use Rattle.bay.proofs.Order.{removal_and_press, arrival_and_press}

-- ---- one PINS

-- A bay at rest: every level is the accepted one.
abbrev pub Still : Bay → Type 0
Still b = (i : ℕ) → i < 3 → level b i ≡ accepted_level b i

-- An input at rest stays there, or begins to differ.
module _ (hides : Bool) (levels : ℕ) (b : Bay) (i : ℕ) (l : i < 3) where
  sampled_same : (a : Bool) → line b i ≡ rest_line a → bit (3 - i) levels ≡ a → line (sampled_bay levels b) i ≡ rest_line a
  unfolding happens_all happens
  sampled_same a e q = (bay_debounced hides b i l).at_rest a (pins levels ∷ []) e (rw q (same a))
    where
      same : (a : Bool) → (not (beq a (not a)) && true) ≡ true
      same true = refl
      same false = refl

  sampled_other : (a : Bool) → line b i ≡ rest_line a → bit (3 - i) levels ≡ not a → line (sampled_bay levels b) i ≡ differing a 0
  unfolding happens_all happens
  sampled_other a e q = (bay_debounced hides b i l).begins a (pins levels ∷ []) e (rw q)

module _ (hides : Bool) (levels : ℕ) (b : Bay) (sound : Sound hides b) (still : Still b) (up : accepted_level b NREMREQ ≡ true) (down : bit 1 levels ≡ false) where
  rest : (i : ℕ) → i < 3 → line b i ≡ rest_line (accepted_level b i)
  rest i l = resting hides b i sound (still i l)

  presses : Pressing 0 (sampled_bay levels b)
  presses = record { input = sampled_other hides levels b NREMREQ (omega arith) true (rest NREMREQ (omega arith) ∙ ap rest_line up) down; short = omega arith }

  -- Both contacts open: each that was closed begins to differ.
  opens :
      (i : ℕ) → i < 3 → bit (3 - i) levels ≡ true → (a : Bool) → accepted_level b i ≡ a
      → (line (sampled_bay levels b) i ≡ rest_line true) ⊎ (line (sampled_bay levels b) i ≡ differing false 0)
  opens i l q true e = inl (sampled_same hides levels b i l true (rest i l ∙ ap rest_line e) q)
  opens i l q false e = inr (sampled_other hides levels b i l false (rest i l ∙ ap rest_line e) q)

  pulls : contact b ≡ true → bit 3 levels ≡ true → bit 2 levels ≡ true → Leaving 0 (sampled_bay levels b)
  unfolding sampled_bay contact
  pulls p q r = record { contacts = contacts; there = p; short = omega arith }
    where
      contacts : Contacts false 0 (sampled_bay levels b)
      contacts zero l = opens 0 (omega arith) q (accepted_level b 0) refl
      contacts (suc zero) l = opens 1 (omega arith) r (accepted_level b 1) refl
      contacts (suc (suc i)) l = absurd (omega arith)

  -- A contact closes, or both: each that does begins to differ.
  closes :
      (i : ℕ) → i < 3 → accepted_level b i ≡ true → (v : Bool) → bit (3 - i) levels ≡ v
      → (line (sampled_bay levels b) i ≡ rest_line true) ⊎ (line (sampled_bay levels b) i ≡ differing true 0)
  closes i l e true q = inl (sampled_same hides levels b i l true (rest i l ∙ ap rest_line e) q)
  closes i l e false q = inr (sampled_other hides levels b i l true (rest i l ∙ ap rest_line e) q)

  both_open : contact b ≡ false → (accepted_level b 0 ≡ true) × (accepted_level b 1 ≡ true)
  unfolding contact
  both_open = go (accepted_level b 0) (accepted_level b 1)
    where
      go : (m n : Bool) → (not m || not n) ≡ false → (m ≡ true) × (n ≡ true)
      go true true h = (refl, refl)
      go true false h = absurd (true≢false h)
      go false n h = absurd (true≢false h)

  pushes : contact b ≡ false → (bit 3 levels ≡ false) ⊎ (bit 2 levels ≡ false) → Coming 0 (sampled_bay levels b)
  pushes p q = record { contacts = contacts; closed = closed q; short = omega arith }
    where
      contacts : Contacts true 0 (sampled_bay levels b)
      contacts zero l = closes 0 (omega arith) (both_open p).0 (bit 3 levels) refl
      contacts (suc zero) l = closes 1 (omega arith) (both_open p).1 (bit 2 levels) refl
      contacts (suc (suc i)) l = absurd (omega arith)

      closed :
          (bit 3 levels ≡ false) ⊎ (bit 2 levels ≡ false)
          → (line (sampled_bay levels b) 0 ≡ differing true 0) ⊎ (line (sampled_bay levels b) 1 ≡ differing true 0)
      closed (inl h) = inl (sampled_other hides levels b 0 (omega arith) true (rest 0 (omega arith) ∙ ap rest_line (both_open p).0) h)
      closed (inr h) = inr (sampled_other hides levels b 1 (omega arith) true (rest 1 (omega arith) ∙ ap rest_line (both_open p).1) h)

-- ---- begun together

-- A removal and a press where no wait runs: the press is accepted 5 ticks before the device has left.
pub record PressThenRemoval (hides : Bool) (g : Setting) (b : Bay) : Type 0 where
  pub nothing : (k : ℕ) → k < 5 → ((ticked_for hides g k b).state ≡ b.state) × ((ticked_for hides g k b).remreq_sts ≡ b.remreq_sts)
  pub pressed : (k : ℕ) → 5 ≤ k → k < 10 → ((ticked_for hides g k b).state ≡ cond (heeds b) 3 b.state) × ((ticked_for hides g k b).remreq_sts ≡ true)
  pub gone : (k : ℕ) → 10 ≤ k → ((ticked_for hides g k b).state ≡ 0) × ((ticked_for hides g k b).remreq_sts ≡ true)

removal_outlasted : (hides : Bool) (g : Setting) (b : Bay) → Leaving 0 b → Pressing 0 b → b.wait ≡ 0 → PressThenRemoval hides g b
removal_outlasted hides g b leaving pressing seated =
    record {
      nothing =
          λ k h.
          let both = removal_and_press hides g 0 0 b leaving pressing seated k in
          (both.moves ∙ rw (lt-leb 10 (0 + k) (omega arith), lt-leb 5 (0 + k) (omega arith)), both.told ∙ rw (lt-leb 5 (0 + k) (omega arith)) (or-false b.remreq_sts));
      pressed =
          λ k l h.
          let both = removal_and_press hides g 0 0 b leaving pressing seated k in
          (both.moves ∙ rw (lt-leb 10 (0 + k) (omega arith), le-leb 5 (0 + k) (omega arith)), both.told ∙ rw (le-leb 5 (0 + k) (omega arith)) (or-true b.remreq_sts));
      gone =
          λ k h.
          let both = removal_and_press hides g 0 0 b leaving pressing seated k in
          (both.moves ∙ rw (le-leb 10 (0 + k) (omega arith)), both.told ∙ rw (le-leb 5 (0 + k) (omega arith)) (or-true b.remreq_sts));
    }

pub press_then_removal :
    (hides : Bool) (g : Setting) (levels : ℕ) (b : Bay) → Sound hides b → Still b → accepted_level b NREMREQ ≡ true → bit 1 levels ≡ false
    → contact b ≡ true → bit 3 levels ≡ true → bit 2 levels ≡ true → b.wait ≡ 0 → PressThenRemoval hides g (sampled_bay levels b)
press_then_removal hides g levels b s t u d p q r w =
    removal_outlasted hides g (sampled_bay levels b) (pulls hides levels b s t u d p q r) (presses hides levels b s t u d) ((sampled levels b).wait_kept ∙ w)

-- An arrival and a press: the press is accepted 5 ticks before the device, and sets nothing, then or later.
pub record PressThenArrival (hides : Bool) (g : Setting) (b : Bay) : Type 0 where
  pub untold : (k : ℕ) → (ticked_for hides g k b).remreq_sts ≡ b.remreq_sts
  pub waiting : (k : ℕ) → k < 10 + g.wait_ticks → (ticked_for hides g k b).state ≡ 0
  pub arrived : (k : ℕ) → 10 + g.wait_ticks ≤ k → (ticked_for hides g k b).state ≡ cond b.control.devstschg_en 1 0

arrival_awaited : (hides : Bool) (g : Setting) (b : Bay) → Sound hides b → Coming 0 b → Pressing 0 b → PressThenArrival hides g b
arrival_awaited hides g b sound coming pressing =
    record {
      untold = λ k. (arrival_and_press hides g 0 0 b sound coming pressing k).told ∙ rw (lt-leb (0 + 5 + cond hides g.wait_ticks 0) 0 (omega arith), and-false (leb 5 (0 + k))) (or-false b.remreq_sts);
      waiting = λ k h. (arrival_and_press hides g 0 0 b sound coming pressing k).moves ∙ rw (lt-leb (10 + g.wait_ticks) (0 + k) (omega arith));
      arrived =
          λ k h. (arrival_and_press hides g 0 0 b sound coming pressing k).moves ∙ rw (le-leb (10 + g.wait_ticks) (0 + k) (omega arith), le-ltb (0 + 5 + g.wait_ticks) 0 (omega arith), and-false (leb 5 (0 + k)));
    }

pub press_then_arrival :
    (hides : Bool) (g : Setting) (levels : ℕ) (b : Bay) → Sound hides b → Still b → accepted_level b NREMREQ ≡ true → bit 1 levels ≡ false
    → contact b ≡ false → (bit 3 levels ≡ false) ⊎ (bit 2 levels ≡ false) → PressThenArrival hides g (sampled_bay levels b)
press_then_arrival hides g levels b s t u d p q =
    arrival_awaited hides g (sampled_bay levels b) (sampled_sound hides levels b s) (pushes hides levels b s t u d p q) (presses hides levels b s t u d)

-- ---- a release

-- It takes 5 ticks too, and sets nothing.
pub record Released (r k : ℕ) (before after : Bay) : Type 0 where
  pub button : accepted_level after NREMREQ ≡ leb 5 (r + k)
  pub untold : after.remreq_sts ≡ before.remreq_sts

module _ (hides : Bool) (g : Setting) (r : ℕ) (b : Bay) (releasing : Releasing r b) where
  comes_up : (k : ℕ) → accepted_level (ticked_for hides g k b) NREMREQ ≡ leb 5 (r + k)
  comes_up k = button_later hides g false r b releasing k ∙ not_below (r + k) 5

  stays_untold : (k : ℕ) → (ticked_for hides g k b).remreq_sts ≡ b.remreq_sts
  unfolding ticked_for
  stays_untold zero = refl
  stays_untold (suc k) = go (leb 5 (r + k)) refl ∙ stays_untold k
    where
      -- Before the fifth tick it is down, and from then on it stays up.
      go : (t : Bool) → leb 5 (r + k) ≡ t → (ticked_for hides g (suc k) b).remreq_sts ≡ (ticked_for hides g k b).remreq_sts
      go true e = (held_button hides g (ticked_for hides g k b) (comes_up (suc k) ∙ le-leb 5 (r + suc k) (omega (arith, leb-true 5 (r + k) e)) ∙ sym (comes_up k ∙ e))).untold
      go false e = (released_button hides g (ticked_for hides g k b) (comes_up k ∙ e)).untold

  pub release : (k : ℕ) → Released r k b (ticked_for hides g k b)
  release k = record { button = comes_up k; untold = stays_untold k }

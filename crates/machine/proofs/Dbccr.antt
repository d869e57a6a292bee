-- DBCCR (document 01, "Registers"): only the first write after a RESET counts, and count 1 closes bay 1. By cases on the address
-- that is written. Assumes nothing.
use Prim.Native.Nat.{ℕ}
use mathlib.Core.Path.{◌≡◌, refl, sym, subst, ◌∙◌, ap}
use mathlib.Core.Logic.{◌↔◌}
use mathlib.Core.Bool.{true, false, not, ◌&&◌, and-eq-true_iff, true≢false, and-false}
use lib.Dec.{eqb}
use borrow.Author.Tests.{eqb-true, not-true, not-false}
use Rattle.bay.proofs.Taut.{pick}
use Rattle.machine.specs.Record.{is_open, open_by}
use Rattle.machine.specs.InForce.{written}
use Rattle.machine.specs.After.{shared_written, first_kinds}
use Rattle.machine.specs.declared.Machine.{Machine}
use Rattle.machine.specs.declared.Shared.{Shared}
use Rattle.machine.proofs.After.{written_shared}
use Rattle.kind.specs.Kind.{is_second}

-- Bay 1 is closed exactly while the stored count is 1.
pub closed_exactly : (m : Machine) → (is_open m 1 ≡ false) ↔ (m.shared.bay_count ≡ 1)
unfolding open_by
closed_exactly m = (λ o. eqb-true _ _ (not-false (eqb m.shared.bay_count 1) o), λ e. rw e)

-- Whatever is written to DBCCR, even 0, it is written from then on ..
pub dbccr_marked : (v : ℕ) (m : Machine) → (written 0x0C v m).shared.dbccr_written ≡ true
unfolding shared_written
dbccr_marked v m =
    ap (λ (r : Shared). r.dbccr_written) (written_shared 0x0C v m)
    ∙ rw (and-false (not (is_second m.kind))) (pick (λ (r : Shared). r.dbccr_written ≡ true) (not m.shared.dbccr_written) (λ d. refl) (λ d. not-false _ d))

-- .. and once it is, no write to any address alters it.
pub record DbccrKept (before after : Machine) : Type 0 where
  pub marked : after.shared.dbccr_written ≡ true
  pub seclock : after.shared.seclock ≡ before.shared.seclock
  pub bay_count : after.shared.bay_count ≡ before.shared.bay_count

pub dbccr_once : (a v : ℕ) (m : Machine) → m.shared.dbccr_written ≡ true → DbccrKept m (written a v m)
unfolding shared_written
dbccr_once a v m d =
    let kept =
    subst P (sym (written_shared a v m))
    (pick P (eqb a 0x0C && not m.shared.dbccr_written) (λ h. absurd (true≢false (sym d ∙ not-true _ ((and-eq-true_iff (eqb a 0x0C) _).0 h).1)))
    (λ _. pick P (first_kinds m 0x40 a) (λ _. same) (λ _. pick P (first_kinds m 0x42 a) (λ _. same) (λ _. same))))
    in
    record { marked = kept.0; seclock = kept.1; bay_count = kept.2 }
  where
    P : Shared → Type 0
    P r = (r.dbccr_written ≡ true) × (r.seclock ≡ m.shared.seclock) × (r.bay_count ≡ m.shared.bay_count)

    same : P m.shared
    same = (d, refl, refl)

-- The call that names a kind (document 02, request 2; document 03, "Naming the kind"): which refusal exactly when, that a refused call leaves the
-- state, and what a number stores. Assumes nothing.
use Rattle.machine.specs.Record.{fits}
use Rattle.kind.specs.Kind.{numbered}
use Prim.Native.Nat.{ℕ}
use mathlib.Core.Path.{◌≡◌, refl}
use mathlib.Core.Logic.{◌↔◌, ◌≢◌, ◌⊎◌, inl, inr, ⊎_elim}
use native.Mathlib.Omega.{arith}
use Rattle.kind.specs.declared.Kind.TheVariants.{First, Second}
use mathlib.Core.Bool.{Bool, false, false≢true, true, true≢false}
use Rattle.dock.specs.declared.Controller.{Controller}
use Rattle.machine.specs.Acts.{does}
use lib.Dec.{eqb}
use borrow.Author.Tests.{eqb-false, eqb-true}
use Rattle.dock.specs.Name.{name_of, naming_refusal, name_fit, named_to, renamed}
use Rattle.kind.specs.declared.Kind.{Kind}
use Rattle.dock.specs.declared.Renamed.{Renamed}
use Rattle.bay.proofs.Taut.{pick}
use Rattle.machine.specs.declared.Act.TheVariants as act
use Rattle.dock.specs.declared.NamingRefusal.TheVariants.{NoSuchKind, Unfit}
use Rattle.std.specs.Prelude.{Err, Ok, Result}
use Rattle.kind.specs.declared.UnknownKind.{UnknownKind}

-- The refusal of a number n, of a state that may be named or not. In their order: 1, then 14.
pub record RefusedBy (n : ℕ) (usable : Bool) (r : ℕ) : Type 0 where
  -- 1: the state may not.
  pub one : (r ≡ 1) ↔ (usable ≡ false)
  -- 14: the number is neither.
  pub fourteen : (r ≡ 14) ↔ ((usable ≡ true) × (n ≢ 1) × (n ≢ 2))
  -- 0: none of these.
  pub none : (r ≡ 0) ↔ ((usable ≡ true) × ((n ≡ 1) ⊎ (n ≡ 2)))

module _ (n : ℕ) where
  pub given_1 : RefusedBy n false 1
  given_1 =
      record {
        one = (λ r. refl, λ u. refl);
        fourteen = (λ r. absurd (omega (arith, r)), λ u. absurd (false≢true u.0));
        none = (λ r. absurd (omega (arith, r)), λ u. absurd (false≢true u.0));
      }

  given_14 : n ≢ 1 → n ≢ 2 → RefusedBy n true 14
  given_14 p q =
      record {
        one = (λ r. absurd (omega (arith, r)), λ u. absurd (true≢false u));
        fourteen = (λ r. (refl, p, q), λ u. refl);
        none = (λ r. absurd (omega (arith, r)), λ u. absurd (⊎_elim p q u.1));
      }

  given_0 : (n ≡ 1) ⊎ (n ≡ 2) → RefusedBy n true 0
  given_0 p =
      record {
        one = (λ r. absurd (omega (arith, r)), λ u. absurd (true≢false u));
        fourteen = (λ r. absurd (omega (arith, r)), λ u. absurd (⊎_elim u.1 u.2 p));
        none = (λ r. (refl, p), λ u. refl);
      }

-- A state may be named exactly if it is fit; a refused call leaves it as given.
pub record NamedExactly (s : Controller) (n : ℕ) (r : Renamed) : Type 0 where
  pub refusal : RefusedBy n (fits s.machine) (naming_refusal r.naming)
  pub unchanged : naming_refusal r.naming ≢ 0 → r.controller ≡ s

module _ (s : Controller) (n : ℕ) where
  unfit : fits s.machine ≡ false → NamedExactly s n (renamed s (Err Unfit))
  unfit f = record { refusal = rw f (given_1 n); unchanged = λ z. refl }

  stored : fits s.machine ≡ true → (n ≡ 1) ⊎ (n ≡ 2) → (k : Kind) → NamedExactly s n (renamed (named_to k s) (Ok tt))
  stored f e k = record { refusal = rw f (given_0 n e); unchanged = λ z. absurd (z refl) }

  neither : fits s.machine ≡ true → n ≢ 1 → n ≢ 2 → NamedExactly s n (renamed s (Err NoSuchKind))
  neither f p q = record { refusal = rw f (given_14 n p q); unchanged = λ z. refl }

  pub named_exactly : NamedExactly s n (name_of s n)
  unfolding name_of numbered
  named_exactly =
      pick (NamedExactly s n) (fits s.machine)
      (λ f. pick P (eqb n 1) (λ p. stored f (inl (eqb-true n 1 p)) First)
      (λ p. pick P (eqb n 2) (λ q. stored f (inr (eqb-true n 2 q)) Second) (λ q. neither f (eqb-false n 1 p) (eqb-false n 2 q))))
      unfit
    where
      P : Result Kind UnknownKind → Type 0
      P u = NamedExactly s n (name_fit s u)

-- 1 names the first kind and 2 the second; the open command goes on.
pub record NamesKinds (s : Controller) : Type 0 where
  pub first : (name_of s 1).controller ≡ record { machine = does (act.Name First) s.machine; progress = s.progress }
  pub second : (name_of s 2).controller ≡ record { machine = does (act.Name Second) s.machine; progress = s.progress }

pub names_kinds : (s : Controller) → fits s.machine ≡ true → NamesKinds s
unfolding name_of numbered
names_kinds s f = record { first = rw f; second = rw f }

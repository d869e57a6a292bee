-- Naming a kind on a state held (document 03, "Naming the kind"): which refusal exactly when, that a refused call leaves every byte as it
-- came, and what is stored. Assumes nothing.
use Prim.Native.Nat.{ℕ}
use native.Mathlib.Omega.{arith}
use mathlib.Core.Path.{◌≡◌, refl, ap, sym, ◌∙◌}
use mathlib.Core.Logic.{◌≢◌}
use mathlib.Core.Bool.{Bool, true, false, cond, ◌&&◌, and-eq-true_iff}
use mathlib.Core.List.{List}
use Rattle.kind.specs.Kind.{kind_number}
use Rattle.kind.specs.declared.Kind.{Kind}
use Rattle.kind.proofs.Laws.{numbers}
use Rattle.machine.specs.Record.{fits}
use Rattle.dock.specs.Name.{naming_number, naming_refusal, named_to, name_of}
use Rattle.dock.specs.declared.Renamed.{Renamed}
use Rattle.dock.proofs.Named.{RefusedBy, given_1, named_exactly}
use Rattle.image.specs.Save.{saved}
use Rattle.image.specs.Load.{is_image, state_in}
use Rattle.image.specs.Shape.{Octets}
use Rattle.image.proofs.Whole.{image_whole}
use Rattle.image.proofs.RoundTrip.{saved_loaded}
use Rattle.link.specs.Held.{naming_in, named_in}
use Rattle.link.proofs.Refused.{usable}
use Rattle.dock.specs.declared.NamingRefusal.TheVariants.{NoSuchKind, Unfit}
use Rattle.dock.specs.declared.NamingRefusal.{NamingRefusal}
use Rattle.std.specs.Prelude.{Err, Result}

module _ (bytes : List ℕ) (n : ℕ) where
  -- What a call answers and leaves.
  abbrev pub Renames : Result (Unit {0}) NamingRefusal → List ℕ → Type 0
  Renames r left = (r ≡ naming_in bytes n) × (left ≡ named_in bytes n)

  pub names_nothing : is_image bytes ≡ false → Renames (Err Unfit) bytes
  unfolding naming_in named_in
  names_nothing h = rw h (refl, refl)

  module _ (h : is_image bytes ≡ true) (r : Renamed) (e : r ≡ name_of (state_in bytes) n) where
    pub names : Renames r.naming (saved r.controller)
    unfolding naming_in named_in
    names = rw (h, e) (refl, refl)

    -- One that is refused leaves the bytes, since they are the image of the state.
    pub names_refused : Octets bytes → (x : NamingRefusal) → r.naming ≡ Err x → Renames (Err x) bytes
    names_refused o x t = (sym t ∙ names.0, back ∙ names.1)
      where
        refused : (m : NamingRefusal) → naming_number m ≢ 0
        refused Unfit z = omega (arith, z)
        refused NoSuchKind z = omega (arith, z)

        same : r.controller ≡ state_in bytes
        same = ap (λ (x : Renamed). x.controller) e ∙ (named_exactly (state_in bytes) n).unchanged (rw (← ap (λ (y : Renamed). y.naming) e, t) (refused x))

        back : bytes ≡ saved r.controller
        back = sym (saved_loaded bytes o (image_whole bytes h)) ∙ ap saved (sym same)

  pub name_untouched : Octets bytes → naming_refusal (naming_in bytes n) ≢ 0 → named_in bytes n ≡ bytes
  unfolding naming_in named_in
  name_untouched o = go (is_image bytes) refl
    where
      go :
          (b : Bool) → is_image bytes ≡ b → naming_refusal (cond b (name_of (state_in bytes) n).naming (Err Unfit)) ≢ 0
          → cond b (saved (name_of (state_in bytes) n).controller) bytes ≡ bytes
      go true i z = ap saved ((named_exactly (state_in bytes) n).unchanged z) ∙ saved_loaded bytes o (image_whole bytes i)
      go false i z = refl

  -- 1 exactly where the bytes are no image of a fit state, then 14 where the number is neither 1 nor 2, and else 0.
  pub name_exactly : RefusedBy n (usable bytes) (naming_refusal (naming_in bytes n))
  unfolding naming_in
  name_exactly = go (is_image bytes)
    where
      go : (i : Bool) → RefusedBy n (i && fits (state_in bytes).machine) (naming_refusal (cond i (name_of (state_in bytes) n).naming (Err Unfit)))
      go true = (named_exactly (state_in bytes) n).refusal
      go false = given_1 n

  -- Stored is the name alone: the image is that of the machine after the act, and of the transfer in progress.
  pub name_stores : (k : Kind) → usable bytes ≡ true → n ≡ kind_number k → named_in bytes n ≡ saved (named_to k (state_in bytes))
  unfolding named_in name_of
  name_stores k u e =
      let both = (and-eq-true_iff (is_image bytes) (fits (state_in bytes).machine)).0 u in
      rw (both.0, both.1, e, numbers.own k)

-- What a caller knows once it has looked at what it loaded: bytes that have no state are no image, and else the state is theirs. Assumes nothing.
use Prim.Native.Nat.{ℕ}
use native.Mathlib.Omega.{arith}
use mathlib.Core.Path.{◌≡◌, refl, sym, ◌∙◌}
use mathlib.Core.Bool.{Bool, true, false, cond, false≢true}
use mathlib.Core.List.{List}
use Rattle.dock.specs.Record.{fresh_controller}
use Rattle.dock.specs.declared.Controller.{Controller}
use Rattle.image.specs.Load.{Verdict, whole, verdict_on, is_image, state_in, load_of, state_of}
use Rattle.image.specs.declared.Flaw.{Flaw}
use Rattle.std.specs.Prelude.{Option, Some, None, Ok, Err}

whole_is : (v : Verdict) → whole v ≡ true → v ≡ Ok tt
whole_is (Ok t) h = refl
whole_is (Err why) h = absurd (false≢true h)

pub image_whole : (bytes : List ℕ) → is_image bytes ≡ true → verdict_on bytes ≡ Ok tt
unfolding is_image
image_whole bytes h = whole_is (verdict_on bytes) h

pub no_value : {s : Controller} → ◌≡◌ {A = Option Controller} (Some s) None → ⊥
no_value e = let z : ◌≡◌ {A = ℕ} 0 1 = cc in omega arith

pub no_image : (bytes : List ℕ) (r : Option Controller) → r ≡ state_of bytes → ((s : Controller) → r ≡ Some s → ⊥) → is_image bytes ≡ false
unfolding state_of
no_image bytes r = go (is_image bytes)
  where
    go : (b : Bool) → r ≡ cond b (Some (state_in bytes)) None → ((s : Controller) → r ≡ Some s → ⊥) → b ≡ false
    go true e n = absurd (n (state_in bytes) e)
    go false e n = refl

pub is_image_lem : (bytes : List ℕ) (r : Option Controller) → r ≡ state_of bytes → (s : Controller) → r ≡ Some s → (is_image bytes ≡ true) × (s ≡ state_in bytes)
unfolding state_of
is_image_lem bytes r = go (is_image bytes)
  where
    go : (b : Bool) → r ≡ cond b (Some (state_in bytes)) None → (s : Controller) → r ≡ Some s → (b ≡ true) × (s ≡ state_in bytes)
    go true e s o = (refl, cc)
    go false e s o = absurd (no_value (sym o ∙ e))

-- The same of what `load` answers: beside a flaw stands a fresh state.
pub not_loaded : (bytes : List ℕ) (why : Flaw) → (load_of bytes).verdict ≡ Err why → (is_image bytes ≡ false) × ((load_of bytes).controller ≡ fresh_controller)
unfolding load_of is_image
not_loaded bytes why e = rw e (refl, refl)

pub loaded : (bytes : List ℕ) → (load_of bytes).verdict ≡ Ok tt → (is_image bytes ≡ true) × ((load_of bytes).controller ≡ state_in bytes)
unfolding load_of is_image
loaded bytes e = rw e (refl, refl)

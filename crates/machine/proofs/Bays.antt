-- A machine's two bays by number: what holds of bay 0 and of bay 1 holds of each, and a bay is where it was put. Assumes nothing.
use Prim.Native.Nat.{ℕ}
use mathlib.Core.Path.{◌≡◌, refl}
use mathlib.Core.Bool.{Bool, true, false, not, cond}
use mathlib.Core.List.{List, [], ◌∷◌}
use lib.Dec.{eqb}
use Rattle.bay.specs.declared.Bay.{Bay}
use Rattle.bay.proofs.Taut.{pick}
use Rattle.machine.specs.Record.{bay0, bay1, bay_at, bay_in, placed, with_bays, with_bay}
use Rattle.machine.specs.declared.Machine.{Machine}

-- Bay i of a list of two.
pub each : (P : Bay → Type 0) (bs : List Bay) → P (bay0 bs) → P (bay1 bs) → (i : ℕ) → P (bay_in bs i)
unfolding bay_in
each P bs p q i = pick P (eqb i 0) (λ e. p) (λ e. q)

-- A list with this bay as its first or as its second.
two : Bool → Bay → List Bay → List Bay
two first b bs = cond first (b ∷ bay1 bs ∷ []) (bay0 bs ∷ b ∷ [])

-- Bay i is then the one that was put there.
pub put_bay : (i : ℕ) (b : Bay) (bs : List Bay) → bay_in (placed i b bs) i ≡ b
unfolding bay_in placed two
put_bay i b bs = go (eqb i 0)
  where
    go : (t : Bool) → cond t (bay0 (two t b bs)) (bay1 (two t b bs)) ≡ b
    go true = refl
    go false = refl

-- A change for bay i, written down for each bay.
pub meant :
    (f : Bay → Bay) (i : ℕ) (m : Machine)
    → with_bays (cond (eqb i 0) (f (bay0 m.bays)) (bay0 m.bays) ∷ cond (not (eqb i 0)) (f (bay1 m.bays)) (bay1 m.bays) ∷ []) m
    ≡ with_bay i (f (bay_at m i)) m
unfolding bay_in placed two
meant f i m = go (eqb i 0)
  where
    go :
        (z : Bool)
        → with_bays (cond z (f (bay0 m.bays)) (bay0 m.bays) ∷ cond (not z) (f (bay1 m.bays)) (bay1 m.bays) ∷ []) m
        ≡ with_bays (two z (f (cond z (bay0 m.bays) (bay1 m.bays))) m.bays) m
    go true = refl
    go false = refl

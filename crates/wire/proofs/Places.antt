-- Words at the start of the places lent. Assumes nothing.
use Prim.Native.Nat.{ℕ, ◌<◌, ◌≤◌}
use native.Mathlib.Omega.{arith}
use mathlib.Core.Path.{◌≡◌, refl, ap, ◌∙◌}
use mathlib.Core.List.{List, [], ◌∷◌, ◌++◌}
use lib.ListN.{length, drop, set, length-append, length-drop}
use Rattle.wire.specs.Listen.{written}

pub written_none : (places : List ℕ) → written [] places ≡ places
unfolding written
written_none places = refl

pub written_length : (ws places : List ℕ) → length ws ≤ length places → length (written ws places) ≡ length places
unfolding written
written_length ws places l = length-append ws (drop (length ws) places) ∙ omega (arith, length-drop (length ws) places)

-- Some words, and one right after them.
pub written_then : (ws : List ℕ) (w : ℕ) (places : List ℕ) → length ws < length places → set (written ws places) (length ws) w ≡ written (ws ++ (w ∷ [])) places
unfolding written
written_then [] w [] l = absurd (omega (arith, l))
written_then [] w (p ∷ places) l = refl
written_then (v ∷ ws) w [] l = absurd (omega (arith, l))
written_then (v ∷ ws) w (p ∷ places) l = ap (λ ps. v ∷ ps) (written_then ws w places (omega (arith, l)))

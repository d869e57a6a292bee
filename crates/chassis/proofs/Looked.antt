-- The verdict of the standings that are looked at is the rule's: for one to four records they are the records' own, followed by places of nobody's,
-- and a list of any other length is refused before a standing counts. Assumes nothing.
use Prim.Native.Nat.{ℕ, suc}
use native.Mathlib.Omega.{arith}
use mathlib.Core.Path.{◌≡◌, refl}
use mathlib.Core.Bool.{true, or-true}
use mathlib.Core.List.{List, [], ◌∷◌}
use lib.Dec.{ltb}
use lib.ListN.{length}
use borrow.Author.Tests.{lt-ltb}
use Rattle.dock.specs.declared.Controller.{Controller}
use Rattle.chassis.specs.Judge.{MOST, standings, judged, verdict_of}
use Rattle.chassis.specs.Looking.{looked_at, begun, seen_to}
use Rattle.chassis.proofs.Nobody.{judged_followed}

too_many : (n : ℕ) → ltb MOST (suc (suc (suc (suc (suc n))))) ≡ true
too_many n = lt-ltb 4 (suc (suc (suc (suc (suc n))))) (omega arith)

pub judged_seen : (cs : List Controller) (n w : ℕ) → judged (length cs) (seen_to begun (looked_at (length cs)) cs).standings n w ≡ verdict_of cs n w
unfolding seen_to judged
judged_seen [] n w = refl
judged_seen (a ∷ []) n w = judged_followed 1 (standings (a ∷ [])) 3 n w
judged_seen (a ∷ (b ∷ [])) n w = judged_followed 2 (standings (a ∷ (b ∷ []))) 2 n w
judged_seen (a ∷ (b ∷ (c ∷ []))) n w = judged_followed 3 (standings (a ∷ (b ∷ (c ∷ [])))) 1 n w
judged_seen (a ∷ (b ∷ (c ∷ (d ∷ [])))) n w = refl
judged_seen (a ∷ (b ∷ (c ∷ (d ∷ (e ∷ cs))))) n w = rw (too_many (length cs), or-true)

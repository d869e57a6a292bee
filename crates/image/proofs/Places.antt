-- Each field of a state stands at the layout's place, and each command in progress has its number. Assumes nothing.
use Prim.Native.Nat.{ℕ}
use mathlib.Core.Path.{◌≡◌, refl}
use mathlib.Core.List.{[], ◌∷◌, map}
use lib.ListN.{drop}
use Rattle.bus.specs.declared.Progress.TheVariants.{Idle, Opened, Addressed, Register, Data, Again, Reading, Writing, Sending}
use Rattle.dock.specs.declared.Controller.{Controller}
use Rattle.image.specs.Layout.{PROGRESS}
use Rattle.image.specs.Save.{progress_bytes, saved}
use Rattle.image.specs.Load.{byte_at}
use Rattle.image.specs.Places.{places_of}

pub places : (s : Controller) → map (λ e. byte_at (saved s) e.0) (places_of s.machine) ≡ map (λ e. e.1) (places_of s.machine)
unfolding saved
places s = refl

pub commands :
    (r v : ℕ)
    → map progress_bytes (Idle ∷ Opened ∷ Addressed ∷ Register r ∷ Data r v ∷ Again r ∷ Reading v ∷ Writing r ∷ Sending r v ∷ [])
    ≡ (0 ∷ 0 ∷ 0 ∷ []) ∷ (1 ∷ 0 ∷ 0 ∷ []) ∷ (2 ∷ 0 ∷ 0 ∷ []) ∷ (3 ∷ r ∷ 0 ∷ []) ∷ (4 ∷ r ∷ v ∷ []) ∷ (5 ∷ r ∷ 0 ∷ []) ∷ (6 ∷ v ∷ 0 ∷ [])
    ∷ (7 ∷ r ∷ 0 ∷ []) ∷ (8 ∷ r ∷ v ∷ []) ∷ []
unfolding progress_bytes
commands r v = refl

-- The three bytes of the command in progress are the last.
pub last_three : (s : Controller) → drop PROGRESS (saved s) ≡ progress_bytes s.progress
unfolding saved
last_three s = refl

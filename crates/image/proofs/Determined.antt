-- The contract of each exported function, as the checker reads it, determines its answer. Assumes nothing.
use Prim.Native.Nat.{ℕ}
use mathlib.Core.Path.{◌≡◌, ◌∙◌, sym}
use mathlib.Core.List.{List}
use denote.Ref.{Bor}
use Rattle.dock.specs.declared.Controller.{Controller}
use Rattle.image.specs.declared.Flaw.{Flaw}
use Rattle.std.specs.Prelude.{Option, Result}
use Rattle.image.proofs.save.fresh.Reads as fresh_reads
use Rattle.image.proofs.save.save.Reads as save_reads
use Rattle.image.specs.declared.Loaded.{Loaded}
use Rattle.image.proofs.load.checked.Reads as checked_reads
use Rattle.image.proofs.load.load.Reads as load_reads
use Rattle.image.proofs.load.state_of.Reads as state_of_reads

pub fresh_determined : (r t : List ℕ) → fresh_reads.Post tt tt r tt → fresh_reads.Post tt tt t tt → r ≡ t
fresh_determined r t p q = p ∙ sym q

pub save_determined : (s : Controller) (r t : List ℕ) → save_reads.Post tt (s, tt) r (s, tt) → save_reads.Post tt (s, tt) t (s, tt) → r ≡ t
save_determined s r t p q = p ∙ sym q

pub checked_determined :
    (κs : _) (image : Bor (List ℕ)) (r t : Result Controller Flaw) → checked_reads.Post κs (image, tt) r (image, tt) → checked_reads.Post κs (image, tt) t (image, tt) → r ≡ t
checked_determined κs image r t p q = p ∙ sym q

pub load_determined :
    (κs : _) (image : Bor (List ℕ)) (r t : Loaded) → load_reads.Post κs (image, tt) r (image, tt) → load_reads.Post κs (image, tt) t (image, tt) → r ≡ t
load_determined κs image r t p q = p ∙ sym q

pub state_of_determined :
    (κs : _) (image : Bor (List ℕ)) (r t : Option Controller) → state_of_reads.Post κs (image, tt) r (image, tt) → state_of_reads.Post κs (image, tt) t (image, tt) → r ≡ t
state_of_determined κs image r t p q = p ∙ sym q

-- The four places of the bench: `chassis` makes them anew, and each of the four gives back what was put there. Assumes nothing.
use Prim.Native.Nat.{ℕ, ◌<◌}
use mathlib.Core.Path.{◌≡◌, refl}
use mathlib.Core.List.{List, [], ◌∷◌}
use lib.ListN.{length}
use lib.Seq.{get_or-set_same}
use borrow.Author.Tests.{lt-ltb}
use Rattle.dock.specs.Record.{fresh_controller}
use Rattle.dock.specs.declared.Controller.{Controller}
use Rattle.chassis.specs.declared.Chassis.{Chassis}
use Rattle.script.specs.declared.Order.TheVariants.{Docks}
use Rattle.bench.specs.Docks.{no_record, record_at, with_record, levels_at, with_levels}
use Rattle.bench.specs.Orders.{fresh_docks, obeyed}
use Rattle.bench.specs.declared.Bench.{Bench}

-- `chassis n`: so many docks, each fresh, the first chosen, all levels at rest; the host speaks to what it spoke to.
pub record Anew (n : ℕ) (b after : Bench) : Type 0 where
  pub docks : after.chassis.count ≡ n
  pub fresh : after.chassis.records ≡ fresh_controller ∷ fresh_controller ∷ fresh_controller ∷ fresh_controller ∷ []
  pub chosen : after.dock ≡ 0
  pub at_rest : after.levels ≡ 0xFF ∷ 0xFF ∷ 0xFF ∷ 0xFF ∷ []
  pub speaks_to : after.address ≡ b.address

pub docks_anew : (n : ℕ) (t : List ℕ) (b : Bench) → Anew n b (obeyed (Docks n) t b)
unfolding obeyed fresh_docks
docks_anew n t b = record { docks = refl; fresh = refl; chosen = refl; at_rest = refl; speaks_to = refl }

module _ (d : ℕ) (place : d < 4) where
  pub record_back : (c : Controller) (h : Chassis) → length h.records ≡ 4 → record_at d (with_record d c h) ≡ c
  unfolding record_at with_record
  record_back c h four = rw (lt-ltb d 4 place) (get_or-set_same h.records d c no_record (rw four place))

  pub levels_back : (l : ℕ) (ls : List ℕ) → length ls ≡ 4 → levels_at d (with_levels d l ls) ≡ l
  unfolding levels_at with_levels
  levels_back l ls four = rw (lt-ltb d 4 place) (get_or-set_same ls d l 0 (rw four place))

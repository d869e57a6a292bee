-- Which refusal is given exactly when (document 01, "Replies and refusal numbers", the table's second column).
use Rattle.std.specs.Prelude.{ℕ, ◌≡◌, ◌↔◌, ◌⊎◌, Bool, true, false}
use Rattle.event.specs.Words.{unpacked, StrayBitSet}
use Rattle.event.specs.declared.Event.TheVariants.{Reset}
use Rattle.machine.specs.Record.{fits}
use Rattle.dock.specs.declared.Controller.{Controller}
use Rattle.std.specs.Prelude.{Ok}

abbrev pub IsReset : ℕ → Type 0
IsReset w = (straps : ℕ) × (levels : ℕ) × (short : Bool) × (unpacked w ≡ Ok (Reset straps levels short))

-- The refusal number n of a word w in a state s. In their order: 1, 2, 3.
pub record Exactly (s : Controller) (w n : ℕ) : Type 0 where
  -- 1: the state isn't fit.
  pub one : (n ≡ 1) ↔ (fits s.machine ≡ false)
  -- 2: a bit that must be 0 is set.
  pub two : (n ≡ 2) ↔ ((fits s.machine ≡ true) × StrayBitSet w)
  -- 3: no RESET yet and this isn't one.
  pub three : (n ≡ 3) ↔ ((fits s.machine ≡ true) × (StrayBitSet w → ⊥) × (s.machine.started ≡ false) × (IsReset w → ⊥))
  -- 0: none of these.
  pub none : (n ≡ 0) ↔ ((fits s.machine ≡ true) × (StrayBitSet w → ⊥) × ((s.machine.started ≡ true) ⊎ IsReset w))

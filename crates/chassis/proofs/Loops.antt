-- One record more in each of the two loops over a list: what has been looked at, and what has been passed and gathered, after i records and after one
-- more. By induction along the list. Assumes nothing.
use mathlib.Core.Path.{◌≡◌, refl, sym, ◌∙◌, ap}
use Prim.Native.Nat.{ℕ, zero, suc, ◌+◌, ◌<◌, ◌≤◌, zero-le}
use mathlib.Core.Bool.{Bool, true, false, cond}
use lib.Dec.{ltb}
use native.Mathlib.Nat.{not-suc-le-zero, le_of_suc-le-suc}
use native.Mathlib.Numerals.{add-one}
use native.Mathlib.Omega.{arith}
use mathlib.Core.List.{List, [], ◌∷◌, ◌++◌}
use lib.ListN.{length, get_or, set, take, drop}
use Rattle.dock.specs.declared.Controller.{Controller}
use Rattle.chassis.specs.declared.Errand.{Errand}
use Rattle.chassis.specs.declared.Round.{Round}
use Rattle.chassis.specs.declared.Seen.{Seen}
use Rattle.chassis.specs.Looking.{looked_at, seen_with, seen_to}
use Rattle.chassis.specs.Passing.{passed_of, places_by, records_to, round_to}
use Rattle.chassis.specs.declared.Refusal.{Refusal}
use Rattle.event.specs.declared.Event.{Event}
use Rattle.std.specs.Prelude.{Err, Ok, Result}

-- ---- looking

-- No more are looked at than there are.
pub looked_within : (n : ℕ) → looked_at n ≤ n
looked_within n = go (ltb 4 n)
  where
    go : (t : Bool) → cond t 0 n ≤ n
    go true = zero-le
    go false = omega arith

pub seen_none : (s : Seen) (cs : List Controller) → seen_to s 0 cs ≡ s
unfolding seen_to
seen_none s cs = refl

seen_suc : (s : Seen) (i : ℕ) (cs : List Controller) (d : Controller) → i < length cs → seen_with (seen_to s i cs) (get_or cs i d) ≡ seen_to s (suc i) cs
unfolding seen_to
seen_suc s zero [] d l = absurd (not-suc-le-zero l)
seen_suc s zero (c ∷ cs) d l = refl
seen_suc s (suc i) [] d l = absurd (not-suc-le-zero l)
seen_suc s (suc i) (c ∷ cs) d l = seen_suc (seen_with s c) i cs d (le_of_suc-le-suc l)

pub seen_next : (s : Seen) (i : ℕ) (cs : List Controller) (d : Controller) → i < length cs → seen_with (seen_to s i cs) (get_or cs i d) ≡ seen_to s (i + 1) cs
seen_next s i cs d l = seen_suc s i cs d l ∙ ap (λ (j : ℕ). seen_to s j cs) (sym (add-one i))

-- Those looked at are the first of the list.
pub seen_take : (s : Seen) (n : ℕ) (cs : List Controller) → seen_to s n (take n cs) ≡ seen_to s n cs
unfolding seen_to
seen_take s zero cs = refl
seen_take s (suc n) [] = refl
seen_take s (suc n) (c ∷ cs) = seen_take (seen_with s c) n cs

-- ---- passing

-- No more are passed than there are.
pub places_within : (v : Result Event Refusal) (n : ℕ) → places_by v n ≤ n
places_within (Ok e) n = omega arith
places_within (Err x) n = omega arith

module _ (r : Errand) where
  pub records_none : (y : Round) (cs : List Controller) → records_to r y 0 cs ≡ cs
  unfolding records_to
  records_none y cs = refl

  pub round_none : (y : Round) (cs : List Controller) → round_to r y 0 cs ≡ y
  unfolding round_to
  round_none y cs = refl

  pub records_length : (y : Round) (i : ℕ) (cs : List Controller) → length (records_to r y i cs) ≡ length cs
  unfolding records_to
  records_length y zero cs = refl
  records_length y (suc i) [] = refl
  records_length y (suc i) (c ∷ cs) = ap suc (records_length (passed_of r y c).round i cs)

  -- Those passed are the first of the list, and the rest is as it came.
  pub records_take : (y : Round) (n : ℕ) (cs : List Controller) → records_to r y n (take n cs) ++ drop n cs ≡ records_to r y n cs
  unfolding records_to
  records_take y zero cs = refl
  records_take y (suc n) [] = refl
  records_take y (suc n) (c ∷ cs) = ap (λ (t : List Controller). (passed_of r y c).controller ∷ t) (records_take (passed_of r y c).round n cs)

  pub round_take : (y : Round) (n : ℕ) (cs : List Controller) → round_to r y n (take n cs) ≡ round_to r y n cs
  unfolding round_to
  round_take y zero cs = refl
  round_take y (suc n) [] = refl
  round_take y (suc n) (c ∷ cs) = round_take (passed_of r y c).round n cs

  -- The record that is passed next is as it came.
  pub record_waits : (y : Round) (i : ℕ) (cs : List Controller) (d : Controller) → get_or (records_to r y i cs) i d ≡ get_or cs i d
  unfolding records_to
  record_waits y zero cs d = refl
  record_waits y (suc i) [] d = refl
  record_waits y (suc i) (c ∷ cs) d = record_waits (passed_of r y c).round i cs d

  records_suc :
      (y : Round) (i : ℕ) (cs : List Controller) (d : Controller) → i < length cs
      → set (records_to r y i cs) i (passed_of r (round_to r y i cs) (get_or (records_to r y i cs) i d)).controller ≡ records_to r y (suc i) cs
  unfolding records_to round_to
  records_suc y zero [] d l = absurd (not-suc-le-zero l)
  records_suc y zero (c ∷ cs) d l = refl
  records_suc y (suc i) [] d l = absurd (not-suc-le-zero l)
  records_suc y (suc i) (c ∷ cs) d l = ap (λ (t : List Controller). (passed_of r y c).controller ∷ t) (records_suc (passed_of r y c).round i cs d (le_of_suc-le-suc l))

  round_suc :
      (y : Round) (i : ℕ) (cs : List Controller) (d : Controller) → i < length cs
      → (passed_of r (round_to r y i cs) (get_or (records_to r y i cs) i d)).round ≡ round_to r y (suc i) cs
  unfolding records_to round_to
  round_suc y zero [] d l = absurd (not-suc-le-zero l)
  round_suc y zero (c ∷ cs) d l = refl
  round_suc y (suc i) [] d l = absurd (not-suc-le-zero l)
  round_suc y (suc i) (c ∷ cs) d l = round_suc (passed_of r y c).round i cs d (le_of_suc-le-suc l)

  pub records_next :
      (y : Round) (i : ℕ) (cs : List Controller) (d : Controller) → i < length cs
      → set (records_to r y i cs) i (passed_of r (round_to r y i cs) (get_or (records_to r y i cs) i d)).controller ≡ records_to r y (i + 1) cs
  records_next y i cs d l = records_suc y i cs d l ∙ ap (λ (j : ℕ). records_to r y j cs) (sym (add-one i))

  pub round_next :
      (y : Round) (i : ℕ) (cs : List Controller) (d : Controller) → i < length cs
      → (passed_of r (round_to r y i cs) (get_or (records_to r y i cs) i d)).round ≡ round_to r y (i + 1) cs
  round_next y i cs d l = round_suc y i cs d l ∙ ap (λ (j : ℕ). round_to r y j cs) (sym (add-one i))

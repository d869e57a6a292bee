-- The table of ranges is `fit`, number by number, in both kinds: a state whose numbers are all within it is fit, so of one that isn't the
-- number that is named is out of its range; and each stands where its place says. Assumes nothing.
use Prim.Native.Nat.{ℕ, zero, suc, ◌+◌, ◌<◌, ◌≤◌}
use native.Mathlib.Omega.{arith}
use mathlib.Core.Bool.{Bool, true, false, cond, ◌||◌, true≢false}
use mathlib.Core.Path.{◌≡◌, refl, sym, ◌∙◌}
use mathlib.Core.List.{List, [], ◌∷◌, ◌++◌, map}
use Rattle.std.proofs.Common.{Option, Some, None, subst}
use Rattle.std.specs.Option.{option_or}
use Rattle.std.proofs.lemmas.List.Folds.{find-append}
use lib.Dec.{eqb}
use lib.ListN.{length, get_or}
use borrow.Author.Tests.{le-leb, lt-ltb, ltb-true, ltb-false}
use Rattle.kind.specs.declared.Kind.{Kind}
use Rattle.kind.specs.declared.Kind.TheVariants.{First, Second}
use Rattle.second.specs.Record.{fits as second_fits}
use Rattle.bay.specs.Record.{bay_fit, count}
use Rattle.machine.specs.Record.{bay0, bay1, most_pulse, most_wait, bay_in, fits}
use Rattle.machine.specs.declared.Machine.{Machine}
use Rattle.image.specs.Layout.{BYTES}
use Rattle.pairs.specs.Pairs.{wide}
use Rattle.image.specs.Load.{byte_at, machine_in}
use Rattle.image.proofs.Elements.{by_elements}
use Rattle.paste.specs.Ranges.{ranged, is_out, longest, ranged_of, first_out, out_of}
use Rattle.paste.specs.declared.Ranged.{Ranged}

-- The number that the search ends at is out of its range ..
pub ends_out : (ns : List Ranged) (o : Ranged) → first_out ns ≡ Some o → o.last < o.value
ends_out [] o h = cc
ends_out (n ∷ ns) o h = go (is_out n) refl h (ends_out ns o)
  where
    go : (b : Bool) → is_out n ≡ b → cond b (Some n) (first_out ns) ≡ Some o → (first_out ns ≡ Some o → o.last < o.value) → o.last < o.value
    go true e h later = let same : n ≡ o = cc in subst (λ (x : Ranged). x.last < x.value) same (ltb-true n.last n.value e)
    go false e h later = later h

-- .. and where it ends at none, all are in theirs.
all_in : (ns : List Ranged) → first_out ns ≡ None → (i : ℕ) (d : Ranged) → i < length ns → (get_or ns i d).value ≤ (get_or ns i d).last
all_in [] h i d less = absurd (omega arith)
all_in (n ∷ ns) h i d less = go (is_out n) refl h i less (λ k e l. all_in ns e k d l)
  where
    go : (b : Bool) → is_out n ≡ b → cond b (Some n) (first_out ns) ≡ None → (j : ℕ) → j < length (n ∷ ns)
        → ((k : ℕ) → first_out ns ≡ None → k < length ns → (get_or ns k d).value ≤ (get_or ns k d).last)
        → (get_or (n ∷ ns) j d).value ≤ (get_or (n ∷ ns) j d).last
    go true e h j l later = cc
    go false e h zero l later = ltb-false n.last n.value e
    go false e h (suc j) l later = later j h (omega arith)

-- With a kind in force the longest pulse and wait are those of `fits`.
longest_are : (k : Kind) → longest k ≡ (most_pulse k, most_wait k)
unfolding longest
longest_are First = refl
longest_are Second = refl

module _ (m : Machine) where
  all_fit : first_out (ranged_of m) ≡ None → fits m ≡ true
  unfolding fits second_fits bay_in bay_fit
  all_fit none =
      rw (
        lt-ltb m.phase 200 (omega (arith, within 3 (omega arith))),
        le-leb m.straps 15 (within 0 (omega arith)),
        le-leb m.shared.lock_time 3 (within 2 (omega arith)),
        le-leb m.shared.bay_count 3 (within 1 (omega arith)),
        le-leb (get_or m.second.form_factors 0 0) 7 (within 4 (omega arith)),
        le-leb (get_or m.second.form_factors 1 0) 7 (within 5 (omega arith)),
        lt-ltb (count (bay0 m.bays) 0) 10 (omega (arith, within 6 (omega arith))),
        lt-ltb (count (bay0 m.bays) 1) 10 (omega (arith, within 7 (omega arith))),
        lt-ltb (count (bay0 m.bays) 2) 5 (omega (arith, within 8 (omega arith))),
        le-leb (bay0 m.bays).state 4 (within 9 (omega arith)),
        le-leb (bay0 m.bays).control.request 4 (within 10 (omega arith)),
        le-leb (bay0 m.bays).pulse (most_pulse m.kind) (rw longest_are at (within 11 (omega arith))),
        le-leb (bay0 m.bays).wait (most_wait m.kind) (rw longest_are at (within 12 (omega arith))),
        lt-ltb (count (bay1 m.bays) 0) 10 (omega (arith, within 13 (omega arith))),
        lt-ltb (count (bay1 m.bays) 1) 10 (omega (arith, within 14 (omega arith))),
        lt-ltb (count (bay1 m.bays) 2) 5 (omega (arith, within 15 (omega arith))),
        le-leb (bay1 m.bays).state 4 (within 16 (omega arith)),
        le-leb (bay1 m.bays).control.request 4 (within 17 (omega arith)),
        le-leb (bay1 m.bays).pulse (most_pulse m.kind) (rw longest_are at (within 18 (omega arith))),
        le-leb (bay1 m.bays).wait (most_wait m.kind) (rw longest_are at (within 19 (omega arith))),
      )
    where
      within : (i : ℕ) → i < 20 → (get_or (ranged_of m) i (ranged 0 0 0)).value ≤ (get_or (ranged_of m) i (ranged 0 0 0)).last
      within i h = all_in (ranged_of m) none i (ranged 0 0 0) h

  -- Of a state that isn't fit a number is named, and it is out of its range.
  pub named_is_out : fits m ≡ false → (o : Ranged) × (out_of m ≡ Some o) × (o.last < o.value)
  unfolding out_of
  named_is_out unfit = go (first_out (ranged_of m)) refl
    where
      go : (o : Option Ranged) → first_out (ranged_of m) ≡ o → (o : Ranged) × (first_out (ranged_of m) ≡ Some o) × (o.last < o.value)
      go (Some o) e = (o, e, ends_out (ranged_of m) o e)
      go None e = absurd (true≢false (sym (all_fit e) ∙ unfit))

-- ---- what the code finds

-- The first of four lists' numbers, one after the other.
pub in_turn : (ws xs ys zs : List Ranged)
    → option_or (option_or (option_or (first_out ws) (first_out xs)) (first_out ys)) (first_out zs) ≡ first_out (((ws ++ xs) ++ ys) ++ zs)
in_turn ws xs ys zs = rw (find-append is_out ((ws ++ xs) ++ ys) zs, find-append is_out (ws ++ xs) ys, find-append is_out ws xs)

-- ---- where the numbers stand

-- What stands at a place of an image: of a pulse and of a wait two bytes, the high one first.
abbrev pub is_wide : ℕ → Bool
is_wide p = eqb p 58 || eqb p 60 || eqb p 67 || eqb p 69

abbrev pub number_at : List ℕ → ℕ → ℕ
number_at bytes p = cond (is_wide p) (wide (byte_at bytes p) (byte_at bytes (p + 1))) (byte_at bytes p)

-- So each number begins where it is said to.
pub stands : (bytes : List ℕ) → length bytes ≡ BYTES
    → map (λ (n : Ranged). number_at bytes n.at) (ranged_of (machine_in bytes)) ≡ map (λ (n : Ranged). n.value) (ranged_of (machine_in bytes))
stands = by_elements 0 BYTES _ (λ f. refl)

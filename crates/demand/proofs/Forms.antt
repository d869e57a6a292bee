-- Bus events against the slots of the forms of either kind: what fills some slots begins them and any more, and where no form begins nothing is
-- complete or decided. Assumes nothing.
use Prim.Native.Nat.{ℕ, suc}
use Rattle.demand.specs.Bus.{BYTE, Bus, Slot, TAKE, bytes_in, fills, begins}
use mathlib.Core.Bool.{Bool, ◌&&◌, ◌||◌, and-eq-true_iff, and-false, and-true, false, false≢true, or-false, or-true, true}
use Rattle.kind.specs.declared.Kind.TheVariants.{First, Second}
use Rattle.kind.specs.declared.Kind.{Kind}
use mathlib.Core.List.{List, [], ◌++◌, ◌∷◌, map}
use Rattle.demand.specs.Transfers.{Transfer, ends_by, goes_by, last_of, on, open_by, over, second_completes, second_decides, second_goes_on, sending, takes_in, writing, within, none}
use mathlib.Core.Path.{◌∙◌, ◌≡◌, ap, refl, sym}
use Rattle.demand.specs.Described.{completes, decides, is_going_on}
use Rattle.demand.specs.Commands.{first_completes, first_decides, first_goes_on, read_form, whole, write_form}
use lib.ListN.{length}

-- Bus events that fill some slots begin the slots and any more, fill no more slots, and fill more with what fills the rest.
pub fill_begin : (xs ys : List Slot) (es : List Bus) → fills xs es ≡ true → begins (xs ++ ys) es ≡ true
fill_begin [] ys [] h = refl
fill_begin [] ys (e ∷ es) h = absurd (false≢true h)
fill_begin (x ∷ xs) ys [] h = absurd (false≢true h)
fill_begin (x ∷ xs) ys (e ∷ es) h = let b = (and-eq-true_iff (x e) (fills xs es)).0 h in (and-eq-true_iff _ _).1 (b.0, fill_begin xs ys es b.1)

pub fill_less : (xs : List Slot) (y : Slot) (es : List Bus) → fills xs es ≡ true → fills (xs ++ (y ∷ [])) es ≡ false
fill_less [] y [] h = refl
fill_less [] y (e ∷ es) h = absurd (false≢true h)
fill_less (x ∷ xs) y [] h = absurd (false≢true h)
fill_less (x ∷ xs) y (e ∷ es) h = let b = (and-eq-true_iff (x e) (fills xs es)).0 h in rw b.0 (fill_less xs y es b.1)

pub fill_more : (xs ys : List Slot) (es fs : List Bus) → fills xs es ≡ true → fills ys fs ≡ true → fills (xs ++ ys) (es ++ fs) ≡ true
fill_more [] ys [] fs h k = k
fill_more [] ys (e ∷ es) fs h k = absurd (false≢true h)
fill_more (x ∷ xs) ys [] fs h k = absurd (false≢true h)
fill_more (x ∷ xs) ys (e ∷ es) fs h k =
    let b = (and-eq-true_iff (x e) (fills xs es)).0 h in (and-eq-true_iff _ _).1 (b.0, fill_more xs ys es fs b.1 k)

-- ---- where no form begins

-- Slots that aren't begun aren't filled, nor are the first of them.
unfilled : (xs ys : List Slot) (es : List Bus) → begins (xs ++ ys) es ≡ false → fills xs es ≡ false
unfilled xs ys es n = go (fills xs es) refl
  where
    go : (t : Bool) → fills xs es ≡ t → t ≡ false
    go true h = absurd (false≢true (sym n ∙ fill_begin xs ys es h))
    go false h = refl

neither : (a b : Bool) → (a || (b || false)) ≡ false → (a ≡ false) × (b ≡ false)
neither true b h = absurd (false≢true (sym h))
neither false true h = absurd (false≢true (sym h))
neither false false h = (refl, refl)

either_not : (a b : Bool) → (a || b) ≡ false → (a ≡ false) × (b ≡ false)
either_not true b h = absurd (false≢true (sym h))
either_not false true h = absurd (false≢true (sym h))
either_not false false h = (refl, refl)

-- ---- the second kind

-- A transfer that is over has gone on, and so has one that is open.
over_on : (again last : Slot) (es : List Bus) → over again last es ≡ true → on again last es ≡ true
over_on again last [] h = absurd (false≢true h)
over_on again last (e ∷ es) h = go (again e) (over again last es) (on again last es) (last e && none es) (over_on again last es) h
  where
    go : (a o p l : Bool) → (o ≡ true → p ≡ true) → (a && o || l) ≡ true → (a && p || l) ≡ true
    go true true p l k q = rw (k refl)
    go true false p l k q = rw q (or-true (true && p))
    go false o p l k q = q

within_on : (again last : Slot) (es : List Bus) → within again es ≡ true → on again last es ≡ true
within_on again last [] h = refl
within_on again last (e ∷ es) h = let b = (and-eq-true_iff (again e) (within again es)).0 h in rw (b.0, within_on again last es b.1)

ends_goes : (t : Transfer) (slots : List Slot) (es : List Bus) → ends_by t slots es ≡ true → goes_by t slots es ≡ true
ends_goes t [] es h = over_on t.repeated t.closing es h
ends_goes t (x ∷ xs) [] h = refl
ends_goes t (x ∷ xs) (e ∷ es) h = let b = (and-eq-true_iff (x e) (ends_by t xs es)).0 h in (and-eq-true_iff _ _).1 (b.0, ends_goes t xs es b.1)

open_goes : (t : Transfer) (slots : List Slot) (es : List Bus) → open_by t slots es ≡ true → goes_by t slots es ≡ true
open_goes t [] es h = within_on t.repeated t.closing es h
open_goes t (x ∷ xs) [] h = refl
open_goes t (x ∷ xs) (e ∷ es) h = let b = (and-eq-true_iff (x e) (open_by t xs es)).0 h in (and-eq-true_iff _ _).1 (b.0, open_goes t xs es b.1)

-- What implies something false is false.
refuted : (p q : Bool) → (p ≡ true → q ≡ true) → q ≡ false → p ≡ false
refuted true q k n = absurd (false≢true (sym n ∙ k refl))
refuted false q k n = refl

-- ---- in either kind

pub record None (k : Kind) (s : ℕ) (es : List Bus) : Type 0 where
  pub incomplete : completes k s es ≡ false
  pub undecided : decides k s es ≡ []

pub none_begins : (k : Kind) (s : ℕ) (es : List Bus) → is_going_on k s es ≡ false → None k s es
unfolding is_going_on completes decides first_goes_on first_completes first_decides second_goes_on second_completes second_decides
none_begins First s es n =
    let both = neither (begins (whole (write_form s)) es) (begins (whole (read_form s)) es) n in
    record {
      incomplete = rw (unfilled (whole (write_form s)) [] es both.0, unfilled (whole (read_form s)) [] es both.1);
      undecided =
          rw (
            unfilled (write_form s).to_decide (write_form s).to_close es both.0,
            unfilled (read_form s).to_decide (read_form s).to_close es both.1,
          );
    }
none_begins Second s es n =
    let both = either_not (goes_by (writing s) (writing s).opening es) (goes_by (sending s) (sending s).opening es) n in
    record {
      incomplete = rw (refuted _ _ (ends_goes (writing s) (writing s).opening es) both.0, refuted _ _ (ends_goes (sending s) (sending s).opening es) both.1);
      undecided = rw (refuted _ _ (open_goes (writing s) (writing s).opening es) both.0, refuted _ _ (open_goes (sending s) (sending s).opening es) both.1);
    }

-- ---- the repeated part of a transfer, one more

module _ (again last : Slot) (f : ℕ → Bus) (r : (n : ℕ) → again (f n) ≡ true) (l : (n : ℕ) → last (f n) ≡ false) where
  pub on_more : (ds : List ℕ) (e : Bus) → on again last (map f ds ++ (e ∷ [])) ≡ (again e || last e)
  on_more [] e = rw (and-true (again e), and-true (last e))
  on_more (d ∷ ds) e = rw (r d, l d, on_more ds e) (or-false (again e || last e))

  pub over_more : (ds : List ℕ) (e : Bus) → over again last (map f ds ++ (e ∷ [])) ≡ last e
  over_more [] e = rw (and-false (again e), and-true (last e))
  over_more (d ∷ ds) e = rw (r d, l d, over_more ds e) (or-false (last e))

  pub within_more : (ds : List ℕ) (e : Bus) → within again (map f ds ++ (e ∷ [])) ≡ again e
  within_more [] e = and-true (again e)
  within_more (d ∷ ds) e = rw (r d) (within_more ds e)

-- Lists with one more at the end.
pub length_more : {A : Type 0} (xs : List A) (x : A) → length (xs ++ (x ∷ [])) ≡ suc (length xs)
length_more [] x = refl
length_more (y ∷ xs) x = ap suc (length_more xs x)

pub some_more : {A : Type 0} (xs : List A) (x : A) → none (xs ++ (x ∷ [])) ≡ false
some_more [] x = refl
some_more (y ∷ xs) x = refl

pub last_more : (bs : List ℕ) (b : ℕ) → last_of (bs ++ (b ∷ [])) ≡ b
last_more [] b = refl
last_more (c ∷ bs) b = rw (some_more bs b) (last_more bs b)

pub map_more : {A : Type 0} (f : ℕ → A) (bs : List ℕ) (b : ℕ) → map f bs ++ (f b ∷ []) ≡ map f (bs ++ (b ∷ []))
map_more f [] b = refl
map_more f (c ∷ bs) b = ap (λ l. f c ∷ l) (map_more f bs b)

pub bytes_more : (bs : List ℕ) (b : ℕ) → bytes_in (map BYTE bs ++ (BYTE b ∷ [])) ≡ bs ++ (b ∷ [])
bytes_more [] b = refl
bytes_more (c ∷ bs) b = ap (λ l. c ∷ l) (bytes_more bs b)

pub takes_more : (bs : List ℕ) → takes_in (map (λ n. TAKE true) bs ++ (TAKE true ∷ [])) ≡ suc (length bs)
takes_more [] = refl
takes_more (c ∷ bs) = ap suc (takes_more bs)

pub no_bytes : (bs : List ℕ) (ack : Bool) → bytes_in (map (λ n. TAKE true) bs ++ (TAKE ack ∷ [])) ≡ []
no_bytes [] ack = refl
no_bytes (c ∷ bs) ack = no_bytes bs ack

-- The parts of a list of images, and the two loops over them: after i parts those are looked at, or passed and written, and the rest is as it came.
-- Assumes nothing.
use Prim.Native.Nat.{ℕ, zero, suc, ◌+◌, ◌*◌, ◌<◌, ◌≤◌}
use native.Mathlib.Omega.{arith}
use native.Mathlib.Numerals.{add-one}
use mathlib.Core.Path.{◌≡◌, refl, ap, sym, ◌∙◌}
use mathlib.Core.Bool.{Bool, true, false, cond, ◌&&◌, and_assoc, and-eq-true_iff, false≢true}
use Rattle.std.specs.Prelude.{Option, Some, None}
use mathlib.Core.List.{List, [], ◌∷◌, ◌++◌, map, append_assoc}
use lib.ListN.{length, get_or, take, drop, length-append, length-drop}
use lib.Seq.{get_or-drop, take-suc-set, take_at, drop_at, drop-drop, length-take-le}
use Rattle.dock.specs.Record.{fresh_controller}
use Rattle.dock.specs.declared.Controller.{Controller}
use Rattle.chassis.specs.Looking.{begun, seen_with, seen_to}
use Rattle.chassis.specs.Passing.{set_out_of, passed_of, records_to, round_to}
use Rattle.chassis.specs.declared.Errand.{Errand}
use Rattle.chassis.specs.declared.Passed.{Passed}
use Rattle.chassis.specs.declared.Round.{Round}
use Rattle.chassis.specs.declared.Seen.{Seen}
use Rattle.chassis.proofs.Loops.{seen_none, seen_next, round_none, records_length, record_waits, records_next, round_next}
use Rattle.image.specs.Save.{saved}
use Rattle.image.specs.Load.{is_image, state_in}
use Rattle.image.specs.Shape.{Octets}
use Rattle.image.proofs.RoundTrip.{saved_length}
use Rattle.link.specs.Lists.{images_of, parts_of, states_of, all_images, seen_in, round_in, passed_in}

-- ---- parts

abbrev pub part_at : ℕ → List ℕ → List ℕ
part_at i bytes = take 74 (drop (i * 74) bytes)

parts_suc : (i : ℕ) (bytes : List ℕ) → parts_of (suc i) bytes ≡ parts_of i bytes ++ (part_at i bytes ∷ [])
unfolding parts_of
parts_suc zero bytes = refl
parts_suc (suc i) bytes =
    let next : 74 + i * 74 ≡ suc i * 74 = omega arith in
    ap (λ (l : List (List ℕ)). take 74 bytes ∷ l) (parts_suc i (drop 74 bytes) ∙ rw (drop-drop (i * 74) 74 bytes, next))

pub parts_next : (i : ℕ) (bytes : List ℕ) → parts_of (i + 1) bytes ≡ parts_of i bytes ++ (part_at i bytes ∷ [])
parts_next i bytes = rw (add-one i) (parts_suc i bytes)

images_next : (ps : List (List ℕ)) (p : List ℕ) → all_images (ps ++ (p ∷ [])) ≡ (all_images ps && is_image p)
unfolding all_images
images_next [] p = and_true (is_image p)
  where
    and_true : (b : Bool) → (b && true) ≡ b
    and_true true = refl
    and_true false = refl
images_next (q ∷ ps) p = ap (λ (b : Bool). is_image q && b) (images_next ps p) ∙ sym (and_assoc (is_image q) (all_images ps) (is_image p))

octets_take : (n : ℕ) (l : List ℕ) → Octets l → Octets (take n l)
octets_take zero l o i = omega arith
octets_take (suc n) [] o i = omega arith
octets_take (suc n) (b ∷ l) o zero = o zero
octets_take (suc n) (b ∷ l) o (suc i) = octets_take n l (λ j. o (suc j)) i

-- The first part of bytes, and what follows it, are bytes.
pub octets_part : (bytes : List ℕ) → Octets bytes → Octets (take 74 bytes) × Octets (drop 74 bytes)
octets_part bytes o = (octets_take 74 bytes o, λ i. rw (get_or-drop 74 bytes i 0) (o (74 + i)))

-- What is made of each part, at its place.
pub made_at : (f : List ℕ → Controller) (count i : ℕ) (bytes : List ℕ) (d : Controller) → i < count → get_or (map f (parts_of count bytes)) i d ≡ f (part_at i bytes)
unfolding parts_of
made_at f zero i bytes d l = absurd (omega arith)
made_at f (suc count) zero bytes d l = refl
made_at f (suc count) (suc i) bytes d l =
    let next : 74 + i * 74 ≡ suc i * 74 = omega arith in
    made_at f count i (drop 74 bytes) d (omega arith) ∙ rw (drop-drop (i * 74) 74 bytes, next)

pub made_length : (f : List ℕ → Controller) (count : ℕ) (bytes : List ℕ) → length (map f (parts_of count bytes)) ≡ count
unfolding parts_of
made_length f zero bytes = refl
made_length f (suc count) bytes = ap suc (made_length f count (drop 74 bytes))

-- Where each part is an image, so is the one at a place.
pub image_at : (count i : ℕ) (bytes : List ℕ) → i < count → all_images (parts_of count bytes) ≡ true → is_image (part_at i bytes) ≡ true
unfolding parts_of all_images
image_at zero i bytes l h = absurd (omega arith)
image_at (suc count) zero bytes l h = ((and-eq-true_iff (is_image (take 74 bytes)) (all_images (parts_of count (drop 74 bytes)))).0 h).0
image_at (suc count) (suc i) bytes l h =
    let next : 74 + i * 74 ≡ suc i * 74 = omega arith in
    let rest = ((and-eq-true_iff (is_image (take 74 bytes)) (all_images (parts_of count (drop 74 bytes)))).0 h).1 in
    rw (drop-drop (i * 74) 74 bytes, next) at (image_at count i (drop 74 bytes) (omega arith) rest)

-- ---- looking

abbrev states : List ℕ → ℕ → List Controller
states bytes places = states_of (parts_of places bytes)

-- The first i of the parts are images, and have been looked at.
pub record Looking (bytes : List ℕ) (count i : ℕ) (seen : Seen) : Type 0 where
  pub within : i ≤ count
  pub so_far : seen ≡ seen_to begun i (states bytes count)
  pub images : all_images (parts_of i bytes) ≡ true

pub none_seen : (bytes : List ℕ) (count : ℕ) (seen : Seen) → seen ≡ begun → Looking bytes count 0 seen
unfolding parts_of all_images
none_seen bytes count seen e = record { within = omega arith; so_far = e ∙ sym (seen_none begun (states bytes count)); images = refl }

module _ (bytes : List ℕ) (count i : ℕ) (seen : Seen) (h : Looking bytes count i seen) where
  pub looks_on :
      i < count → is_image (part_at i bytes) ≡ true → (c : Controller) → c ≡ state_in (part_at i bytes) → (s : Seen) → s ≡ seen_with seen c
      → Looking bytes count (i + 1) s
  looks_on here is c e s q =
      let at_place : c ≡ get_or (states bytes count) i fresh_controller = e ∙ sym (made_at state_in count i bytes fresh_controller here) in
      record {
        within = omega arith;
        so_far = q ∙ rw (h.so_far, at_place) (seen_next begun i (states bytes count) fresh_controller (rw (made_length state_in count bytes) here));
        images = rw (parts_next i bytes, images_next (parts_of i bytes) (part_at i bytes), h.images, is) refl;
      }

  -- A part that is no image ends it.
  pub looks_no_further : i < count → is_image (part_at i bytes) ≡ false → None ≡ seen_in bytes count
  unfolding seen_in
  looks_no_further here other = go (all_images (parts_of count bytes)) refl
    where
      go : (b : Bool) → all_images (parts_of count bytes) ≡ b → None ≡ cond b (Some (seen_to begun count (states bytes count))) None
      go true all = absurd (false≢true (sym other ∙ image_at count i bytes here all))
      go false all = refl

  pub all_seen : count ≤ i → Some seen ≡ seen_in bytes count
  unfolding seen_in
  all_seen end =
      let e : i ≡ count = omega (arith, h.within) in
      rw (rw e at h.images, rw e at h.so_far) refl

-- What a list has been seen to be.
pub seen_where_images : (bytes : List ℕ) (count : ℕ) (s : Seen) → seen_in bytes count ≡ Some s → (all_images (parts_of count bytes) ≡ true) × (s ≡ seen_to begun count (states bytes count))
unfolding seen_in
seen_where_images bytes count s = go (all_images (parts_of count bytes))
  where
    nothing_seen : ◌≡◌ {A = Option Seen} None (Some s) → ⊥
    nothing_seen e = let z : ◌≡◌ {A = ℕ} 0 1 = cc in omega arith

    go : (b : Bool) → cond b (Some (seen_to begun count (states bytes count))) None ≡ Some s → (b ≡ true) × (s ≡ seen_to begun count (states bytes count))
    go true e = (refl, cc)
    go false e = absurd (nothing_seen e)

pub unseen_where_none : (bytes : List ℕ) (count : ℕ) (r : Option Seen) → r ≡ seen_in bytes count → ((s : Seen) → r ≡ Some s → ⊥) → all_images (parts_of count bytes) ≡ false
unfolding seen_in
unseen_where_none bytes count r = go (all_images (parts_of count bytes))
  where
    go : (b : Bool) → r ≡ cond b (Some (seen_to begun count (states bytes count))) None → ((s : Seen) → r ≡ Some s → ⊥) → b ≡ false
    go true e n = absurd (n (seen_to begun count (states bytes count)) e)
    go false e n = refl

-- ---- writing

pub images_length : (cs : List Controller) → length (images_of cs) ≡ length cs * 74
unfolding images_of
images_length [] = refl
images_length (c ∷ cs) = length-append (saved c) (images_of cs) ∙ omega (arith, saved_length c, images_length cs)

pub images_append : (xs ys : List Controller) → images_of (xs ++ ys) ≡ images_of xs ++ images_of ys
unfolding images_of
images_append [] ys = refl
images_append (x ∷ xs) ys = ap (λ (l : List ℕ). saved x ++ l) (images_append xs ys) ∙ sym (append_assoc (saved x) (images_of xs) (images_of ys))

-- The first i of the parts are passed and written, and the rest is as it came.
pub record Passing (before : List ℕ) (places : ℕ) (r : Errand) (i : ℕ) (bytes : List ℕ) (y : Round) : Type 0 where
  pub within : i ≤ places
  pub gathered : y ≡ round_to r (set_out_of r) i (states before places)
  pub written : bytes ≡ images_of (take i (records_to r (set_out_of r) i (states before places))) ++ drop (i * 74) before

pub none_passed : (before : List ℕ) (places : ℕ) (r : Errand) (y : Round) → y ≡ set_out_of r → Passing before places r 0 before y
unfolding images_of
none_passed before places r y e = record { within = omega arith; gathered = e ∙ sym (round_none r (set_out_of r) (states before places)); written = refl }

module _ (before : List ℕ) (places : ℕ) (r : Errand) (i : ℕ) (bytes : List ℕ) (y : Round) (h : Passing before places r i bytes y) where
  abbrev now_at : List Controller
  now_at = records_to r (set_out_of r) i (states before places)

  long : length now_at ≡ places
  long = records_length r (set_out_of r) i (states before places) ∙ made_length state_in places before

  front : length (images_of (take i now_at)) ≡ i * 74
  front = images_length (take i now_at) ∙ omega (arith, length-take-le i now_at (omega (arith, h.within, long)))

  pub length_kept : places * 74 ≤ length before → length bytes ≡ length before
  length_kept l =
      ap length h.written ∙ length-append (images_of (take i now_at)) (drop (i * 74) before)
      ∙ omega (arith, front, length-drop (i * 74) before, h.within)

  -- The part that is loaded next is as it came.
  part_waits : part_at i bytes ≡ part_at i before
  part_waits = rw (h.written, drop_at (images_of (take i now_at)) (drop (i * 74) before) (i * 74) front)

  pub all_passed : places ≤ i → (y ≡ round_in before places r) × (bytes ≡ passed_in before places r)
  all_passed end =
      let e : i ≡ places = omega (arith, h.within) in
      (h.gathered ∙ rw e, h.written ∙ rw (take_all now_at i (omega (arith, long, end)), e))
    where
      take_all : (l : List Controller) (n : ℕ) → length l ≤ n → take n l ≡ l
      take_all [] zero q = refl
      take_all [] (suc n) q = refl
      take_all (x ∷ l) zero q = absurd (omega arith)
      take_all (x ∷ l) (suc n) q = ap (λ (t : List Controller). x ∷ t) (take_all l n (omega arith))

  pub image_waits : all_images (parts_of places before) ≡ true → i < places → is_image (part_at i bytes) ≡ true
  image_waits all here = rw part_waits (image_at places i before here all)

  module _ (here : i < places) where
    abbrev p : Passed
    p = passed_of r y (state_in (part_at i bytes))

    is_next : state_in (part_at i bytes) ≡ get_or now_at i fresh_controller
    is_next =
        ap state_in part_waits ∙ sym (made_at state_in places i before fresh_controller here)
        ∙ sym (record_waits r (set_out_of r) i (states before places) fresh_controller)

    passed_is : p ≡ passed_of r (round_to r (set_out_of r) i (states before places)) (get_or now_at i fresh_controller)
    passed_is = rw (h.gathered, is_next)

    inside : i < length (states before places)
    inside = rw (made_length state_in places before) here

    pub passes_on : Passing before places r (i + 1) (take (i * 74) bytes ++ (saved p.controller ++ drop 74 (drop (i * 74) bytes))) p.round
    unfolding images_of
    passes_on =
        record {
          within = omega arith;
          gathered = ap (λ (x : Passed). x.round) passed_is ∙ round_next r (set_out_of r) i (states before places) fresh_controller inside;
          written = rest ∙ sym (rw (next, ← grown, images_append, append_assoc, append_assoc));
        }
      where
        next : (i + 1) * 74 ≡ i * 74 + 74
        next = omega arith

        grown : take i now_at ++ (p.controller ∷ []) ≡ take (i + 1) (records_to r (set_out_of r) (i + 1) (states before places))
        grown =
            rw (← records_next r (set_out_of r) i (states before places) fresh_controller inside, passed_is, add-one i)
            (sym (take-suc-set now_at i _ (rw long here)))

        rest : take (i * 74) bytes ++ (saved p.controller ++ drop 74 (drop (i * 74) bytes)) ≡ images_of (take i now_at) ++ (saved p.controller ++ drop (i * 74 + 74) before)
        rest =
            rw (
              h.written,
              take_at (images_of (take i now_at)) (drop (i * 74) before) (i * 74) front,
              drop_at (images_of (take i now_at)) (drop (i * 74) before) (i * 74) front,
              drop-drop 74 (i * 74) before,
            )

-- What the chassis's call on a list of images comes to, by what was loaded and what the chassis answered. Assumes nothing.
use Prim.Native.Nat.{ℕ, zero, suc, ◌*◌, ◌/◌, ◌%◌, ◌≤◌}
use native.Mathlib.Omega.{arith}
use mathlib.Core.Path.{◌≡◌, refl, ap, sym, ◌∙◌}
use mathlib.Core.Logic.{◌≢◌, ◌⊎◌, inl, inr, ⊎_elim}
use mathlib.Core.Bool.{Bool, true, false, cond, not, ◌||◌, and-eq-true_iff, true≢false}
use mathlib.Core.List.{List, [], ◌∷◌, map, append-nil}
use lib.ListN.{length, take, drop, length-map, length-drop, take-append-drop, drop_of_length-le}
use lib.Dec.{eqb}
use borrow.Author.Tests.{eq-eqb, eqb-true, le-ltb}
use Rattle.dock.specs.declared.Controller.{Controller}
use Rattle.chassis.specs.Judge.{wrong_length, judged, verdict_of}
use Rattle.chassis.specs.Looking.{looked_at, begun, seen_to}
use Rattle.chassis.specs.Passing.{set_out_of, places_by, records_to, round_to, errand_of, told_after}
use Rattle.chassis.specs.declared.Errand.{Errand}
use Rattle.chassis.specs.declared.Refusal.TheVariants.{WrongLength, Unfit}
use Rattle.chassis.specs.declared.Seen.{Seen}
use Rattle.chassis.specs.declared.Told.{Told}
use Rattle.chassis.proofs.Accepting.{at_most_four}
use Rattle.chassis.proofs.Looked.{judged_seen}
use Rattle.chassis.proofs.Rounds.{passed_records, passed_told}
use Rattle.image.specs.Load.{is_image, state_in}
use Rattle.image.specs.Shape.{Octets}
use Rattle.image.proofs.Whole.{image_whole}
use Rattle.std.proofs.lemmas.Option.{same_Some}
use Rattle.image.proofs.RoundTrip.{saved_loaded}
use Rattle.link.proofs.Parts.{octets_part}
use Rattle.link.specs.Lists.{images_of, images_in, not_images, count_in, parts_of, parts_in, states_of, states_in, all_images, refused_with, told_in, list_in, round_in, passed_in}
use Rattle.chassis.specs.declared.Refusal.{Refusal}
use Rattle.event.specs.declared.Event.{Event}
use Rattle.std.specs.Prelude.{Option, Some, None, Err, Ok, Result}

-- ---- the length

pub whole_bytes : (n : ℕ) → n % 74 ≡ 0 → (b : Bool) → wrong_length (n / 74) ≡ b → not_images n ≡ b
whole_bytes n h b w = rw (eq-eqb (n % 74) 0 h) w

pub whole_list : (n : ℕ) → not_images n ≡ false → (n % 74 ≡ 0) × (wrong_length (n / 74) ≡ false)
whole_list n = go (eqb (n % 74) 0) refl
  where
    go : (b : Bool) → eqb (n % 74) 0 ≡ b → (not b || wrong_length (n / 74)) ≡ false → (n % 74 ≡ 0) × (wrong_length (n / 74) ≡ false)
    go true e h = (eqb-true (n % 74) 0 e, h)
    go false e h = absurd (true≢false h)

-- So many bytes are those of one to four images.
abbrev pub OfFour : ℕ → Type 0
OfFour n = ((n ≡ 74) ⊎ (n ≡ 148)) ⊎ ((n ≡ 222) ⊎ (n ≡ 296))

pub of_four : (n : ℕ) → not_images n ≡ false → OfFour n
of_four n h = let t = whole_list n h in go (n / 74) (omega (arith, t.0)) t.1
  where
    go : (q : ℕ) → n ≡ q * 74 → wrong_length q ≡ false → OfFour n
    go zero e w = absurd (true≢false w)
    go (suc zero) e w = inl (inl e)
    go (suc (suc zero)) e w = inl (inr e)
    go (suc (suc (suc zero))) e w = inr (inl e)
    go (suc (suc (suc (suc zero)))) e w = inr (inr e)
    go (suc (suc (suc (suc (suc q))))) e w = absurd (omega (arith, at_most_four (suc (suc (suc (suc (suc q))))) w))

pub none_of_four : (n : ℕ) → n ≢ 74 → n ≢ 148 → n ≢ 222 → n ≢ 296 → count_in n ≡ None
none_of_four n a b c d = go (not_images n) refl
  where
    go : (t : Bool) → not_images n ≡ t → cond t None (Some (n / 74)) ≡ None
    go true e = refl
    go false e = absurd (⊎_elim (⊎_elim a b) (⊎_elim c d) (of_four n e))

no_value : {n : ℕ} → ◌≡◌ {A = Option ℕ} (Some n) None → ⊥
no_value e = let z : ◌≡◌ {A = ℕ} 0 1 = cc in omega arith

-- No count is a wrong length, and one is the number of images.
pub count_none : (n : ℕ) → count_in n ≡ None → not_images n ≡ true
count_none n = go (not_images n) refl
  where
    go : (t : Bool) → not_images n ≡ t → cond t None (Some (n / 74)) ≡ None → not_images n ≡ true
    go true e z = e
    go false e z = absurd (no_value z)

-- What is not Some is None.
pub unlisted : (n : ℕ) (r : Option ℕ) → r ≡ count_in n → ((m : ℕ) → r ≡ Some m → ⊥) → count_in n ≡ None
unlisted n None e other = sym e
unlisted n (Some m) e other = absurd (other m refl)

pub record Counted (n count : ℕ) : Type 0 where
  pub a_list : not_images n ≡ false
  pub count_is : count ≡ n / 74
  pub few : n / 74 ≤ 4
  pub whole : n ≡ n / 74 * 74

pub counted : (n count : ℕ) → count_in n ≡ Some count → Counted n count
counted n count = go (not_images n) refl
  where
    go : (t : Bool) → not_images n ≡ t → cond t None (Some (n / 74)) ≡ Some count → Counted n count
    go true e s = absurd (no_value (sym s))
    go false e s = record { a_list = e; count_is = sym (same_Some _ _ s); few = at_most_four (n / 74) (whole_list n e).1; whole = omega (arith, (whole_list n e).0) }

-- ---- the parts

pub parts_length : (k : ℕ) (bytes : List ℕ) → length (parts_of k bytes) ≡ k
unfolding parts_of
parts_length zero bytes = refl
parts_length (suc k) bytes = ap suc (parts_length k (drop 74 bytes))

-- So many as are passed are images too.
pub images_passed : (v : Result Event Refusal) (m : ℕ) (bytes : List ℕ) → all_images (parts_of m bytes) ≡ true → all_images (parts_of (places_by v m) bytes) ≡ true
unfolding parts_of all_images
images_passed (Ok e) m bytes h = h
images_passed (Err x) m bytes h = refl

-- The images of their states are the bytes.
pub images_back :
    (k : ℕ) (bytes : List ℕ) → Octets bytes → length bytes ≡ k * 74 → all_images (parts_of k bytes) ≡ true → images_of (map state_in (parts_of k bytes)) ≡ bytes
unfolding parts_of all_images images_of
images_back zero [] o l h = refl
images_back zero (b ∷ bytes) o l h = absurd (omega arith)
images_back (suc k) bytes o l h =
    let b = (and-eq-true_iff (is_image (take 74 bytes)) (all_images (parts_of k (drop 74 bytes)))).0 h in
    let octets = octets_part bytes o in
    let rest = images_back k (drop 74 bytes) octets.1 (length-drop 74 bytes ∙ omega arith) b.1 in
    rw (saved_loaded (take 74 bytes) octets.0 (image_whole (take 74 bytes) b.0), rest) (take-append-drop 74 bytes)

-- ---- the call

module _ (bytes : List ℕ) (n w : ℕ) where
  -- What a call answers and leaves.
  abbrev pub Comes : Told → List ℕ → Type 0
  Comes t left = (t ≡ told_in bytes n w) × (left ≡ list_in bytes n w)

  pub no_list : not_images (length bytes) ≡ true → Comes (refused_with WrongLength) bytes
  unfolding told_in list_in
  no_list h = rw h (refl, refl)

  pub no_image : not_images (length bytes) ≡ false → all_images (parts_in bytes) ≡ false → Comes (refused_with Unfit) bytes
  unfolding told_in list_in
  no_image h i = rw (h, i) (refl, refl)

  -- The call that was judged is the rule's, and so are what was passed and what is told.
  module _ (h : not_images (length bytes) ≡ false) (all : all_images (parts_in bytes) ≡ true) where
    abbrev count : ℕ
    count = images_in (length bytes)

    abbrev states : List Controller
    states = states_in bytes

    as_many : length states ≡ count
    as_many = length-map (parts_in bytes) state_in ∙ parts_length count bytes

    -- The errand of a verdict.
    abbrev judged_as : Result Event Refusal → Errand
    judged_as v = record { verdict = v; named = n; word = w }

    judged_so_lem : (seen : Seen) → seen ≡ seen_to begun count states → count ≤ 4 → judged_as (judged count seen.standings n w) ≡ errand_of states n w
    judged_so_lem seen e few = rw (e, verdict_is)
      where
        looked : (m : ℕ) → m ≡ count → judged m (seen_to begun (looked_at m) states).standings n w ≡ judged count (seen_to begun count states).standings n w
        looked m q = rw (q, le-ltb 4 count few)

        verdict_is : judged count (seen_to begun count states).standings n w ≡ verdict_of states n w
        verdict_is = sym (looked (length states) as_many) ∙ judged_seen states n w

    told_so : (v : Result Event Refusal) → told_after v (round_in bytes (places_by v count) (judged_as v)) ≡ told_after v (round_to (judged_as v) (set_out_of (judged_as v)) (places_by v (length states)) states)
    told_so (Ok e) = rw as_many
    told_so (Err x) = refl

    -- A refused call passes none, and the bytes are the images of the states.
    left_so :
        Octets bytes → length bytes ≡ count * 74 → (v : Result Event Refusal)
        → passed_in bytes (places_by v count) (judged_as v) ≡ images_of (records_to (judged_as v) (set_out_of (judged_as v)) (places_by v (length states)) states)
    unfolding records_to images_of parts_of
    left_so o whole (Ok e) = rw (as_many, drop_of_length-le bytes {i = count * 74} (omega (arith, whole)), append-nil)
    left_so o whole (Err x) = sym (images_back count bytes o whole all)

    pub steps :
        Octets bytes → (m : ℕ) → Counted (length bytes) m → (seen : Seen) → seen ≡ seen_to begun m (states_of (parts_of m bytes))
        → (r : Errand) → r ≡ judged_as (judged m seen.standings n w)
        → Comes (told_after r.verdict (round_in bytes (places_by r.verdict m) r)) (passed_in bytes (places_by r.verdict m) r)
    unfolding told_in list_in
    steps o m k seen e r j = rw (k.count_is, as_judged, h, all) (told_so (verdict_of states n w) ∙ passed_told states n w, left_so o k.whole (verdict_of states n w) ∙ ap images_of (passed_records states n w))
      where
        as_judged : r ≡ errand_of states n w
        as_judged = j ∙ rw k.count_is (judged_so_lem seen (rw k.count_is at e) k.few)

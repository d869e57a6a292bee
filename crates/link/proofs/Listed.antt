-- The chassis's call on a list of states held: what it comes to on the images of records, which bytes are refused with 9 and with 1, and that a refused
-- call leaves every byte as it came. Assumes nothing.
use Prim.Native.Nat.{ℕ, suc, ◌/◌, ◌<◌, ◌≤◌}
use native.Mathlib.Omega.{arith}
use mathlib.Core.Path.{◌≡◌, refl, ap, sym, ◌∙◌}
use mathlib.Core.Logic.{◌↔◌, ◌≢◌, ◌⊎◌, inl, inr, ⊎_elim}
use mathlib.Core.Bool.{Bool, true, false, cond, true≢false}
use mathlib.Core.List.{List, [], ◌∷◌, map}
use lib.ListN.{length, get_or, length-map}
use lib.Seq.{take_at, drop_at}
use Rattle.dock.specs.Record.{fresh_controller}
use Rattle.dock.specs.declared.Controller.{Controller}
use Rattle.chassis.specs.Judge.{wrong_length, judged}
use Rattle.chassis.specs.Chassis.{told_by, records_by, records_of, told_of}
use Rattle.chassis.specs.Numbers.{answer_refusal}
use Rattle.chassis.specs.Refusals.{Nine, One}
use Rattle.chassis.specs.Run.{ChassisCall, after_calls, own_calls}
use Rattle.chassis.specs.declared.Refusal.TheVariants.{WrongLength, Unfit}
use Rattle.chassis.proofs.Refusals.{exactly, refused_unchanged}
use Rattle.chassis.proofs.Run.{each_alone, calls_length}
use Rattle.image.specs.Save.{saved}
use Rattle.image.specs.Load.{state_in}
use Rattle.image.specs.Shape.{Shaped, Octets}
use Rattle.image.proofs.RoundTrip.{saved_length, saved_image, state_back}
use Rattle.image.proofs.Shape.{calls_shaped}
use Rattle.link.specs.Lists.{images_of, images_in, not_images, parts_of, parts_in, states_in, all_images, refused_with, told_in, list_in}
use Rattle.link.proofs.Parts.{images_length}
use Rattle.link.proofs.RanList.{parts_length, images_back, whole_bytes, whole_list, OfFour, of_four}

-- ---- on the images of records

-- Each record has the arrays of its type.
abbrev pub AllShaped : List Controller → Type 0
AllShaped cs = (i : ℕ) → i < length cs → Shaped (get_or cs i fresh_controller).machine

-- The parts of their images are the images, ..
parts_of_images : (cs : List Controller) → parts_of (length cs) (images_of cs) ≡ map saved cs
unfolding parts_of images_of
parts_of_images [] = refl
parts_of_images (c ∷ cs) =
    rw (take_at (saved c) (images_of cs) 74 (saved_length c), drop_at (saved c) (images_of cs) 74 (saved_length c), parts_of_images cs)

all_saved : (cs : List Controller) → all_images (map saved cs) ≡ true
unfolding all_images
all_saved [] = refl
all_saved (c ∷ cs) = rw (saved_image c) (all_saved cs)

-- .. and the states of these the records.
states_back : (cs : List Controller) → AllShaped cs → map state_in (map saved cs) ≡ cs
states_back [] h = refl
states_back (c ∷ cs) h = rw (state_back c (h 0 (omega arith)), states_back cs (λ i l. h (suc i) (omega arith)))

-- The call is the chassis's call, and leaves the images of its records.
pub record OnImages (cs : List Controller) (n w : ℕ) : Type 0 where
  pub told : told_in (images_of cs) n w ≡ told_of cs n w
  pub left : list_in (images_of cs) n w ≡ images_of (records_of cs n w)

module _ (cs : List Controller) (h : AllShaped cs) (n w : ℕ) where
  as_many : images_in (length (images_of cs)) ≡ length cs
  as_many = rw (images_length cs) (omega arith)

  parts_in_lem : parts_in (images_of cs) ≡ map saved cs
  parts_in_lem = ap (λ k. parts_of k (images_of cs)) as_many ∙ parts_of_images cs

  pub on_images : OnImages cs n w
  unfolding told_in list_in judged told_by records_by
  on_images = go (wrong_length (length cs)) refl
    where
      as_records : (b : Bool) → wrong_length (length cs) ≡ b → not_images (length (images_of cs)) ≡ b
      as_records b e = whole_bytes (length (images_of cs)) (rw (images_length cs) (omega arith)) b (rw as_many e)

      go : (b : Bool) → wrong_length (length cs) ≡ b → OnImages cs n w
      go true e = record { told = rw (as_records true e, e); left = rw (as_records true e, e) }
      go false e =
          record {
            told = rw (as_records false e, parts_in_lem, all_saved cs, states_back cs h);
            left = rw (as_records false e, parts_in_lem, all_saved cs, states_back cs h);
          }

-- Any calls and names leave such records.
pub calls_all_shaped : (cs : List Controller) (calls : List ChassisCall) → AllShaped cs → AllShaped (after_calls cs calls)
calls_all_shaped cs calls h i l =
    let here : i < length cs = rw (calls_length cs calls) at l in
    rw (each_alone cs calls i here) (calls_shaped (get_or cs i fresh_controller) (own_calls i cs calls) (h i here))

-- ---- refused calls

-- Bytes of one to four images.
abbrev pub OneToFour : List ℕ → Type 0
OneToFour bytes = OfFour (length bytes)

a_list : (bytes : List ℕ) → OneToFour bytes → not_images (length bytes) ≡ false
a_list bytes (inl (inl e)) = rw e
a_list bytes (inl (inr e)) = rw e
a_list bytes (inr (inl e)) = rw e
a_list bytes (inr (inr e)) = rw e

some_images : (bytes : List ℕ) → OneToFour bytes → (1 ≤ length bytes / 74) × (length bytes / 74 ≤ 4)
some_images bytes (inl (inl e)) = omega (arith, e)
some_images bytes (inl (inr e)) = omega (arith, e)
some_images bytes (inr (inl e)) = omega (arith, e)
some_images bytes (inr (inr e)) = omega (arith, e)

-- 9 exactly where the bytes are not those of one to four images, then 1 exactly where a part is no image or the chassis says 1 of the states.
pub record ListRefusals (bytes : List ℕ) (refusal : ℕ) : Type 0 where
  pub nine : (refusal ≡ 9) ↔ (OneToFour bytes → ⊥)
  pub one : (refusal ≡ 1) ↔ (OneToFour bytes × ((all_images (parts_in bytes) ≡ false) ⊎ One (states_in bytes)))

module _ (bytes : List ℕ) (n w : ℕ) where
  abbrev states : List Controller
  states = states_in bytes

  -- A refused call leaves every byte as it came.
  pub list_untouched : Octets bytes → answer_refusal (told_in bytes n w).answer ≢ 0 → list_in bytes n w ≡ bytes
  unfolding told_in list_in
  list_untouched o = go (not_images (length bytes)) refl (all_images (parts_in bytes)) refl
    where
      go :
          (b : Bool) → not_images (length bytes) ≡ b → (i : Bool) → all_images (parts_in bytes) ≡ i
          → answer_refusal (cond b (refused_with WrongLength) (cond i (told_of states n w) (refused_with Unfit))).answer ≢ 0
          → cond b bytes (cond i (images_of (records_of states n w)) bytes) ≡ bytes
      go true e i f r = refl
      go false e false f r = refl
      go false e true f r =
          ap images_of (refused_unchanged states n w r).records
          ∙ images_back (images_in (length bytes)) bytes o (omega (arith, (whole_list (length bytes) e).0)) f

  pub list_refusals : ListRefusals bytes (answer_refusal (told_in bytes n w).answer)
  unfolding told_in
  list_refusals = go (not_images (length bytes)) refl (all_images (parts_in bytes)) refl
    where
      many : length states ≡ length bytes / 74
      many = length-map (parts_in bytes) state_in ∙ parts_length (images_in (length bytes)) bytes

      not_nine : not_images (length bytes) ≡ false → Nine states → ⊥
      not_nine e = let t = some_images bytes (of_four (length bytes) e) in ⊎_elim (λ a. omega (arith, a, many, t.0)) (λ a. omega (arith, a, many, t.1))

      go :
          (b : Bool) → not_images (length bytes) ≡ b → (i : Bool) → all_images (parts_in bytes) ≡ i
          → ListRefusals bytes (answer_refusal (cond b (refused_with WrongLength) (cond i (told_of states n w) (refused_with Unfit))).answer)
      go true e i f =
          record {
            nine = (λ z o. true≢false (sym e ∙ a_list bytes o), λ z. refl);
            one = (λ z. absurd (omega (arith, z)), λ z. absurd (true≢false (sym e ∙ a_list bytes z.0)));
          }
      go false e false f =
          record {
            nine = (λ z. absurd (omega (arith, z)), λ z. absurd (z (of_four (length bytes) e)));
            one = (λ z. (of_four (length bytes) e, inl f), λ z. refl);
          }
      go false e true f =
          record {
            nine = (λ z. absurd (not_nine e ((exactly states n w).nine.0 z)), λ z. absurd (z (of_four (length bytes) e)));
            one = (
              λ z. (of_four (length bytes) e, inr ((exactly states n w).one.0 z).1),
              λ z. (exactly states n w).one.1 (not_nine e, ⊎_elim (λ g. absurd (true≢false (sym f ∙ g))) (λ g. g) z.1),
            );
          }

  -- And else the answer is the chassis's.
  pub list_others : OneToFour bytes → all_images (parts_in bytes) ≡ true → told_in bytes n w ≡ told_of (states_in bytes) n w
  unfolding told_in
  list_others o i = rw (a_list bytes o, i)

-- Demand 3 on a chassis reaches the code: calls on a lent list, and the library's calls on a list of images that a program holds, one after the other, whatever
-- each returns that meets its contract. The list is then that of the controllers after their own calls, the bytes are its images, and every answer that
-- is no refusal is made of the plain machines'. Assumes nothing.
use Prim.Native.Nat.{ℕ}
use mathlib.Core.Path.{◌≡◌, refl, sym, ap, ◌∙◌}
use mathlib.Core.List.{List, [], ◌∷◌, ◌++◌}
use lib.ListN.{get_or, set, length-replicate, get_or-replicate}
use denote.MutBor.{MutBor}
use Rattle.event.specs.Words.{unpacked}
use Rattle.event.specs.declared.Event.{Event}
use Rattle.dock.specs.Record.{fresh_controller}
use Rattle.dock.specs.declared.Controller.{Controller}
use Rattle.dock.specs.declared.Renamed.{Renamed}
use Rattle.chassis.specs.Chassis.{Called, told_of}
use Rattle.chassis.specs.Numbers.{answer_refusal}
use Rattle.chassis.specs.Run.{ChassisCall, word, naming, after_call, after_calls}
use Rattle.chassis.specs.declared.Told.{Told}
use Rattle.chassis.proofs.Run.{after_next}
use Rattle.image.proofs.Shape.{fresh_shaped}
use Rattle.link.specs.Lists.{images_of, chassis_as, told_in, list_in}
use Rattle.link.proofs.Listed.{AllShaped, on_images, calls_all_shaped}
use Rattle.dock.proofs.Controller.name.Reads as name_call
use Rattle.link.proofs.lists.dock_chassis_step.Reads as chassis_call
use Rattle.demand.specs.Chassis.{begun, reached, plain_told}
use Rattle.demand.proofs.Chassis.{each_agrees}
use Rattle.std.specs.Prelude.{Ok}

-- ---- a lent list

-- Calls of `step` on a list of fresh records, and of `Controller::name` on one of them.
pub data OnList (k : ℕ) : List ChassisCall → List Controller → Type 0 where
  fresh : OnList k [] (begun k)
  step :
      {calls : List ChassisCall} {cs : List Controller} (n w : ℕ) (left : List Controller) (told : Told) → OnList k calls cs → Called cs n w left told
      → OnList k (calls ++ (word n w ∷ [])) left
  name :
      {calls : List ChassisCall} {cs : List Controller} (i n : ℕ) (r : Renamed) → OnList k calls cs
      → name_call.Post tt (get_or cs i fresh_controller, (n, tt)) r (get_or cs i fresh_controller, (n, tt))
      → OnList k (calls ++ (naming i n ∷ [])) (set cs i r.controller)

-- The list, and what the next call answers.
pub record ListAgrees (k : ℕ) (calls : List ChassisCall) (cs : List Controller) : Type 0 where
  pub list : cs ≡ reached k calls
  pub answers :
      (n w : ℕ) (e : Event) (left : List Controller) (told : Told) → Called cs n w left told → unpacked w ≡ Ok e → answer_refusal told.answer ≡ 0
      → told ≡ plain_told k calls e n w

list_is : {k : ℕ} {calls : List ChassisCall} {cs : List Controller} → OnList k calls cs → cs ≡ reached k calls
unfolding after_calls after_call
list_is fresh = refl
list_is {k} (step {calls} n w left told c p) = p.leaves ∙ ap (λ (l : List Controller). after_call l (word n w)) (list_is c) ∙ sym (after_next (begun k) calls (word n w))
list_is {k} (name {calls} {cs} i n r c p) =
    ap (λ (x : Renamed). set cs i x.controller) p ∙ ap (λ (l : List Controller). after_call l (naming i n)) (list_is c) ∙ sym (after_next (begun k) calls (naming i n))

pub compiled_list : {k : ℕ} {calls : List ChassisCall} {cs : List Controller} → OnList k calls cs → ListAgrees k calls cs
compiled_list {k} {calls} c =
    let is = list_is c in
    record {
      list = is;
      answers = λ n w e left told p u z.
          let same : told ≡ told_of (reached k calls) n w = p.answers ∙ ap (λ (l : List Controller). told_of l n w) is in
          same ∙ (each_agrees k calls).answers n w e u (ap (λ (t : Told). answer_refusal t.answer) (sym same) ∙ z);
    }

-- ---- images that a program holds

-- Calls of `dock_chassis_step` on images that were each begun.
pub data OnBytes (k : ℕ) : List ChassisCall → List ℕ → Type 0 where
  begin : OnBytes k [] (images_of (begun k))
  step :
      {calls : List ChassisCall} (κs : _) (states left : MutBor (List ℕ)) (n w r : ℕ) → OnBytes k calls states.now
      → chassis_call.Post κs (states, (n, (w, tt))) r (left, (n, (w, tt))) → OnBytes k (calls ++ (word n w ∷ [])) left.now

-- The bytes are the images of the controllers after their own calls, and an answer that is no refusal is that of their plain machines.
pub record BytesAgree (k : ℕ) (calls : List ChassisCall) (bytes : List ℕ) : Type 0 where
  pub images : bytes ≡ images_of (reached k calls)
  pub answers :
      (κs : _) (states left : MutBor (List ℕ)) (n w r : ℕ) → states.now ≡ bytes → chassis_call.Post κs (states, (n, (w, tt))) r (left, (n, (w, tt)))
      → r ≡ chassis_as (told_of (reached k calls) n w)
  pub plain :
      (n w : ℕ) (e : Event) → unpacked w ≡ Ok e → answer_refusal (told_of (reached k calls) n w).answer ≡ 0
      → told_of (reached k calls) n w ≡ plain_told k calls e n w

reached_shaped : (k : ℕ) (calls : List ChassisCall) → AllShaped (reached k calls)
reached_shaped k calls = calls_all_shaped (begun k) calls (λ i l. rw (get_or-replicate k i fresh_controller fresh_controller (rw (length-replicate k fresh_controller) at l)) fresh_shaped)

bytes_are : {k : ℕ} {calls : List ChassisCall} {bytes : List ℕ} → OnBytes k calls bytes → bytes ≡ images_of (reached k calls)
unfolding after_calls after_call
bytes_are begin = refl
bytes_are {k} (step {calls} κs states left n w r c p) =
    p.1 ∙ ap (λ (b : List ℕ). list_in b n w) (bytes_are c) ∙ (on_images (reached k calls) (reached_shaped k calls) n w).left
    ∙ ap images_of (sym (after_next (begun k) calls (word n w)))

pub held_list : {k : ℕ} {calls : List ChassisCall} {bytes : List ℕ} → OnBytes k calls bytes → BytesAgree k calls bytes
held_list {k} {calls} c =
    let i = bytes_are c in
    record {
      images = i;
      answers = λ κs states left n w r e p. p.0 ∙ ap chassis_as (ap (λ (b : List ℕ). told_in b n w) (e ∙ i) ∙ (on_images (reached k calls) (reached_shaped k calls) n w).told);
      plain = (each_agrees k calls).answers;
    }

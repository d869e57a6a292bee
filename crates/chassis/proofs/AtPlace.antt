-- What an accepted event does at each place of a list: the record there afterwards is that of the single call where it gets the event, and its outputs
-- stand in the answer at its place. A place without a record has outputs 0, and so has a record that is passed over. By induction along the list, and
-- by the core's laws of a controller that isn't started. Assumes nothing.
use Prim.Native.Nat.{ℕ, zero, suc, ◌+◌, ◌<◌, ◌≤◌}
use native.Mathlib.Omega.{arith}
use native.Mathlib.Nat.{add-zero, add-suc, suc-add, zero-add}
use mathlib.Core.Path.{◌≡◌, refl, sym, ap, ◌∙◌}
use mathlib.Core.Logic.{◌≢◌, ◌⊎◌, inl, inr}
use mathlib.Core.Bool.{true, false}
use mathlib.Core.List.{List, [], ◌∷◌, map}
use lib.ListN.{length, get_or, length-map, get_or-eq_default}
use borrow.Author.Tests.{eqb-true}
use Rattle.event.specs.Words.{is_reset}
use Rattle.event.specs.declared.Event.{Event}
use Rattle.event.specs.declared.Event.TheVariants.{Start, Stop, Byte, Take, Pins, Tick, Reset, Timeout}
use Rattle.bus.specs.declared.Reply.TheVariants.{Nothing}
use Rattle.bay.proofs.Taut.{pick}
use Rattle.dock.specs.Answers.{told_value}
use Rattle.dock.specs.Shared.{standing_of}
use Rattle.dock.specs.declared.Controller.{Controller}
use Rattle.dock.specs.declared.Stepped.{Stepped}
use Rattle.dock.proofs.Sharing.{passed_over, silent_outputs}
use Rattle.chassis.specs.Judge.{standings, verdict_of}
use Rattle.chassis.specs.Chassis.{goes_to, record_at, reply_at, records_from, replies_from, shown, four, records_by, records_of, told_by, told_of}
use Rattle.chassis.specs.Refusals.{standing_at}
use Rattle.chassis.proofs.Places.{fit_in_lem}
use Rattle.chassis.proofs.Accepting.{Accepts, accepts, at_most_four}
use Rattle.chassis.specs.declared.Refusal.{Refusal}
use Rattle.std.specs.Prelude.{Err, Ok, Result}

-- ---- the statement: what is at each place after an accepted event

pub record AtPlace (cs : List Controller) (n w : ℕ) (e : Event) (i : ℕ) (d : Controller) : Type 0 where
  -- The record, and its outputs.
  pub here : i < length cs → get_or (records_of cs n w) i d ≡ record_at e n w i (get_or cs i d)
  pub outputs : i < length cs → get_or (told_of cs n w).outputs i 0 ≡ shown (record_at e n w i (get_or cs i d))
  -- No record.
  pub nothing_here : length cs ≤ i → get_or (told_of cs n w).outputs i 0 ≡ 0
  -- A record not started, and not the one that a RESET names, is passed over.
  pub passed :
      i < length cs → (standing_at cs i).started ≡ false → (is_reset e ≡ false) ⊎ (i ≢ n)
      → (get_or (records_of cs n w) i d ≡ get_or cs i d) × (get_or (told_of cs n w).outputs i 0 ≡ 0)

-- ---- a place of a list

-- How the record at a place stands.
pub stands_at : (cs : List Controller) (i : ℕ) (d : Controller) → i < length cs → standing_at cs i ≡ standing_of (get_or cs i d)
stands_at [] i d l = absurd (omega arith)
stands_at (c ∷ cs) zero d l = refl
stands_at (c ∷ cs) (suc i) d l = stands_at cs i d (omega arith)

module _ (e : Event) (n w : ℕ) where
  pub from_length : (p : ℕ) (cs : List Controller) → length (records_from e n w p cs) ≡ length cs
  unfolding records_from
  from_length p [] = refl
  from_length p (c ∷ cs) = ap suc (from_length (suc p) cs)

  pub replies_length : (p : ℕ) (cs : List Controller) → length (replies_from e n w p cs) ≡ length cs
  unfolding replies_from
  replies_length p [] = refl
  replies_length p (c ∷ cs) = ap suc (replies_length (suc p) cs)

  from_at :
      (p : ℕ) (cs : List Controller) (i : ℕ) (d : Controller) → i < length cs
      → get_or (records_from e n w p cs) i d ≡ record_at e n w (p + i) (get_or cs i d)
  unfolding records_from
  from_at p [] i d l = absurd (omega arith)
  from_at p (c ∷ cs) zero d l = ap (λ (x : ℕ). record_at e n w x c) (sym (add-zero p))
  from_at p (c ∷ cs) (suc i) d l = from_at (suc p) cs i d (omega arith) ∙ ap (λ (x : ℕ). record_at e n w x (get_or cs i d)) (suc-add p i ∙ sym (add-suc p i))

  replies_at :
      (p : ℕ) (cs : List Controller) (i : ℕ) (d : Controller) → i < length cs
      → get_or (replies_from e n w p cs) i Nothing ≡ reply_at e n w (p + i) (get_or cs i d)
  unfolding replies_from
  replies_at p [] i d l = absurd (omega arith)
  replies_at p (c ∷ cs) zero d l = ap (λ (x : ℕ). reply_at e n w x c) (sym (add-zero p))
  replies_at p (c ∷ cs) (suc i) d l = replies_at (suc p) cs i d (omega arith) ∙ ap (λ (x : ℕ). reply_at e n w x (get_or cs i d)) (suc-add p i ∙ sym (add-suc p i))

  pub record_at_lem : (cs : List Controller) (i : ℕ) (d : Controller) → i < length cs → get_or (records_from e n w 0 cs) i d ≡ record_at e n w i (get_or cs i d)
  record_at_lem cs i d l = from_at 0 cs i d l ∙ ap (λ (x : ℕ). record_at e n w x (get_or cs i d)) (zero-add i)

  pub reply_at_lem :
      (cs : List Controller) (i : ℕ) (d : Controller) → i < length cs → get_or (replies_from e n w 0 cs) i Nothing ≡ reply_at e n w i (get_or cs i d)
  reply_at_lem cs i d l = replies_at 0 cs i d l ∙ ap (λ (x : ℕ). reply_at e n w x (get_or cs i d)) (zero-add i)

-- The records are as many as before.
pub records_length : (cs : List Controller) (n w : ℕ) → length (records_of cs n w) ≡ length cs
unfolding records_by
records_length cs n w = go (verdict_of cs n w)
  where
    go : (v : Result Event Refusal) → length (records_by v n w cs) ≡ length cs
    go (Ok e) = from_length e n w 0 cs
    go (Err x) = refl

-- ---- four sets of outputs

four_is : (os : List ℕ) → length os ≤ 4 → (i : ℕ) → get_or (four os) i 0 ≡ get_or os i 0
four_is os l zero = refl
four_is os l (suc zero) = refl
four_is os l (suc (suc zero)) = refl
four_is os l (suc (suc (suc zero))) = refl
four_is os l (suc (suc (suc (suc i)))) = sym (get_or-eq_default os 0 (omega arith))

pub shown_at : (cs : List Controller) (i : ℕ) (d : Controller) → i < length cs → get_or (map shown cs) i 0 ≡ shown (get_or cs i d)
shown_at [] i d l = absurd (omega arith)
shown_at (c ∷ cs) zero d l = refl
shown_at (c ∷ cs) (suc i) d l = shown_at cs i d (omega arith)

-- A RESET goes to the one that it names alone.
not_reset : (e : Event) (n i : ℕ) → (is_reset e ≡ false) ⊎ (i ≢ n) → goes_to e n i ≡ true → is_reset e ≡ false
not_reset e n i (inl r) g = r
not_reset Start n i (inr d) g = refl
not_reset Stop n i (inr d) g = refl
not_reset (Byte b) n i (inr d) g = refl
not_reset (Take ack) n i (inr d) g = refl
not_reset (Pins levels) n i (inr d) g = refl
not_reset Tick n i (inr d) g = refl
not_reset (Reset straps levels short) n i (inr d) g = absurd (d (eqb-true i n g))
not_reset Timeout n i (inr d) g = refl

-- ---- so it is at each place

pub at_each_place : (cs : List Controller) (n w : ℕ) (e : Event) (i : ℕ) (d : Controller) → verdict_of cs n w ≡ Ok e → AtPlace cs n w e i d
unfolding records_by told_by record_at
at_each_place cs n w e i d v =
    record {
      here = λ l. rw v (record_at_lem e n w cs i d l);
      outputs = λ l. rw v (shows l);
      nothing_here = λ l. rw v (four_is after short i ∙ get_or-eq_default after 0 (rw shown_length l));
      passed = λ l t k.
          let same = stays l t k in
          let silent : shown (get_or cs i d) ≡ 0 = ap told_value (silent_outputs (get_or cs i d) (fit l) (rw (← stands_at cs i d l) t)) in
          (rw v (record_at_lem e n w cs i d l ∙ same), rw v (shows l ∙ ap shown same ∙ silent));
    }
  where
    all : Accepts cs n w e
    all = accepts cs n w e v

    records : List Controller
    records = records_from e n w 0 cs

    after : List ℕ
    after = map shown records

    shown_length : length after ≡ length cs
    shown_length = length-map records shown ∙ from_length e n w 0 cs

    short : length after ≤ 4
    short = rw shown_length (at_most_four (length cs) all.length_fits)

    shows : i < length cs → get_or (four after) i 0 ≡ shown (record_at e n w i (get_or cs i d))
    shows l = four_is after short i ∙ shown_at records i d (rw (from_length e n w 0 cs) l) ∙ ap shown (record_at_lem e n w cs i d l)

    fit : i < length cs → (standing_of (get_or cs i d)).fit ≡ true
    fit l = rw (stands_at cs i d l) at (fit_in_lem (standings cs) all.usable i (rw (length-map cs standing_of) l))

    stays : i < length cs → (standing_at cs i).started ≡ false → (is_reset e ≡ false) ⊎ (i ≢ n) → record_at e n w i (get_or cs i d) ≡ get_or cs i d
    stays l t k =
        pick (λ (c : Controller). c ≡ get_or cs i d) (goes_to e n i)
        (λ g. ap (λ (x : Stepped). x.controller) (passed_over (get_or cs i d) w e (fit l) (rw (← stands_at cs i d l) t) (not_reset e n i k g) all.is))
        (λ g. refl)

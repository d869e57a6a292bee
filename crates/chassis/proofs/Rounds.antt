-- The records that are passed one after the other, and what is gathered on the way, are the rule's: by induction over the records, from any place on
-- that leaves room for them; a word is sent to no more than four. Assumes nothing.
use Prim.Native.Nat.{ℕ, suc, ◌+◌, ◌<◌, ◌≤◌}
use native.Mathlib.Omega.{arith}
use native.Mathlib.Numerals.{add-one}
use mathlib.Core.Path.{◌≡◌, refl, ap, ◌∙◌}
use mathlib.Core.Bool.{Bool, true, false, cond}
use mathlib.Core.List.{List, [], ◌∷◌, map}
use lib.Dec.{eqb, ltb}
use lib.ListN.{length, set, length-map}
use borrow.Author.Tests.{lt-ltb, ltb-false}
use Rattle.event.specs.declared.Event.{Event}
use Rattle.bay.proofs.Taut.{neither}
use Rattle.bus.specs.declared.Reply.{Reply}
use Rattle.bus.specs.declared.Reply.TheVariants.{Nothing}
use Rattle.dock.specs.Answers.{reply_in}
use Rattle.dock.specs.Step.{step_of}
use Rattle.dock.specs.declared.Controller.{Controller}
use Rattle.chassis.specs.declared.Errand.{Errand}
use Rattle.chassis.specs.declared.Passed.{Passed}
use Rattle.chassis.specs.declared.Refusal.TheVariants.{WrongLength}
use Rattle.chassis.specs.declared.Round.{Round}
use Rattle.chassis.specs.Judge.{wrong_length, judged, verdict_of}
use Rattle.chassis.specs.Chassis.{goes_to, record_at, reply_at, records_from, replies_from, unanswered, shown, four, records_by, told_by, records_of, told_of}
use Rattle.chassis.specs.Passing.{louder, set_out_of, gathered, errand_of, passed_by, passed_of, places_by, records_to, round_to, told_after}
use Rattle.chassis.proofs.AtPlace.{from_length}
use Rattle.chassis.proofs.Loudest.{loudest, loudest_heard, unanswered_quiet}
use Rattle.chassis.specs.declared.Refusal.{Refusal}
use Rattle.std.specs.Prelude.{Err, Ok, Result}

-- ---- the outputs

-- Written one after the other, from a place on.
abbrev written : List ℕ → ℕ → List ℕ → List ℕ
written os p [] = os
written os p (x ∷ xs) = written (set os p x) (suc p) xs

four_written : (xs : List ℕ) → length xs ≤ 4 → written (0 ∷ 0 ∷ 0 ∷ 0 ∷ []) 0 xs ≡ four xs
four_written [] h = refl
four_written (a ∷ []) h = refl
four_written (a ∷ (b ∷ [])) h = refl
four_written (a ∷ (b ∷ (c ∷ []))) h = refl
four_written (a ∷ (b ∷ (c ∷ (d ∷ [])))) h = refl
four_written (a ∷ (b ∷ (c ∷ (d ∷ (e ∷ xs))))) h = absurd (omega arith)

-- ---- an event that is sent

module _ (e : Event) (n w : ℕ) where
  abbrev sent : Errand
  sent = record { verdict = Ok e; named = n; word = w }

  abbrev at : Reply → List ℕ → ℕ → Round
  at a os p = record { reply = a; outputs = os; place = p }

  -- Whether a record gets it or not.
  either : (t : Bool) (y : Round) (c : Controller) → passed_by t sent y c ≡ record {
    controller = cond t (step_of c w).controller c;
    round = gathered y (cond t (reply_in (step_of c w).answer) Nothing) (shown (cond t (step_of c w).controller c));
  }
  unfolding passed_by
  either true y c = refl
  either false y c = refl

  one : (a : Reply) (os : List ℕ) (p : ℕ) (c : Controller) → p < 4 → passed_of sent (at a os p) c ≡ record {
    controller = record_at e n w p c;
    round = at (louder a (reply_at e n w p c)) (set os p (shown (record_at e n w p c))) (suc p);
  }
  unfolding passed_of record_at reply_at
  one a os p c h = rw (either (goes_to e n p) (at a os p) c, lt-ltb p 4 h, add-one p)

  records_from_lem :
      (a : Reply) (os : List ℕ) (p : ℕ) (cs : List Controller) → p + length cs ≤ 4
      → records_to sent (at a os p) (length cs) cs ≡ records_from e n w p cs
  unfolding records_to records_from
  records_from_lem a os p [] h = refl
  records_from_lem a os p (c ∷ cs) h =
      rw (one a os p c (omega arith)) (ap (λ (l : List Controller). record_at e n w p c ∷ l) (records_from_lem (louder a (reply_at e n w p c)) (set os p (shown (record_at e n w p c))) (suc p) cs (omega arith)))

  told_from :
      (a : Reply) (os : List ℕ) (p : ℕ) (cs : List Controller) → p + length cs ≤ 4
      → told_after (Ok e) (round_to sent (at a os p) (length cs) cs)
      ≡ record { answer = Ok (loudest a (replies_from e n w p cs)); outputs = written os p (map shown (records_from e n w p cs)) }
  unfolding round_to records_from replies_from
  told_from a os p [] h = refl
  told_from a os p (c ∷ cs) h =
      ap (λ (x : Passed). told_after (Ok e) (round_to sent x.round (length cs) cs)) (one a os p c (omega arith)) ∙ told_from (louder a (reply_at e n w p c)) (set os p (shown (record_at e n w p c))) (suc p) cs (omega arith)

-- ---- any verdict

abbrev judged_so : Result Event Refusal → ℕ → ℕ → Errand
judged_so v n w = record { verdict = v; named = n; word = w }

-- Where a word is sent, the list has no more than four records.
abbrev Few : Result Event Refusal → ℕ → Type 0
Few (Ok e) records = records ≤ 4
Few (Err x) records = Unit

few : (t : Bool) (v : Result Event Refusal) (records : ℕ) → (t ≡ false → records ≤ 4) → Few (cond t (Err WrongLength) v) records
few true v records h = tt
few false (Ok e) records h = h refl
few false (Err x) records h = tt

verdict_few : (cs : List Controller) (n w : ℕ) → Few (verdict_of cs n w) (length cs)
unfolding judged
verdict_few cs n w = few (wrong_length (length cs)) _ (length cs) (λ h. ltb-false 4 (length cs) (neither (eqb (length cs) 0) (ltb 4 (length cs)) h).1)

records_by_lem :
    (v : Result Event Refusal) (n w : ℕ) (cs : List Controller) → Few v (length cs)
    → records_to (judged_so v n w) (set_out_of (judged_so v n w)) (places_by v (length cs)) cs ≡ records_by v n w cs
unfolding records_to records_by
records_by_lem (Ok e) n w cs h = records_from_lem e n w _ _ 0 cs (omega arith)
records_by_lem (Err x) n w cs h = refl

told_by_lem :
    (v : Result Event Refusal) (n w : ℕ) (cs : List Controller) → Few v (length cs)
    → told_after v (round_to (judged_so v n w) (set_out_of (judged_so v n w)) (places_by v (length cs)) cs) ≡ told_by v n w cs
unfolding told_by
told_by_lem (Ok e) n w cs h =
    let few : length (map shown (records_from e n w 0 cs)) ≤ 4 = omega (arith, length-map (records_from e n w 0 cs) shown, from_length e n w 0 cs) in
    rw (
      told_from e n w _ _ 0 cs (omega arith),
      loudest_heard (unanswered e) (unanswered_quiet e) (replies_from e n w 0 cs),
      four_written (map shown (records_from e n w 0 cs)) few,
    )
told_by_lem (Err x) n w cs h = refl

-- ---- the call

module _ (cs : List Controller) (n w : ℕ) where
  abbrev r : Errand
  r = errand_of cs n w

  pub passed_records : records_to r (set_out_of r) (places_by r.verdict (length cs)) cs ≡ records_of cs n w
  passed_records = records_by_lem (verdict_of cs n w) n w cs (verdict_few cs n w)

  pub passed_told : told_after r.verdict (round_to r (set_out_of r) (places_by r.verdict (length cs)) cs) ≡ told_of cs n w
  passed_told = told_by_lem (verdict_of cs n w) n w cs (verdict_few cs n w)

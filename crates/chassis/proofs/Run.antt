-- Over any calls, each record of a list is what the core's single calls make of it alone, those that reach it, in order; and a list that isn't faulty
-- never comes to be refused with 1. By induction along the calls. Assumes nothing.
use Prim.Native.Nat.{ℕ, ◌<◌}
use mathlib.Core.Path.{◌≡◌, refl, sym, ap, ◌∙◌}
use mathlib.Core.Logic.{◌≢◌}
use mathlib.Core.Bool.{Bool, true, false, cond}
use mathlib.Core.List.{List, [], ◌∷◌, ◌++◌, append_assoc, append-nil}
use lib.Dec.{eqb}
use lib.ListN.{length, get_or, set, length-set}
use lib.Seq.{get_or-set_same, get_or-set_other}
use borrow.Author.Tests.{eqb-true, eqb-false}
use Rattle.dock.specs.Name.{name_of}
use Rattle.dock.specs.Record.{fresh_controller}
use Rattle.dock.specs.Step.{step_of}
use Rattle.dock.specs.Run as alone
use Rattle.dock.specs.declared.Controller.{Controller}
use Rattle.dock.proofs.Run.{calls_none, calls_one, calls_append}
use Rattle.chassis.specs.Judge.{faulty, standings, verdict_of}
use Rattle.chassis.specs.Numbers.{answer_refusal}
use Rattle.chassis.specs.Chassis.{goes_to, record_at, records_by, records_of, told_of}
use Rattle.chassis.specs.Run.{ChassisCall, word, naming, after_call, after_calls, word_for, own_call, own_calls}
use Rattle.chassis.proofs.AtPlace.{record_at_lem, records_length}
use Rattle.chassis.proofs.Refusals.{one_says, exactly}
use Rattle.chassis.proofs.Usable.{stays_usable, name_usable}
use Rattle.chassis.specs.declared.Refusal.{Refusal}
use Rattle.event.specs.declared.Event.{Event}
use Rattle.std.specs.Prelude.{Err, Ok, Result}

-- ---- one call

pub call_length : (cs : List Controller) (c : ChassisCall) → length (after_call cs c) ≡ length cs
unfolding after_call
call_length cs (word n w) = records_length cs n w
call_length cs (naming i k) = length-set cs i (name_of (get_or cs i fresh_controller) k).controller

one_alone :
    (cs : List Controller) (c : ChassisCall) (i : ℕ) → i < length cs
    → get_or (after_call cs c) i fresh_controller ≡ alone.after_calls (get_or cs i fresh_controller) (own_call i cs c)
unfolding after_call own_call records_by record_at
one_alone cs (word n w) i l = go (verdict_of cs n w)
  where
    c : Controller
    c = get_or cs i fresh_controller

    go : (v : Result Event Refusal) → get_or (records_by v n w cs) i fresh_controller ≡ alone.after_calls c (word_for i v n w)
    go (Ok e) = record_at_lem e n w cs i fresh_controller l ∙ by_place (goes_to e n i)
      where
        by_place : (t : Bool) → cond t (step_of c w).controller c ≡ alone.after_calls c (cond t (alone.word w ∷ []) [])
        by_place true = sym (calls_one c (alone.word w))
        by_place false = sym (calls_none c)
    go (Err x) = sym (calls_none c)
one_alone cs (naming j k) i l = go (eqb i j) refl
  where
    c : Controller
    c = get_or cs i fresh_controller

    go :
        (t : Bool) → eqb i j ≡ t
        → get_or (set cs j (name_of (get_or cs j fresh_controller) k).controller) i fresh_controller ≡ alone.after_calls c (cond t (alone.naming k ∷ []) [])
    go true t = rw (← eqb-true i j t) (get_or-set_same cs i (name_of c k).controller fresh_controller l) ∙ sym (calls_one c (alone.naming k))
    go false t = get_or-set_other cs j i (name_of (get_or cs j fresh_controller) k).controller fresh_controller (eqb-false i j t) ∙ sym (calls_none c)

-- ---- any calls

-- Each record is alone with the calls that reach it.
pub each_alone :
    (cs : List Controller) (calls : List ChassisCall) (i : ℕ) → i < length cs
    → get_or (after_calls cs calls) i fresh_controller ≡ alone.after_calls (get_or cs i fresh_controller) (own_calls i cs calls)
unfolding after_calls own_calls
each_alone cs [] i l = sym (calls_none (get_or cs i fresh_controller))
each_alone cs (c ∷ calls) i l =
    each_alone (after_call cs c) calls i (rw (call_length cs c) l)
    ∙ ap (λ (s : Controller). alone.after_calls s (own_calls i (after_call cs c) calls)) (one_alone cs c i l)
    ∙ sym (calls_append (get_or cs i fresh_controller) (own_call i cs c) (own_calls i (after_call cs c) calls))

-- The records are as many as before.
pub calls_length : (cs : List Controller) (calls : List ChassisCall) → length (after_calls cs calls) ≡ length cs
unfolding after_calls
calls_length cs [] = refl
calls_length cs (c ∷ calls) = calls_length (after_call cs c) calls ∙ call_length cs c

-- One call more.
pub own_next :
    (i : ℕ) (cs : List Controller) (calls : List ChassisCall) (c : ChassisCall)
    → own_calls i cs (calls ++ (c ∷ [])) ≡ own_calls i cs calls ++ own_call i (after_calls cs calls) c
unfolding after_calls own_calls
own_next i cs [] c = append-nil (own_call i cs c)
own_next i cs (x ∷ calls) c =
    ap (λ (l : List alone.Call). own_call i cs x ++ l) (own_next i (after_call cs x) calls c)
    ∙ sym (append_assoc (own_call i cs x) (own_calls i (after_call cs x) calls) _)

pub after_next :
    (cs : List Controller) (calls : List ChassisCall) (c : ChassisCall) → after_calls cs (calls ++ (c ∷ [])) ≡ after_call (after_calls cs calls) c
unfolding after_calls
after_next cs [] c = refl
after_next cs (x ∷ calls) c = after_next (after_call cs x) calls c

-- ---- from a list that isn't faulty, none comes to be

pub run_usable : (cs : List Controller) (calls : List ChassisCall) → faulty (standings cs) ≡ false → faulty (standings (after_calls cs calls)) ≡ false
unfolding after_calls after_call
run_usable cs [] f = f
run_usable cs (word n w ∷ calls) f = run_usable (records_of cs n w) calls (stays_usable cs n w f)
run_usable cs (naming i k ∷ calls) f = run_usable _ calls (name_usable cs i k fresh_controller f)

-- So no word of a run is refused with 1.
pub run_never_1 :
    (cs : List Controller) (calls : List ChassisCall) (n w : ℕ) → faulty (standings cs) ≡ false
    → answer_refusal (told_of (after_calls cs calls) n w).answer ≢ 1
run_never_1 cs calls n w f one = (one_says (after_calls cs calls)).no (run_usable cs calls f) ((exactly (after_calls cs calls) n w).one.0 one).1

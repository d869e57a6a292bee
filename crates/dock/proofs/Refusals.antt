-- Each refusal is given exactly when the table says, and leaves the state as it came: by cases on the three tests of a step.
-- Assumes nothing.
use Prim.Native.Nat.{ℕ}
use native.Mathlib.Omega.{arith}
use mathlib.Core.Path.{◌≡◌, refl, sym, ap, ◌∙◌}
use mathlib.Core.Logic.{◌≢◌, ◌⊎◌, inl, inr, ⊎_elim}
use mathlib.Core.Bool.{Bool, true, false, cond, true≢false, false≢true}
use Rattle.event.specs.Words.{unpacked, StrayBitSet}
use Rattle.event.specs.declared.Event.{Event}
use Rattle.event.specs.declared.Event.TheVariants.{Start, Stop, Byte, Take, Pins, Tick, Reset, Timeout}
use Rattle.event.proofs.Theorems.{words_refused}
use Rattle.event.proofs.RoundTrip.{accepted_is_none}
use Rattle.bay.proofs.Taut.{pick}
use Rattle.machine.specs.Record.{fits}
use Rattle.machine.specs.Outputs.{outputs}
use Rattle.machine.specs.InForce.{reading}
use Rattle.dock.specs.Answers.{refusal_of, reply_of, byte_of, outputs_of, told_refusal, told_value, Answer}
use Rattle.dock.specs.Step.{takes, refused, step_fit, step_of, told_reading, told_outputs}
use Rattle.dock.specs.Refusals.{IsReset, Exactly}
use Rattle.dock.specs.declared.Controller.{Controller}
use Rattle.dock.specs.declared.Stepped.{Stepped}
use Rattle.std.specs.Prelude.{Result, Ok, Err}
use Rattle.event.specs.declared.NoEvent.{NoEvent}
use Rattle.event.specs.Words.{no_event}
use Rattle.dock.specs.declared.Refusal.TheVariants.{Unfit}
use Rattle.dock.specs.declared.Refusal.{Refusal}

-- A refused word leaves the state as it came.
pub refused_unchanged : (s : Controller) (w : ℕ) → refusal_of (step_of s w).answer ≢ 0 → (step_of s w).controller ≡ s
unfolding step_of
refused_unchanged s w = pick Unchanged (fits s.machine) (λ f. by_word_lem (unpacked w)) (λ f n. refl)
  where
    Unchanged : Stepped → Type 0
    Unchanged x = refusal_of x.answer ≢ 0 → x.controller ≡ s

    by_word_lem : (u : Result Event NoEvent) → Unchanged (step_fit s u)
    by_word_lem (Err why) = λ n. refl
    by_word_lem (Ok e) = pick Unchanged (takes s.machine.started e) (λ t n. absurd (n refl)) (λ t n. refl)

-- The other three numbers of an answer.
pub record Numbers (a : Answer) (reply byte out : ℕ) : Type 0 where
  pub reply_is : reply_of a ≡ reply
  pub byte_is : byte_of a ≡ byte
  pub outputs_are : outputs_of a ≡ out

-- What comes back with each number: with 1 and 3 all is 0, with 2 the outputs are those of the state, and with 0 those of the next state.
pub record ComesBack (s : Controller) (x : Stepped) : Type 0 where
  pub one : refusal_of x.answer ≡ 1 → Numbers x.answer 0 0 0
  pub two : refusal_of x.answer ≡ 2 → Numbers x.answer 0 0 (outputs s.machine)
  pub three : refusal_of x.answer ≡ 3 → Numbers x.answer 0 0 0
  pub none : refusal_of x.answer ≡ 0 → outputs_of x.answer ≡ outputs x.controller.machine

pub comes_back : (s : Controller) (w : ℕ) → ComesBack s (step_of s w)
unfolding step_of
comes_back s w = pick (ComesBack s) (fits s.machine) (λ f. by_word_lem (unpacked w)) (λ f. refused_1)
  where
    refused_1 : ComesBack s (refused s (Err Unfit))
    refused_1 =
        record {
          one = λ n. record { reply_is = refl; byte_is = refl; outputs_are = refl };
          two = λ n. absurd (omega (arith, n));
          three = λ n. absurd (omega (arith, n));
          none = λ n. absurd (omega (arith, n));
        }

    by_word_lem : (u : Result Event NoEvent) → ComesBack s (step_fit s u)
    by_word_lem (Err no_event) =
        record {
          one = λ n. absurd (omega (arith, n));
          two = λ n. record { reply_is = refl; byte_is = refl; outputs_are = refl };
          three = λ n. absurd (omega (arith, n));
          none = λ n. absurd (omega (arith, n));
        }
    by_word_lem (Ok e) =
        pick (ComesBack s) (takes s.machine.started e)
        (λ t. record {
          one = λ n. absurd (omega (arith, n));
          two = λ n. absurd (omega (arith, n));
          three = λ n. absurd (omega (arith, n));
          none = λ n. refl;
        })
        (λ t. record {
          one = λ n. absurd (omega (arith, n));
          two = λ n. absurd (omega (arith, n));
          three = λ n. record { reply_is = refl; byte_is = refl; outputs_are = refl };
          none = λ n. absurd (omega (arith, n));
        })

-- What is taken: anything once started, and before that a RESET.
Taken : Bool → Event → Type 0
Taken b e = (b ≡ true) ⊎ ((straps : ℕ) × (levels : ℕ) × (short : Bool) × (e ≡ Reset straps levels short))

taken : (b : Bool) (e : Event) → takes b e ≡ true → Taken b e
unfolding takes Taken
taken true e k = inl refl
taken false Start k = absurd (false≢true k)
taken false Stop k = absurd (false≢true k)
taken false (Byte b) k = absurd (false≢true k)
taken false (Take a) k = absurd (false≢true k)
taken false (Pins l) k = absurd (false≢true k)
taken false Tick k = absurd (false≢true k)
taken false (Reset s l short) k = inr (s, l, short, refl)
taken false Timeout k = absurd (false≢true k)

pub reset_taken : (b : Bool) (s l : ℕ) (short : Bool) → takes b (Reset s l short) ≡ true
unfolding takes
reset_taken true s l short = refl
reset_taken false s l short = refl

takes_it : (b : Bool) (e : Event) → Taken b e → takes b e ≡ true
unfolding Taken takes
takes_it b e (inl t) = rw t
takes_it b e (inr r) = rw r.3 (reset_taken b r.0 r.1 r.2)

-- ---- the three tests, one after the other

module _ (s : Controller) (w : ℕ) where
  unfit : fits s.machine ≡ false → Exactly s w 1
  unfit f =
      record {
        one = (λ n. f, λ g. refl);
        two = (λ n. absurd (omega arith), λ h. absurd (false≢true (sym f ∙ h.0)));
        three = (λ n. absurd (omega arith), λ h. absurd (false≢true (sym f ∙ h.0)));
        none = (λ n. absurd (omega arith), λ h. absurd (false≢true (sym f ∙ h.0)));
      }

  stray : fits s.machine ≡ true → StrayBitSet w → Exactly s w 2
  stray f b =
      record {
        one = (λ n. absurd (omega arith), λ g. absurd (true≢false (sym f ∙ g)));
        two = (λ n. (f, b), λ h. refl);
        three = (λ n. absurd (omega arith), λ h. absurd (h.1 b));
        none = (λ n. absurd (omega arith), λ h. absurd (h.1 b));
      }

  early : fits s.machine ≡ true → (StrayBitSet w → ⊥) → s.machine.started ≡ false → (IsReset w → ⊥) → Exactly s w 3
  early f b t r =
      record {
        one = (λ n. absurd (omega arith), λ g. absurd (true≢false (sym f ∙ g)));
        two = (λ n. absurd (omega arith), λ h. absurd (b h.1));
        three = (λ n. (f, b, t, r), λ h. refl);
        none = (λ n. absurd (omega arith), λ h. absurd (⊎_elim (λ u. true≢false (sym u ∙ t)) r h.2));
      }

  accepted : fits s.machine ≡ true → (StrayBitSet w → ⊥) → (s.machine.started ≡ true) ⊎ IsReset w → Exactly s w 0
  accepted f b t =
      record {
        one = (λ n. absurd (omega arith), λ g. absurd (true≢false (sym f ∙ g)));
        two = (λ n. absurd (omega arith), λ h. absurd (b h.1));
        three = (λ n. absurd (omega arith), λ h. absurd (⊎_elim (λ u. true≢false (sym u ∙ h.2)) h.3 t));
        none = (λ n. (f, b, t), λ h. refl);
      }

  by_event_lem : fits s.machine ≡ true → (StrayBitSet w → ⊥) → (e : Event) → unpacked w ≡ Ok e → Exactly s w (refusal_of (step_fit s (Ok e)).answer)
  unfolding Taken
  by_event_lem f b e p =
      pick (λ (x : Stepped). Exactly s w (refusal_of x.answer)) (takes s.machine.started e) (λ k. accepted f b (reset_word (taken _ e k))) (λ k. refused_early k)
    where
      reset_word : Taken s.machine.started e → (s.machine.started ≡ true) ⊎ IsReset w
      reset_word (inl t) = inl t
      reset_word (inr r) = inr (r.0, r.1, r.2, p ∙ ap Ok r.3)

      -- another event of the same word is the same event
      same : {x : Event} → unpacked w ≡ Ok x → e ≡ x
      same q = let j : Ok e ≡ Ok _ = sym p ∙ q in cc

      refused_early : takes s.machine.started e ≡ false → Exactly s w 3
      refused_early k =
          early f b (not_started s.machine.started refl)
          (λ r. false≢true (sym k ∙ takes_it s.machine.started e (inr (r.0, r.1, r.2, same r.3))))
        where
          not_started : (t : Bool) → s.machine.started ≡ t → s.machine.started ≡ false
          not_started true t = absurd (false≢true (sym k ∙ takes_it s.machine.started e (inl t)))
          not_started false t = t

  by_word_lem : fits s.machine ≡ true → (u : Result Event NoEvent) → unpacked w ≡ u → Exactly s w (refusal_of (step_fit s u).answer)
  by_word_lem f (Err why) p = stray f ((words_refused w).0 p)
  by_word_lem f (Ok e) p = by_event_lem f (λ b. accepted_is_none (sym p ∙ (words_refused w).1 b)) e p

  -- Each refusal is given exactly when the table says.
  pub exactly : Exactly s w (refusal_of (step_of s w).answer)
  unfolding step_of
  exactly = pick (λ (x : Stepped). Exactly s w (refusal_of x.answer)) (fits s.machine) (λ f. by_word_lem f (unpacked w) refl) (λ f. unfit f)

-- ---- questions

-- A question about a fit state gives its value with 0; an unfit state is refused with 1 and value 0.
pub record Answers (s : Controller) (t : Result ℕ Refusal) (value : ℕ) : Type 0 where
  pub refused_1 : fits s.machine ≡ false → (told_refusal t ≡ 1) × (told_value t ≡ 0)
  pub told : fits s.machine ≡ true → (told_refusal t ≡ 0) × (told_value t ≡ value)

told_of : (s : Controller) (value : ℕ) → Answers s (cond (fits s.machine) (Ok value) (Err Unfit)) value
told_of s value = record { refused_1 = λ f. rw f (refl, refl); told = λ f. rw f (refl, refl) }

pub reading_told : (s : Controller) (a : ℕ) → Answers s (told_reading s a) (reading s.machine a)
unfolding told_reading
reading_told s a = told_of s (reading s.machine a)

pub outputs_told : (s : Controller) → Answers s (told_outputs s) (outputs s.machine)
unfolding told_outputs
outputs_told s = told_of s (outputs s.machine)

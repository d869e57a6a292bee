-- The queue that a caller holds as bytes: what it was put and what it gives, over any calls, is the queue's own promise; which bytes are refused with
-- 1; and that a refused call leaves every byte as it came. Assumes nothing.
use Prim.Native.Nat.{ℕ, ◌+◌, ◌*◌, ◌≤◌}
use native.Mathlib.Omega.{arith}
use mathlib.Core.Path.{◌≡◌, refl, sym, ap, ◌∙◌}
use mathlib.Core.Logic.{◌↔◌, ◌≢◌}
use mathlib.Core.Bool.{Bool, true, false, cond, ◌&&◌}
use mathlib.Core.List.{List, [], ◌∷◌, ◌++◌}
use lib.Dec.{eqb}
use lib.ListN.{length, get_or, get_or-eq_default}
use borrow.Author.Tests.{eqb-true, eqb-false, eq-eqb, ne_eqb}
use Rattle.std.specs.Prelude.{Result}
use Rattle.queue.specs.Record.{empty_queue, fits, waiting}
use Rattle.queue.specs.Numbers.{outcome_refusal, outcome_word}
use Rattle.queue.specs.Turns.{put_of}
use Rattle.queue.specs.Run.{Call, put, take, call_of, after, accepted, taken}
use Rattle.queue.specs.declared.Queue.{Queue}
use Rattle.queue.specs.declared.Answer.{Answer}
use Rattle.queue.specs.declared.Refusal.{Refusal}
use Rattle.queue.proofs.Fit.{empty_fit}
use Rattle.queue.proofs.Cases.{ring_kept}
use Rattle.queue.proofs.Theorems.{Kept, promise, refused_untouched, refused_with_1 as unfit_only, same_refusal, begun as begun_empty}
use Rattle.queue_image.specs.Save.{saved, saved_in}
use Rattle.queue_image.specs.Load.{is_image, queue_in}
use Rattle.queue_image.proofs.RoundTrip.{queue_back, saved_image, parts, ring_long}
use Rattle.link.specs.Queues.{begun, begun_in, outcome_in, answered_as, kept_by, turned_in, after_in, accepted_in, taken_in}

-- ---- a call on an image is the call on its queue

record Turned (bytes : List ℕ) (c : Call) (bytes' : List ℕ) : Type 0 where
  image : is_image bytes' ≡ true
  queue : queue_in bytes' ≡ (call_of (queue_in bytes) c).queue

outcome_of_lem : (bytes : List ℕ) (c : Call) → is_image bytes ≡ true → outcome_in bytes c ≡ (call_of (queue_in bytes) c).outcome
unfolding outcome_in
outcome_of_lem bytes c i = rw i refl

turned : (bytes : List ℕ) (c : Call) → is_image bytes ≡ true → Turned bytes c (turned_in bytes c)
unfolding turned_in kept_by saved_in
turned bytes c i = rw i (go (eqb (outcome_refusal a.outcome) 0) refl)
  where
    q : Queue
    q = queue_in bytes

    a : Answer ℕ
    a = call_of q c

    go : (t : Bool) → eqb (outcome_refusal a.outcome) 0 ≡ t → Turned bytes c (cond t (saved_in a.queue bytes) bytes)
    go true e = rw (eq-eqb _ 261 (parts bytes i).long) (record { image = saved_image a.queue (ring_kept q c ∙ ring_long bytes i); queue = queue_back a.queue })
    go false e = record { image = i; queue = sym (refused_untouched q c (eqb-false _ 0 e)).queue }

-- ---- and so are any calls, one after the other

record Same (bytes : List ℕ) (cs : List Call) : Type 0 where
  image : is_image (after_in bytes cs) ≡ true
  queue : queue_in (after_in bytes cs) ≡ after (queue_in bytes) cs
  came : accepted_in bytes cs ≡ accepted (queue_in bytes) cs
  went : taken_in bytes cs ≡ taken (queue_in bytes) cs

same : (bytes : List ℕ) (cs : List Call) → is_image bytes ≡ true → Same bytes cs
unfolding after_in accepted_in taken_in after accepted taken
same bytes [] i = record { image = i; queue = refl; came = refl; went = refl }
same bytes (c ∷ cs) i =
    let t = turned bytes c i in
    let o = outcome_of_lem bytes c i in
    let s = same (turned_in bytes c) cs t.image in
    record {
      image = s.image;
      queue = s.queue ∙ ap (λ q. after q cs) t.queue;
      came = rw (o, s.came, t.queue) refl;
      went = rw (o, s.went, t.queue) refl;
    }

-- ---- the promise, from bytes that are the image of a fit queue in which none waits

pub record KeptIn (bytes : List ℕ) (cs : List Call) : Type 0 where
  -- The words taken, followed by the words waiting, are the words accepted, in order.
  pub in_order : taken_in bytes cs ++ waiting (queue_in (after_in bytes cs)) ≡ accepted_in bytes cs
  -- The next put answers refusal 7 exactly when 128 of the words accepted have not been taken, and else 0.
  pub next_put :
      (w : ℕ) → answered_as (outcome_in (after_in bytes cs) (put w)) ≡ cond (eqb (length (accepted_in bytes cs)) (length (taken_in bytes cs) + 128)) (7 * 65536) 0
  -- The next take answers refusal 8 exactly when every word accepted has been taken, and else the first that has not.
  pub next_take :
      answered_as (outcome_in (after_in bytes cs) take)
      ≡ cond (eqb (length (accepted_in bytes cs)) (length (taken_in bytes cs))) (8 * 65536) (get_or (accepted_in bytes cs) (length (taken_in bytes cs)) 0)

as_numbers_lem : (o : Result ℕ Refusal) (t : Bool) (k : ℕ) → outcome_refusal o ≡ cond t k 0 → outcome_word o ≡ 0 → answered_as o ≡ cond t (k * 65536) 0
as_numbers_lem o true k r w = rw (r, w) (omega arith)
as_numbers_lem o false k r w = rw (r, w) refl

pub promise_held : (bytes : List ℕ) (cs : List Call) → is_image bytes ≡ true → fits (queue_in bytes) ≡ true → (queue_in bytes).count ≡ 0 → KeptIn bytes cs
promise_held bytes cs i f none =
    let q = queue_in bytes in
    let s = same bytes cs i in
    let k = promise q cs (ring_long bytes i) f none in
    record {
      in_order = rw (s.came, s.went, s.queue) k.in_order;
      next_put = λ w. rw (outcome_of_lem (after_in bytes cs) (put w) s.image, s.came, s.went, s.queue) (as_numbers_lem (call_of (after q cs) (put w)).outcome (eqb (length (accepted q cs)) (length (taken q cs) + 128)) 7 (same_refusal (put_of (after q cs) w).outcome ∙ k.next_put w) (k.next_put_word w));
      next_take = rw (outcome_of_lem (after_in bytes cs) take s.image, s.came, s.went, s.queue) (taken_as q cs k);
    }
  where
    taken_as :
        (q : Queue) (cs : List Call) → Kept q cs
        → answered_as (call_of (after q cs) take).outcome ≡ cond (eqb (length (accepted q cs)) (length (taken q cs))) (8 * 65536) (get_or (accepted q cs) (length (taken q cs)) 0)
    taken_as q cs k = go (eqb (length (accepted q cs)) (length (taken q cs))) refl k.next_take
      where
        go :
            (t : Bool) → eqb (length (accepted q cs)) (length (taken q cs)) ≡ t → outcome_refusal (call_of (after q cs) take).outcome ≡ cond t 8 0
            → answered_as (call_of (after q cs) take).outcome ≡ cond t (8 * 65536) (get_or (accepted q cs) (length (taken q cs)) 0)
        go true e r =
            let out : length (accepted q cs) ≤ length (taken q cs) = omega (arith, eqb-true (length (accepted q cs)) (length (taken q cs)) e) in
            rw (r, k.next_take_word, get_or-eq_default (accepted q cs) 0 out) (omega arith)
        go false e r = rw (r, k.next_take_word) (omega arith)

-- ---- beginning, exactly where the length is an image's; else refusal 1, and every byte as it came

pub record Begins (bytes : List ℕ) : Type 0 where
  pub answers : begun (length bytes) ≡ cond (eqb (length bytes) 261) 0 (1 * 65536)
  pub empty : length bytes ≡ 261 → begun_in bytes ≡ saved empty_queue
  pub untouched : length bytes ≢ 261 → begun_in bytes ≡ bytes

pub begins : (bytes : List ℕ) → Begins bytes
unfolding begun begun_in saved_in
begins bytes = record { answers = refl; empty = λ l. rw (eq-eqb (length bytes) 261 l) refl; untouched = λ l. rw (ne_eqb (length bytes) 261 l) refl }

pub promise_begun : (bytes : List ℕ) (cs : List Call) → length bytes ≡ 261 → KeptIn (begun_in bytes) cs
promise_begun bytes cs l =
    rw ((begins bytes).empty l)
    (promise_held (saved empty_queue) cs (saved_image empty_queue (ap length begun_empty.ring)) (rw (queue_back empty_queue) empty_fit) (rw (queue_back empty_queue) begun_empty.count))

-- ---- a refused call, and refusal 1 exactly where the bytes are no image of a fit queue

pub record Refused (bytes : List ℕ) (c : Call) : Type 0 where
  pub untouched : outcome_refusal (outcome_in bytes c) ≢ 0 → turned_in bytes c ≡ bytes
  pub one : (outcome_refusal (outcome_in bytes c) ≡ 1) ↔ ((is_image bytes && fits (queue_in bytes)) ≡ false)

pub refused : (bytes : List ℕ) (c : Call) → Refused bytes c
unfolding outcome_in turned_in kept_by
refused bytes c = go (is_image bytes) refl
  where
    go : (t : Bool) → is_image bytes ≡ t → Refused bytes c
    go true e = record { untouched = λ n. rw (e, ne_eqb _ 0 (rw e at n)) refl; one = rw e (unfit_only (queue_in bytes) c) }
    go false e = record { untouched = λ n. rw e refl; one = rw e (λ h. refl, λ h. refl) }

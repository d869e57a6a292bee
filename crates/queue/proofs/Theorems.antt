-- What a queue is for (document 02, request 8), over any calls in any order. The theorems are about the definitions of specs/, which the contracts
-- of `Queue::put` and `Queue::take` give as the whole answer. Assumes nothing.
use Prim.Native.Nat.{ℕ, ◌+◌, ◌%◌, ◌<◌}
use native.Mathlib.Omega.{arith}
use native.Mathlib.Nat.{add-zero}
use mathlib.Core.Path.{◌≡◌, refl, sym, ap, ◌∙◌}
use mathlib.Core.Logic.{◌↔◌, ◌≢◌}
use mathlib.Core.Bool.{Bool, true, false, cond, true≢false}
use mathlib.Core.List.{List, ◌++◌}
use lib.Dec.{eqb}
use lib.ListN.{length, get_or, replicate, length-append}
use lib.Seq.{get_or-append-add, get_or-set_other}
use borrow.Author.Tests.{eqb-true, eqb-false, eq-eqb, ne_eqb}
use Rattle.std.specs.Prelude.{Result, Ok, Err}
use Rattle.queue.specs.Record.{empty_queue, fits, waiting}
use Rattle.queue.specs.Numbers.{outcome_refusal, outcome_word}
use Rattle.queue.specs.Turns.{accepts, gives, put_of, take_of}
use Rattle.queue.specs.Run.{Call, put, take, no_word, numbered, call_of, after, accepted, taken}
use Rattle.queue.specs.declared.Queue.{Queue}
use Rattle.queue.specs.declared.Answer.{Answer}
use Rattle.queue.specs.declared.Refusal.{Refusal}
use Rattle.queue.proofs.Fit.{empty_fit, fit_parts}
use Rattle.queue.proofs.Ring.{after_last}
use Rattle.queue.proofs.Cases.{puts, takes, none_waits, as_counted, oldest_first}
use Rattle.queue.proofs.Moved.{Ready, stays_ready, conserved}
use Rattle.queue.proofs.Queue.empty.Reads as empty_reads
use Rattle.queue.proofs.Queue.put.Reads as put_reads
use Rattle.queue.proofs.Queue.take.Reads as take_reads
use Rattle.queue.proofs.Refusal.number.Reads as number_reads
use Rattle.queue.proofs.numbers.number.Reads as refusal_reads
use Rattle.queue.proofs.numbers.put_number.Reads as put_number_reads
use Rattle.queue.proofs.numbers.word.Reads as word_reads

-- ---- the promise

-- After these calls.
pub record Kept (q : Queue) (cs : List Call) : Type 0 where
  -- The words taken, followed by the words waiting, are the words accepted, in order.
  pub in_order : taken q cs ++ waiting (after q cs) ≡ accepted q cs
  -- The next put is refused exactly when 128 of the words accepted have not been taken, and then with 7; it answers no word.
  pub next_put : (w : ℕ) → outcome_refusal (put_of (after q cs) w).outcome ≡ cond (eqb (length (accepted q cs)) (length (taken q cs) + 128)) 7 0
  pub next_put_word : (w : ℕ) → outcome_word (call_of (after q cs) (put w)).outcome ≡ 0
  -- The next take is refused exactly when every word accepted has been taken, and then with 8 and word 0; else it gives the first that hasn't.
  pub next_take : outcome_refusal (take_of (after q cs)).outcome ≡ cond (eqb (length (accepted q cs)) (length (taken q cs))) 8 0
  pub next_take_word : outcome_word (take_of (after q cs)).outcome ≡ get_or (accepted q cs) (length (taken q cs)) 0
  -- The record is fit.
  pub fit : fits (after q cs) ≡ true

-- ---- .. by the count of the queue after them

-- In numbers a put is refused as it is.
pub same_refusal : (o : Result (Unit {0}) Refusal) → outcome_refusal (no_word o) ≡ outcome_refusal o
same_refusal (Ok given) = refl
same_refusal (Err r) = refl

record PutAnswer (q : Queue) (a : Answer (Unit {0})) : Type 0 where
  refusal : outcome_refusal a.outcome ≡ cond (eqb q.count 128) 7 0
  word : outcome_word (numbered a).outcome ≡ 0

put_answer : (q : Queue) (w : ℕ) → fits q ≡ true → PutAnswer q (put_of q w)
put_answer q w f = go (eqb q.count 128) refl
  where
    go : (full : Bool) → eqb q.count 128 ≡ full → PutAnswer q (put_of q w)
    go true e = rw ((puts q w).seven f (eqb-true _ 128 e)) (record { refusal = rw e refl; word = refl })
    go false e = rw ((puts q w).none f (eqb-false _ 128 e)) (record { refusal = rw e refl; word = refl })

record TakeAnswer (q : Queue) (a : Answer ℕ) : Type 0 where
  refusal : outcome_refusal a.outcome ≡ cond (eqb q.count 0) 8 0
  word : outcome_word a.outcome ≡ get_or (waiting q) 0 0

take_answer : (q : Queue) → fits q ≡ true → TakeAnswer q (take_of q)
take_answer q f = go (eqb q.count 0) refl
  where
    go : (none : Bool) → eqb q.count 0 ≡ none → TakeAnswer q (take_of q)
    go true e =
        let n = eqb-true _ 0 e in
        rw ((takes q).eight f n) (record { refusal = rw e refl; word = rw (none_waits q n) refl })
    go false e =
        let n = eqb-false _ 0 e in
        rw ((takes q).none f n) (record { refusal = rw e refl; word = rw (oldest_first q n) refl })

same_test : (a b c d : ℕ) → (a ≡ b → c ≡ d) → (c ≡ d → a ≡ b) → eqb a b ≡ eqb c d
same_test a b c d to from = go (eqb c d) refl
  where
    go : (t : Bool) → eqb c d ≡ t → eqb a b ≡ t
    go true e = eq-eqb a b (from (eqb-true c d e))
    go false e = ne_eqb a b (λ h. eqb-false c d e (to h))

-- ---- from any fit queue in which none waits, whatever its ring holds

pub promise : (q : Queue) (cs : List Call) → length q.words ≡ 128 → fits q ≡ true → q.count ≡ 0 → Kept q cs
promise q cs ring f none =
    let all = taken q cs in
    let came = accepted q cs in
    let last = after q cs in
    let start : Ready q = record { fit = f; ring = ring } in
    let end = stays_ready q cs start in
    let order : all ++ waiting last ≡ came = sym (conserved q cs start) ∙ ap (λ ws. ws ++ came) (none_waits q none) in
    let sum : length came ≡ length all + last.count = ap length (sym order) ∙ length-append all (waiting last) ∙ ap (λ (n : ℕ). length all + n) (as_counted last) in
    let oldest = take_answer last end.fit in
    record {
      in_order = order;
      next_put =
          λ w. (put_answer last w end.fit).refusal ∙ ap (λ t. cond t 7 0) (same_test last.count 128 (length came) (length all + 128) (λ h. omega (arith, sum, h)) (λ h. omega (arith, sum, h)));
      next_put_word = λ w. (put_answer last w end.fit).word;
      next_take =
          oldest.refusal ∙ ap (λ t. cond t 8 0) (same_test last.count 0 (length came) (length all) (λ h. omega (arith, sum, h)) (λ h. omega (arith, sum, h)));
      next_take_word =
          oldest.word ∙ sym (get_or-append-add all (waiting last) 0 0) ∙ ap (λ (n : ℕ). get_or (all ++ waiting last) n 0) (add-zero (length all)) ∙ ap (λ ws. get_or ws (length all) 0) order;
      fit = end.fit;
    }

-- ---- a refused call: the queue as it came, and word 0

pub record Untouched (q : Queue) (a : Answer ℕ) : Type 0 where
  pub queue : a.queue ≡ q
  pub word : outcome_word a.outcome ≡ 0

pub refused_untouched : (q : Queue) (c : Call) → outcome_refusal (call_of q c).outcome ≢ 0 → Untouched q (call_of q c)
refused_untouched q (put w) h = go (fits q) refl (eqb q.count 128) refl h
  where
    go : (f : Bool) → fits q ≡ f → (n : Bool) → eqb q.count 128 ≡ n → outcome_refusal (numbered (put_of q w)).outcome ≢ 0 → Untouched q (numbered (put_of q w))
    go false e n k h = rw ((puts q w).one e) (record { queue = refl; word = refl })
    go true e true k h = rw ((puts q w).seven e (eqb-true _ 128 k)) (record { queue = refl; word = refl })
    go true e false k h = absurd (h (rw ((puts q w).none e (eqb-false _ 128 k)) refl))
refused_untouched q take h = go (fits q) refl (eqb q.count 0) refl h
  where
    go : (f : Bool) → fits q ≡ f → (n : Bool) → eqb q.count 0 ≡ n → outcome_refusal (take_of q).outcome ≢ 0 → Untouched q (take_of q)
    go false e n k h = rw ((takes q).one e) (record { queue = refl; word = refl })
    go true e true k h = rw ((takes q).eight e (eqb-true _ 0 k)) (record { queue = refl; word = refl })
    go true e false k h = absurd (h (rw ((takes q).none e (eqb-false _ 0 k)) refl))

-- ---- a call that isn't refused: a put's queue has its word more, and a take's its oldest less

pub accepted_put : (q : Queue) (w : ℕ) → outcome_refusal (put_of q w).outcome ≡ 0 → put_of q w ≡ accepts q w
accepted_put q w h = go (fits q) refl (eqb q.count 128) refl
  where
    go : (f : Bool) → fits q ≡ f → (n : Bool) → eqb q.count 128 ≡ n → put_of q w ≡ accepts q w
    go false e n k = absurd (omega (arith, rw ((puts q w).one e) at h))
    go true e true k = absurd (omega (arith, rw ((puts q w).seven e (eqb-true _ 128 k)) at h))
    go true e false k = (puts q w).none e (eqb-false _ 128 k)

pub accepted_take : (q : Queue) → outcome_refusal (take_of q).outcome ≡ 0 → take_of q ≡ gives q
accepted_take q h = go (fits q) refl (eqb q.count 0) refl
  where
    go : (f : Bool) → fits q ≡ f → (n : Bool) → eqb q.count 0 ≡ n → take_of q ≡ gives q
    go false e n k = absurd (omega (arith, rw ((takes q).one e) at h))
    go true e true k = absurd (omega (arith, rw ((takes q).eight e (eqb-true _ 0 k)) at h))
    go true e false k = (takes q).none e (eqb-false _ 0 k)

-- ---- refusal 1 exactly for an unfit record

never_1 : (n : Bool) (r k : ℕ) → 1 < k → r ≡ cond n k 0 → r ≢ 1
never_1 true r k l e h = omega (arith, l, e, h)
never_1 false r k l e h = omega (arith, e, h)

pub refused_with_1 : (q : Queue) (c : Call) → (outcome_refusal (call_of q c).outcome ≡ 1) ↔ (fits q ≡ false)
refused_with_1 q (put w) = rw (same_refusal (put_of q w).outcome) (go (fits q) refl)
  where
    go : (f : Bool) → fits q ≡ f → (outcome_refusal (put_of q w).outcome ≡ 1) ↔ (f ≡ false)
    go true e = (λ h. absurd (never_1 (eqb q.count 128) (outcome_refusal (put_of q w).outcome) 7 (omega arith) (put_answer q w e).refusal h), λ h. absurd (true≢false h))
    go false e = (λ h. refl, λ h. rw ((puts q w).one e) refl)
refused_with_1 q take = go (fits q) refl
  where
    go : (f : Bool) → fits q ≡ f → (outcome_refusal (take_of q).outcome ≡ 1) ↔ (f ≡ false)
    go true e = (λ h. absurd (never_1 (eqb q.count 0) (outcome_refusal (take_of q).outcome) 8 (omega arith) (take_answer q e).refusal h), λ h. absurd (true≢false h))
    go false e = (λ h. refl, λ h. rw ((takes q).one e) refl)

-- ---- what an accepted call leaves as it was, and where the start goes

pub record PutLeaves (q q' : Queue) : Type 0 where
  pub start : q'.start ≡ q.start
  pub ring : (k : ℕ) → k ≢ (q.start + q.count) % 128 → get_or q'.words k 0 ≡ get_or q.words k 0

pub put_leaves : (q : Queue) (w : ℕ) → fits q ≡ true → q.count ≢ 128 → PutLeaves q (put_of q w).queue
put_leaves q w f n = rw ((puts q w).none f n) (record { start = refl; ring = λ k h. get_or-set_other q.words _ k w 0 h })

pub record TakeLeaves (q q' : Queue) : Type 0 where
  pub ring : q'.words ≡ q.words
  pub start : q'.start ≡ cond (eqb q.start 127) 0 (q.start + 1)

pub take_leaves : (q : Queue) → fits q ≡ true → q.count ≢ 0 → TakeLeaves q (take_of q).queue
take_leaves q f n = rw ((takes q).none f n) (record { ring = refl; start = after_last q.start ((fit_parts _ _).0 f).start_fits })

-- ---- the empty queue: nothing waits in it, and the promise holds from it

pub record Begun (q : Queue) : Type 0 where
  pub ring : q.words ≡ replicate 128 0
  pub start : q.start ≡ 0
  pub count : q.count ≡ 0

pub begun : Begun empty_queue
unfolding empty_queue
begun = record { ring = refl; start = refl; count = refl }

pub from_empty : (cs : List Call) → Kept empty_queue cs
from_empty cs = promise empty_queue cs (ap length begun.ring) empty_fit begun.count

-- ---- the contracts determine their answers

pub empty_determined : (r r' : Queue) → empty_reads.Post tt tt r tt → empty_reads.Post tt tt r' tt → r ≡ r'
empty_determined r r' p q = p ∙ sym q

pub put_determined : (s : Queue) (w : ℕ) (r r' : Answer (Unit {0})) → put_reads.Post tt (s, (w, tt)) r (s, (w, tt)) → put_reads.Post tt (s, (w, tt)) r' (s, (w, tt)) → r ≡ r'
put_determined s w r r' p q = p ∙ sym q

pub take_determined : (s : Queue) (r r' : Answer ℕ) → take_reads.Post tt (s, tt) r (s, tt) → take_reads.Post tt (s, tt) r' (s, tt) → r ≡ r'
take_determined s r r' p q = p ∙ sym q

pub refusal_determined : (o : Result ℕ Refusal) (r r' : ℕ) → refusal_reads.Post tt (o, tt) r (o, tt) → refusal_reads.Post tt (o, tt) r' (o, tt) → r ≡ r'
refusal_determined o r r' p q = p ∙ sym q

pub put_number_determined :
    (o : Result (Unit {0}) Refusal) (r r' : ℕ) → put_number_reads.Post tt (o, tt) r (o, tt) → put_number_reads.Post tt (o, tt) r' (o, tt) → r ≡ r'
put_number_determined o r r' p q = p ∙ sym q

pub word_determined : (o : Result ℕ Refusal) (r r' : ℕ) → word_reads.Post tt (o, tt) r (o, tt) → word_reads.Post tt (o, tt) r' (o, tt) → r ≡ r'
word_determined o r r' p q = p ∙ sym q

pub number_determined : (o : Refusal) (r r' : ℕ) → number_reads.Post tt (o, tt) r (o, tt) → number_reads.Post tt (o, tt) r' (o, tt) → r ≡ r'
number_determined o r r' p q = p ∙ sym q

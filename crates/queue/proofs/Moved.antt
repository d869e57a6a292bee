-- No word is lost, none comes twice and none overtakes another: each call moves one word, or none, from those accepted behind those waiting, or
-- from the front of these to those taken. Assumes nothing.
use Prim.Native.Nat.{ℕ}
use mathlib.Core.Path.{◌≡◌, refl, sym, ap, ◌∙◌}
use mathlib.Core.Logic.{◌≢◌}
use mathlib.Core.Bool.{Bool, true, false}
use mathlib.Core.List.{List, [], ◌∷◌, ◌++◌, append_assoc, append-nil}
use lib.Dec.{eqb}
use lib.ListN.{length, length-set}
use borrow.Author.Tests.{eqb-true, eqb-false}
use Rattle.queue.specs.Record.{fits, waiting}
use Rattle.queue.specs.Turns.{put_of, take_of}
use Rattle.queue.specs.Run.{Call, put, take, numbered, call_of, after, accepted_by, taken_by, accepted, taken}
use Rattle.queue.specs.declared.Queue.{Queue}
use Rattle.queue.specs.declared.Answer.{Answer}
use Rattle.queue.proofs.Cases.{puts, takes, word_behind, oldest_first, put_fits, take_fits}

-- A fit record, whose ring has 128 places, as the code's type says.
pub record Ready (q : Queue) : Type 0 where
  pub fit : fits q ≡ true
  pub ring : length q.words ≡ 128

-- ---- one call

-- The queue stays ready, and a word moves: from those accepted behind those waiting, or from these to those taken.
record Turned (q : Queue) (c : Call) (a : Answer ℕ) : Type 0 where
  ready : Ready a.queue
  moved : waiting q ++ accepted_by c a.outcome ≡ taken_by c a.outcome ++ waiting a.queue

turn_put : (q : Queue) (w : ℕ) → Ready q → (full : Bool) → eqb q.count 128 ≡ full → Turned q (put w) (numbered (put_of q w))
turn_put q w r true e = rw ((puts q w).seven r.fit (eqb-true _ 128 e)) (record { ready = r; moved = append-nil (waiting q) })
turn_put q w r false e =
    let n : q.count ≢ 128 = eqb-false _ 128 e in
    rw ((puts q w).none r.fit n)
    (record {
      ready = record { fit = put_fits q w r.fit n; ring = length-set q.words _ w ∙ r.ring };
      moved = sym (word_behind q w r.ring r.fit n);
    })

turn_take : (q : Queue) → Ready q → (none : Bool) → eqb q.count 0 ≡ none → Turned q take (take_of q)
turn_take q r true e = rw ((takes q).eight r.fit (eqb-true _ 0 e)) (record { ready = r; moved = append-nil (waiting q) })
turn_take q r false e =
    let n : q.count ≢ 0 = eqb-false _ 0 e in
    rw ((takes q).none r.fit n)
    (record {
      ready = record { fit = take_fits q r.fit; ring = r.ring };
      moved = append-nil (waiting q) ∙ oldest_first q n;
    })

turn : (q : Queue) (c : Call) → Ready q → Turned q c (call_of q c)
turn q (put w) r = turn_put q w r _ refl
turn q take r = turn_take q r _ refl

-- ---- any calls

pub stays_ready : (q : Queue) (cs : List Call) → Ready q → Ready (after q cs)
unfolding after
stays_ready q [] r = r
stays_ready q (c ∷ cs) r = stays_ready (call_of q c).queue cs (turn q c r).ready

-- The words that waited before and those accepted since are the words taken since and those that wait now.
pub conserved : (q : Queue) (cs : List Call) → Ready q → waiting q ++ accepted q cs ≡ taken q cs ++ waiting (after q cs)
unfolding after accepted taken
conserved q [] r = append-nil (waiting q)
conserved q (c ∷ cs) r =
    let o = (call_of q c).outcome in
    let next = (call_of q c).queue in
    let one = turn q c r in
    sym (append_assoc (waiting q) (accepted_by c o) (accepted next cs))
    ∙ ap (λ ws. ws ++ accepted next cs) one.moved
    ∙ append_assoc (taken_by c o) (waiting next) (accepted next cs)
    ∙ ap (λ ws. taken_by c o ++ ws) (conserved next cs one.ready)
    ∙ sym (append_assoc (taken_by c o) (taken next cs) (waiting (after next cs)))

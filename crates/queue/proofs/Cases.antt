-- The cases of a put and of a take, of which one always holds, and no two; what each leaves waiting; and that a fit record stays fit. Assumes
-- nothing.
use Prim.Native.Nat.{ℕ}
use native.Mathlib.Omega.{arith}
use native.Mathlib.Nat.{add-zero, add-suc}
use mathlib.Core.Path.{◌≡◌, refl}
use mathlib.Core.Logic.{◌≢◌}
use mathlib.Core.Bool.{Bool, true, false, cond}
use mathlib.Core.List.{[], ◌∷◌, ◌++◌}
use lib.Dec.{eqb}
use lib.ListN.{length, get_or, length-set}
use borrow.Author.Tests.{eq-eqb, ne_eqb}
use Rattle.queue.specs.Record.{fits, waiting}
use Rattle.queue.specs.Turns.{refused, place, with_word, accepts, without_oldest, gives, put_of, take_of}
use Rattle.queue.specs.Run.{Call, put, take, numbered, call_of}
use Rattle.queue.specs.declared.Queue.{Queue}
use Rattle.queue.specs.declared.Refusal.TheVariants.{Unfit, Full, Empty}
use Rattle.queue.proofs.Fit.{fit_parts}
use Rattle.queue.proofs.Ring.{within, counted, one_more, first_of}

-- ---- the cases, with the request's numbers

pub record Puts (q : Queue) (w : ℕ) : Type 0 where
  -- 1: an unfit record.
  pub one : fits q ≡ false → put_of q w ≡ refused Unfit q
  -- 7: 128 words wait.
  pub seven : fits q ≡ true → q.count ≡ 128 → put_of q w ≡ refused Full q
  -- 0: else, whatever the word.
  pub none : fits q ≡ true → q.count ≢ 128 → put_of q w ≡ accepts q w

pub puts : (q : Queue) (w : ℕ) → Puts q w
unfolding put_of
puts q w =
    record {
      one = λ f. rw f;
      seven = λ f n. rw (f, eq-eqb q.count 128 n);
      none = λ f n. rw (f, ne_eqb q.count 128 n);
    }

pub record Takes (q : Queue) : Type 0 where
  pub one : fits q ≡ false → take_of q ≡ refused Unfit q
  -- 8: none waits.
  pub eight : fits q ≡ true → q.count ≡ 0 → take_of q ≡ refused Empty q
  pub none : fits q ≡ true → q.count ≢ 0 → take_of q ≡ gives q

pub takes : (q : Queue) → Takes q
unfolding take_of
takes q =
    record {
      one = λ f. rw f;
      eight = λ f n. rw (f, eq-eqb q.count 0 n);
      none = λ f n. rw (f, ne_eqb q.count 0 n);
    }

-- ---- what waits

pub as_counted : (q : Queue) → length (waiting q) ≡ q.count
unfolding waiting
as_counted q = counted q.words q.start q.count

pub none_waits : (q : Queue) → q.count ≡ 0 → waiting q ≡ []
unfolding waiting
none_waits q n = rw n refl

-- ---- what waits afterwards

pub word_behind : (q : Queue) (w : ℕ) → length q.words ≡ 128 → fits q ≡ true → q.count ≢ 128 → waiting (with_word q w) ≡ waiting q ++ (w ∷ [])
unfolding waiting
word_behind q w len f n =
    let range = (fit_parts _ _).0 f in
    rw (add-suc q.count 0, add-zero q.count)
    (one_more q.words q.start q.count w len range.start_fits (omega (arith, range.count_fits, n)))

pub oldest_first : (q : Queue) → q.count ≢ 0 → waiting q ≡ get_or q.words q.start 0 ∷ waiting (without_oldest q)
unfolding waiting
oldest_first q n = first_of q.words q.start q.count n

-- ---- a fit record stays fit

pub put_fits : (q : Queue) (w : ℕ) → fits q ≡ true → q.count ≢ 128 → fits (with_word q w) ≡ true
put_fits q w f n =
    let range = (fit_parts _ _).0 f in
    (fit_parts _ _).1 (record { start_fits = range.start_fits; count_fits = omega (arith, range.count_fits, n) })

pub take_fits : (q : Queue) → fits q ≡ true → fits (without_oldest q) ≡ true
take_fits q f =
    let range = (fit_parts _ _).0 f in
    (fit_parts _ _).1 (record { start_fits = within q.start 1; count_fits = omega (arith, range.count_fits) })

-- ---- every call leaves the ring as long as it was

pub ring_kept : (q : Queue) (c : Call) → length (call_of q c).queue.words ≡ length q.words
unfolding put_of take_of
ring_kept q (put w) = go (fits q) (eqb q.count 128)
  where
    go : (f n : Bool) → length (numbered (cond f (cond n (refused Full q) (accepts q w)) (refused Unfit q))).queue.words ≡ length q.words
    go true true = refl
    go true false = length-set q.words (place q.start q.count) w
    go false n = refl
ring_kept q take = go (fits q) (eqb q.count 0)
  where
    go : (f n : Bool) → length (cond f (cond n (refused Empty q) (gives q)) (refused Unfit q)).queue.words ≡ length q.words
    go true true = refl
    go true false = refl
    go false n = refl

-- What a put or a take on held bytes comes to, by what was loaded, what the queue answered and what was written of it. Assumes nothing.
use Prim.Native.Nat.{ℕ, ◌<◌}
use mathlib.Core.Path.{◌≡◌, refl, sym, ap, ◌∙◌}
use mathlib.Core.Bool.{Bool, true, false, cond, true≢false}
use mathlib.Core.List.{List}
use lib.Dec.{eqb}
use lib.ListN.{get_or}
use borrow.Author.Tests.{eq-eqb}
use Rattle.std.specs.Prelude.{Result, Ok, Err}
use Rattle.std.specs.Result.{is_ok, result_ok, result_err}
use Rattle.std.proofs.lemmas.Option.{same_Some}
use Rattle.queue.specs.Numbers.{number_of, outcome_refusal}
use Rattle.queue.specs.Turns.{put_of, take_of}
use Rattle.queue.specs.Run.{Call, put, take, numbered, call_of}
use Rattle.queue.specs.declared.Queue.{Queue}
use Rattle.queue.specs.declared.Answer.{Answer}
use Rattle.queue.specs.declared.Refusal.{Refusal}
use Rattle.queue.specs.declared.Refusal.TheVariants.{Unfit, Full, Empty}
use Rattle.queue.proofs.Theorems.{accepted_put, accepted_take}
use Rattle.queue_image.specs.Save.{saved, saved_in, put_in, take_in}
use Rattle.queue_image.specs.Load.{is_image, queue_in}
use Rattle.queue_image.proofs.RoundTrip.{parts}
use Rattle.queue_image.proofs.Changed.{put_kept, take_kept}
use Rattle.link.specs.Queues.{NO_QUEUE, held_in, outcome_in, kept_by, turned_in}

-- What the call gives, and the bytes that it leaves.
pub record Left (bytes : List ℕ) (c : Call) (o : Result ℕ Refusal) (left : List ℕ) : Type 0 where
  pub value : o ≡ outcome_in bytes c
  pub image : left ≡ turned_in bytes c

-- ---- the bytes are no image

pub left_alone : (bytes : List ℕ) (c : Call) (r : Refusal) → Err r ≡ held_in bytes → Left bytes c (Err r) bytes
unfolding outcome_in turned_in
left_alone bytes c r e = go (is_image bytes) refl e
  where
    go : (t : Bool) → is_image bytes ≡ t → Err r ≡ cond t (Ok (queue_in bytes)) (Err NO_QUEUE) → Left bytes c (Err r) bytes
    go true i e = absurd (true≢false (sym (ap is_ok e)))
    go false i e = record { value = rw (i, same_Some _ _ (ap result_err e)) refl; image = rw i refl }

-- ---- they are

pub loaded : (bytes : List ℕ) (q : Queue) → Ok q ≡ held_in bytes → (is_image bytes ≡ true) × (q ≡ queue_in bytes)
loaded bytes q e = go (is_image bytes) refl e
  where
    go : (t : Bool) → is_image bytes ≡ t → Ok q ≡ cond t (Ok (queue_in bytes)) (Err NO_QUEUE) → (is_image bytes ≡ true) × (q ≡ queue_in bytes)
    go true i e = (i, same_Some _ _ (ap result_ok e))
    go false i e = absurd (true≢false (ap is_ok e))

refused_not_0 : (r : Refusal) → eqb (number_of r) 0 ≡ false
refused_not_0 Unfit = refl
refused_not_0 Full = refl
refused_not_0 Empty = refl

module _ (bytes : List ℕ) (c : Call) (a : Answer ℕ) (i : is_image bytes ≡ true) (e : a ≡ call_of (queue_in bytes) c) where
  left_refused : (r : Refusal) → a.outcome ≡ Err r → Left bytes c (Err r) bytes
  unfolding outcome_in turned_in kept_by
  left_refused r n = record { value = rw (i, ← e, n) refl; image = rw (i, ← e, n, refused_not_0 r) refl }

  left_saved : (w : ℕ) → a.outcome ≡ Ok w → Left bytes c (Ok w) (saved a.queue)
  unfolding outcome_in turned_in kept_by saved_in
  left_saved w n = record { value = rw (i, ← e, n) refl; image = rw (i, ← e, n, eq-eqb _ 261 (parts bytes i).long) refl }

-- ---- .. by what the queue answered

module _ (bytes : List ℕ) (q : Queue) (h : Ok q ≡ held_in bytes) where
  image : is_image bytes ≡ true
  image = (loaded bytes q h).0

  module _ (w : ℕ) (a : Answer (Unit {0})) (e : a ≡ put_of q w) where
    is_put : a ≡ put_of (queue_in bytes) w
    is_put = e ∙ ap (λ q. put_of q w) (loaded bytes q h).1

    pub put_refused : (r : Refusal) → a.outcome ≡ Err r → Left bytes (put w) (Err r) bytes
    put_refused r n = left_refused bytes (put w) (numbered a) image (ap numbered is_put) r (rw n refl)

    pub put_done : (given : Unit {0}) → a.outcome ≡ Ok given → ((k : ℕ) → get_or bytes k 0 < 256) → Left bytes (put w) (Ok 0) (put_in a.queue w bytes)
    put_done given n octets =
        let none = ap outcome_refusal n in
        let accepted = ap (λ (a : Answer (Unit {0})). a.queue) (is_put ∙ accepted_put (queue_in bytes) w (rw is_put at none)) in
        let same : put_in a.queue w bytes ≡ saved a.queue = rw accepted (put_kept bytes image octets w) in
        rw same (left_saved bytes (put w) (numbered a) image (ap numbered is_put) 0 (rw n refl))

  module _ (a : Answer ℕ) (e : a ≡ take_of q) where
    is_take : a ≡ take_of (queue_in bytes)
    is_take = e ∙ ap take_of (loaded bytes q h).1

    pub take_refused : (r : Refusal) → a.outcome ≡ Err r → Left bytes take (Err r) bytes
    take_refused r n = left_refused bytes take a image is_take r n

    pub take_done : (w : ℕ) → a.outcome ≡ Ok w → ((k : ℕ) → get_or bytes k 0 < 256) → Left bytes take (Ok w) (take_in a.queue bytes)
    take_done w n octets =
        let none = ap outcome_refusal n in
        let accepted = ap (λ (a : Answer ℕ). a.queue) (is_take ∙ accepted_take (queue_in bytes) (rw is_take at none)) in
        let same : take_in a.queue bytes ≡ saved a.queue = rw accepted (take_kept bytes image octets) in
        rw same (left_saved bytes take a image is_take w n)

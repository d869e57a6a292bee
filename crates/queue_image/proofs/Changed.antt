-- After a put or a take few bytes of an image are other ones: where these are written, the bytes are the image of the queue afterwards. Assumes
-- nothing.
use Prim.Native.Nat.{ℕ, suc, ◌+◌, ◌*◌, ◌/◌, ◌%◌, ◌<◌}
use native.Mathlib.Omega.{arith}
use mathlib.Core.Path.{◌≡◌, refl, sym, ap, ◌∙◌}
use mathlib.Core.Bool.{true}
use mathlib.Core.List.{List, [], ◌∷◌}
use lib.ListN.{length, get_or, set}
use borrow.Author.Tests.{eq-eqb}
use Rattle.pairs.specs.Pairs.{bytes_of}
use Rattle.pairs.proofs.Pairs.{bytes_set}
use Rattle.queue.specs.Turns.{with_word, without_oldest}
use Rattle.queue.specs.declared.Queue.{Queue}
use Rattle.queue_image.specs.Save.{saved, over, newest, put_in, take_in}
use Rattle.queue_image.specs.Load.{is_image, queue_in}
use Rattle.queue_image.proofs.RoundTrip.{parts, ring_long, bytes_back}

-- Behind five bytes.
behind : (a b c d e k : ℕ) (new rest : List ℕ) → over (5 + k) new (a ∷ b ∷ c ∷ d ∷ e ∷ rest) ≡ a ∷ b ∷ c ∷ d ∷ e ∷ over k new rest
behind a b c d e k new rest =
    let five : 5 + k ≡ suc (suc (suc (suc (suc k)))) = omega arith in
    rw five refl

module _ (bytes : List ℕ) (image : is_image bytes ≡ true) (octets : (i : ℕ) → get_or bytes i 0 < 256) (q' : Queue) where
  same : saved (queue_in bytes) ≡ bytes
  same = bytes_back bytes image octets

  -- Start and count.
  take_saved : q'.words ≡ (queue_in bytes).words → take_in q' bytes ≡ saved q'
  unfolding take_in saved bytes_of
  take_saved e = rw (eq-eqb (length bytes) 261 (parts bytes image).long, ← same, e) refl

  -- The count, and a word.
  count_changed :
      q'.start ≡ (queue_in bytes).start
      → over 3 (bytes_of (q'.count ∷ [])) bytes ≡ 1 ∷ q'.start / 256 ∷ q'.start % 256 ∷ q'.count / 256 ∷ q'.count % 256 ∷ bytes_of (queue_in bytes).words
  unfolding saved bytes_of
  count_changed s = ap (over 3 (bytes_of (q'.count ∷ []))) (sym same) ∙ rw s refl

  put_saved :
      (w : ℕ) → q'.start ≡ (queue_in bytes).start → q'.words ≡ set (queue_in bytes).words (newest q'.start q'.count) w → put_in q' w bytes ≡ saved q'
  unfolding put_in saved bytes_of
  put_saved w s e =
      let n = newest q'.start q'.count in
      let short : n < length (queue_in bytes).words = rw (ring_long bytes image) (omega arith) in
      rw (eq-eqb (length bytes) 261 (parts bytes image).long, e)
      (ap (over (5 + 2 * n) (bytes_of (w ∷ []))) (count_changed s)
      ∙ behind 1 (q'.start / 256) (q'.start % 256) (q'.count / 256) (q'.count % 256) (2 * n) (bytes_of (w ∷ [])) (bytes_of (queue_in bytes).words)
      ∙ ap (λ bs. 1 ∷ q'.start / 256 ∷ q'.start % 256 ∷ q'.count / 256 ∷ q'.count % 256 ∷ bs) (bytes_set (queue_in bytes).words n w short))

-- ---- .. and so after every put and every take of the queue that was loaded

module _ (bytes : List ℕ) (image : is_image bytes ≡ true) (octets : (i : ℕ) → get_or bytes i 0 < 256) where
  pub put_kept : (w : ℕ) → put_in (with_word (queue_in bytes) w) w bytes ≡ saved (with_word (queue_in bytes) w)
  put_kept w =
      let q = queue_in bytes in
      let there : (q.start + q.count) % 128 ≡ newest q.start (q.count + 1) = omega arith in
      put_saved bytes image octets (with_word q w) w refl (ap (λ (k : ℕ). set q.words k w) there)

  pub take_kept : take_in (without_oldest (queue_in bytes)) bytes ≡ saved (without_oldest (queue_in bytes))
  take_kept = take_saved bytes image octets (without_oldest (queue_in bytes)) refl

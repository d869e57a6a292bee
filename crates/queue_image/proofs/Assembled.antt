-- An image put together in three steps: the version, start and count behind it, and the ring behind these. Assumes nothing.
use Prim.Native.Nat.{ℕ, suc, ◌-◌}
use native.Mathlib.Omega.{arith}
use mathlib.Core.Path.{◌≡◌, refl, ◌∙◌}
use mathlib.Core.List.{List, [], ◌∷◌, ◌++◌, append-nil}
use lib.ListN.{length, set, take, drop, length-append, length-drop, drop_of_length-le}
use lib.Seq.{length-take-le, take_at, drop_at}
use borrow.Rule.Slice.PartMut.{put_mid}
use Rattle.pairs.specs.Pairs.{bytes_of}
use Rattle.queue_image.specs.Save.{over}

-- Two numbers behind the first byte, which is 1.
pub numbers_put :
    (image : List ℕ) (start count : ℕ) → length image ≡ 261
    → over 1 (bytes_of (start ∷ count ∷ [])) (set image 0 1) ≡ 1 ∷ (bytes_of (start ∷ count ∷ []) ++ drop 5 image)
unfolding bytes_of
numbers_put [] start count l = absurd (omega (arith, l))
numbers_put (b ∷ bs) start count l = refl

pub numbers_long : (image two : List ℕ) → length image ≡ 261 → length two ≡ 4 → length {A = ℕ} (1 ∷ (two ++ drop 5 image)) ≡ 261
numbers_long image two l four = omega (arith, length-append two (drop 5 image), length-drop 5 image, l, four)

-- What is left behind five bytes.
pub rest_long : (p : List ℕ) → length p ≡ 261 → length (take (length p - 5) (drop 5 p)) ≡ 256
rest_long p l = length-take-le (length p - 5) (drop 5 p) (omega (arith, length-drop 5 p)) ∙ omega (arith, l)

pub ring_put : (p two rest ring : List ℕ) → p ≡ 1 ∷ (two ++ rest) → length two ≡ 4 → put_mid 5 (length p - 5) p ring ≡ 1 ∷ (two ++ ring)
ring_put p two rest ring is four =
    let gone : drop (suc (length (two ++ rest)) - 5) rest ≡ [] = drop_of_length-le rest {i = suc (length (two ++ rest)) - 5} (omega (arith, length-append two rest, four)) in
    rw (is, take_at two rest 4 four, drop_at two rest 4 four, gone, append-nil ring) refl

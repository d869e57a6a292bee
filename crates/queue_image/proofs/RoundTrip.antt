-- A queue as bytes: saved and loaded again it is the same, and bytes that are an image are the image of exactly one queue. Assumes nothing.
use Prim.Native.Nat.{ℕ, suc, ◌<◌}
use native.Mathlib.Omega.{arith}
use mathlib.Core.Path.{◌≡◌, refl, sym, ap, ◌∙◌}
use mathlib.Core.Bool.{Bool, true, and-eq-true_iff}
use mathlib.Core.List.{List, [], ◌∷◌}
use lib.Dec.{eqb}
use lib.ListN.{length, get_or, drop, length-drop}
use borrow.Author.Tests.{eqb-true, eq-eqb}
use denote.Ref.{Bor, MutBor}
use Rattle.std.specs.Prelude.{Option}
use Rattle.pairs.specs.Pairs.{bytes_of}
use Rattle.pairs.proofs.Pairs.{word_back, high_back, low_back, bytes_length, read_again, words_length, written_again}
use Rattle.queue.specs.declared.Queue.{Queue}
use Rattle.queue_image.specs.Save.{saved}
use Rattle.queue_image.specs.Load.{is_image, queue_in}
use Rattle.queue_image.proofs.save.save.Reads as save_reads
use Rattle.queue_image.proofs.save.save_put.Reads as save_put_reads
use Rattle.queue_image.proofs.save.save_take.Reads as save_take_reads
use Rattle.queue_image.proofs.load.is_image.Reads as is_image_reads
use Rattle.queue_image.proofs.load.queue_of.Reads as queue_of_reads
use Rattle.queue_image.proofs.load.load.Reads as load_reads

-- ---- an image, byte by byte

pub places : (ring : List ℕ) → saved (record { words = 0xC0BF ∷ ring; start = 0x0203; count = 0x0405 }) ≡ 1 ∷ 2 ∷ 3 ∷ 4 ∷ 5 ∷ 0xC0 ∷ 0xBF ∷ bytes_of ring
unfolding saved bytes_of
places ring = refl

-- ---- a queue, saved and loaded

pub queue_back : (q : Queue) → queue_in (saved q) ≡ q
unfolding saved queue_in bytes_of
queue_back q = rw (word_back q.start, word_back q.count, read_again q.words) refl

pub saved_image : (q : Queue) → length q.words ≡ 128 → is_image (saved q) ≡ true
unfolding saved is_image bytes_of
saved_image q ring = rw (eq-eqb (length (saved q)) 261 (omega (arith, bytes_length q.words, ring))) refl

-- ---- bytes, loaded and saved

pub record Parts (bytes : List ℕ) : Type 0 where
  pub long : length bytes ≡ 261
  pub version : get_or bytes 0 0 ≡ 1

pub parts : (bytes : List ℕ) → is_image bytes ≡ true → Parts bytes
unfolding is_image
parts bytes h =
    let p = (and-eq-true_iff (eqb (length bytes) 261) _).0 h in
    record { long = eqb-true _ 261 p.0; version = eqb-true _ 1 p.1 }

pub ring_long : (bytes : List ℕ) → is_image bytes ≡ true → length (queue_in bytes).words ≡ 128
unfolding queue_in
ring_long bytes h = words_length 128 (drop 5 bytes) (omega (arith, length-drop 5 bytes, (parts bytes h).long))

-- Each is a byte.
pub bytes_back : (bytes : List ℕ) → is_image bytes ≡ true → ((i : ℕ) → get_or bytes i 0 < 256) → saved (queue_in bytes) ≡ bytes
unfolding saved queue_in bytes_of
bytes_back bytes h o = go bytes (parts bytes h) o
  where
    go : (bytes : List ℕ) → Parts bytes → ((i : ℕ) → get_or bytes i 0 < 256) → saved (queue_in bytes) ≡ bytes
    go [] p o = absurd (omega (arith, p.long))
    go (v ∷ []) p o = absurd (omega (arith, p.long))
    go (v ∷ (a ∷ [])) p o = absurd (omega (arith, p.long))
    go (v ∷ (a ∷ (b ∷ []))) p o = absurd (omega (arith, p.long))
    go (v ∷ (a ∷ (b ∷ (c ∷ [])))) p o = absurd (omega (arith, p.long))
    go (v ∷ (a ∷ (b ∷ (c ∷ (d ∷ rest))))) p o =
        rw (high_back a b (o 2), low_back a b (o 2), high_back c d (o 4), low_back c d (o 4))
        (rw (written_again 128 rest (omega (arith, p.long)) (λ i. o (suc (suc (suc (suc (suc i))))))) (ap (λ (n : ℕ). n ∷ a ∷ b ∷ c ∷ d ∷ rest) (sym p.version)))

-- ---- the contracts determine their answers

pub save_determined :
    (κs : _) (q : Queue) (image left left' : MutBor (List ℕ)) → save_reads.Post κs (q, (image, tt)) tt (q, (left, tt)) → save_reads.Post κs (q, (image, tt)) tt (q, (left', tt))
    → left.now ≡ left'.now
save_determined κs q image left left' p p' = p ∙ sym p'

pub save_put_determined :
    (κs : _) (q : Queue) (w : ℕ) (image left left' : MutBor (List ℕ))
    → save_put_reads.Post κs (q, (w, (image, tt))) tt (q, (w, (left, tt))) → save_put_reads.Post κs (q, (w, (image, tt))) tt (q, (w, (left', tt)))
    → left.now ≡ left'.now
save_put_determined κs q w image left left' p p' = p ∙ sym p'

pub save_take_determined :
    (κs : _) (q : Queue) (image left left' : MutBor (List ℕ))
    → save_take_reads.Post κs (q, (image, tt)) tt (q, (left, tt)) → save_take_reads.Post κs (q, (image, tt)) tt (q, (left', tt))
    → left.now ≡ left'.now
save_take_determined κs q image left left' p p' = p ∙ sym p'

pub is_image_determined : (κs : _) (image : Bor (List ℕ)) (r r' : Bool) → is_image_reads.Post κs (image, tt) r (image, tt) → is_image_reads.Post κs (image, tt) r' (image, tt) → r ≡ r'
is_image_determined κs image r r' p p' = p ∙ sym p'

pub queue_of_determined : (κs : _) (image : Bor (List ℕ)) (r r' : Option Queue) → queue_of_reads.Post κs (image, tt) r (image, tt) → queue_of_reads.Post κs (image, tt) r' (image, tt) → r ≡ r'
queue_of_determined κs image r r' p p' = p ∙ sym p'

pub load_determined : (κs : _) (image : Bor (List ℕ)) (r r' : Queue) → load_reads.Post κs (image, tt) r (image, tt) → load_reads.Post κs (image, tt) r' (image, tt) → r ≡ r'
load_determined κs image r r' p p' = p ∙ sym p'

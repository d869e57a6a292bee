-- Words as bytes: the high byte is first, by the beginning of the paper's trace, and what is written is read again, in both directions. Assumes
-- nothing.
use Prim.Native.Nat.{ℕ, zero, suc, ◌*◌, ◌/◌, ◌%◌, ◌<◌}
use native.Mathlib.Omega.{arith}
use mathlib.Core.Path.{◌≡◌, refl, sym, ap, ◌∙◌}
use mathlib.Core.List.{List, [], ◌∷◌, ◌++◌}
use lib.ListN.{length, get_or, set, take, drop}
use Rattle.pairs.specs.Pairs.{wide, words_in, lone_in, bytes_of}
use Rattle.pairs.proofs.wide.Reads as wide_reads
use Rattle.pairs.proofs.two_bytes.Reads as two_bytes_reads

pub record HighFirst : Type 0 where
  pub read : words_in (0xC0 ∷ 0xBF ∷ 0x40 ∷ 0x90 ∷ 0x60 ∷ []) ≡ 0xC0BF ∷ 0x4090 ∷ []
  pub lone : lone_in (0xC0 ∷ 0xBF ∷ 0x40 ∷ 0x90 ∷ 0x60 ∷ []) ≡ 0x60 ∷ []
  pub written : bytes_of (0xC0BF ∷ 0x4090 ∷ []) ≡ 0xC0 ∷ 0xBF ∷ 0x40 ∷ 0x90 ∷ []

pub high_first : HighFirst
unfolding words_in lone_in bytes_of
high_first = record { read = refl; lone = refl; written = refl }

-- ---- one word

pub word_back : (w : ℕ) → wide (w / 256) (w % 256) ≡ w
word_back w = omega arith

-- The low one is a byte.
pub high_back : (high low : ℕ) → low < 256 → wide high low / 256 ≡ high
high_back high low l = omega (arith, l)

pub low_back : (high low : ℕ) → low < 256 → wide high low % 256 ≡ low
low_back high low l = omega (arith, l)

-- ---- many

pub read_again : (ws : List ℕ) → words_in (bytes_of ws) ≡ ws
unfolding words_in bytes_of
read_again [] = refl
read_again (w ∷ ws) = rw (word_back w, read_again ws) refl

-- Two bytes to a word.
pub bytes_length : (ws : List ℕ) → length (bytes_of ws) ≡ length ws * 2
unfolding bytes_of
bytes_length [] = refl
bytes_length (w ∷ ws) = omega (arith, bytes_length ws)

pub bytes_append : (vs ws : List ℕ) → bytes_of (vs ++ ws) ≡ bytes_of vs ++ bytes_of ws
unfolding bytes_of
bytes_append [] ws = refl
bytes_append (v ∷ vs) ws = ap (λ bs. v / 256 ∷ v % 256 ∷ bs) (bytes_append vs ws)

-- One word in the place of another.
pub bytes_set :
    (ws : List ℕ) (n w : ℕ) → n < length ws → take (2 * n) (bytes_of ws) ++ (bytes_of (w ∷ []) ++ drop 2 (drop (2 * n) (bytes_of ws))) ≡ bytes_of (set ws n w)
unfolding bytes_of
bytes_set [] n w l = absurd (omega (arith, l))
bytes_set (v ∷ vs) zero w l = refl
bytes_set (v ∷ vs) (suc n) w l =
    let twice : 2 * suc n ≡ suc (suc (2 * n)) = omega arith in
    rw twice (ap (λ bs. v / 256 ∷ v % 256 ∷ bs) (bytes_set vs n w (omega (arith, l))))

-- ---- of an even number of bytes

pub words_length : (n : ℕ) (bs : List ℕ) → length bs ≡ n * 2 → length (words_in bs) ≡ n
unfolding words_in
words_length zero [] l = refl
words_length zero (b ∷ bs) l = absurd (omega (arith, l))
words_length (suc n) [] l = absurd (omega (arith, l))
words_length (suc n) (b ∷ []) l = absurd (omega (arith, l))
words_length (suc n) (high ∷ (low ∷ rest)) l = ap suc (words_length n rest (omega (arith, l)))

pub words_append : (n : ℕ) (bs cs : List ℕ) → length bs ≡ n * 2 → words_in (bs ++ cs) ≡ words_in bs ++ words_in cs
unfolding words_in
words_append zero [] cs l = refl
words_append zero (b ∷ bs) cs l = absurd (omega (arith, l))
words_append (suc n) [] cs l = absurd (omega (arith, l))
words_append (suc n) (b ∷ []) cs l = absurd (omega (arith, l))
words_append (suc n) (high ∷ (low ∷ rest)) cs l = ap (λ ws. wide high low ∷ ws) (words_append n rest cs (omega (arith, l)))

pub written_again : (n : ℕ) (bs : List ℕ) → length bs ≡ n * 2 → ((i : ℕ) → get_or bs i 0 < 256) → bytes_of (words_in bs) ≡ bs
unfolding words_in bytes_of
written_again zero [] l o = refl
written_again zero (b ∷ bs) l o = absurd (omega (arith, l))
written_again (suc n) [] l o = absurd (omega (arith, l))
written_again (suc n) (b ∷ []) l o = absurd (omega (arith, l))
written_again (suc n) (high ∷ (low ∷ rest)) l o =
    rw (high_back high low (o 1), low_back high low (o 1))
    (ap (λ bs. high ∷ low ∷ bs) (written_again n rest (omega (arith, l)) (λ i. o (suc (suc i)))))

pub wide_determined : (high low r r' : ℕ) → wide_reads.Post tt (high, (low, tt)) r (high, (low, tt)) → wide_reads.Post tt (high, (low, tt)) r' (high, (low, tt)) → r ≡ r'
wide_determined high low r r' p q = p ∙ sym q

pub two_bytes_determined : (n : ℕ) (r r' : List ℕ) → two_bytes_reads.Post tt (n, tt) r (n, tt) → two_bytes_reads.Post tt (n, tt) r' (n, tt) → r ≡ r'
two_bytes_determined n r r' p q = p ∙ sym q

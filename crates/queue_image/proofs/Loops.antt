-- The two loops over words: after i of them their bytes stand at the start of what is written, or they stand there themselves, and the rest is
-- as it came. Assumes nothing.
use Prim.Native.Nat.{ℕ, suc, ◌+◌, ◌*◌, ◌/◌, ◌%◌, ◌<◌, ◌≤◌}
use native.Mathlib.Omega.{arith}
use native.Mathlib.Numerals.{add-one}
use mathlib.Core.Path.{◌≡◌, refl, ap, sym, ◌∙◌}
use mathlib.Core.List.{List, [], ◌∷◌, ◌++◌, append_assoc, append-nil}
use lib.ListN.{length, get_or, set, take, drop, length-append, length-drop, drop_of_length-le}
use lib.Seq.{take-suc, drop-cons, take_all, length-take-le, set_at, append_snoc}
use Rattle.pairs.specs.Pairs.{wide, words_in, bytes_of}
use Rattle.pairs.proofs.Pairs.{bytes_length, bytes_append, words_length, words_append}

-- ---- two steps along a list

two_left : (l : List ℕ) (at : ℕ) → at + 1 < length l → drop at l ≡ get_or l at 0 ∷ get_or l (at + 1) 0 ∷ drop (at + 2) l
two_left l at b =
    let next : suc at ≡ at + 1 = omega arith in
    let last : suc (at + 1) ≡ at + 2 = omega arith in
    drop-cons l at 0 (omega (arith, b)) ∙ rw next (ap (λ r. get_or l at 0 ∷ r) (drop-cons l (at + 1) 0 b ∙ rw last refl))

two_more : (l : List ℕ) (at : ℕ) → at + 1 < length l → take (at + 2) l ≡ take at l ++ (get_or l at 0 ∷ get_or l (at + 1) 0 ∷ [])
two_more l at b =
    let last : at + 2 ≡ suc (at + 1) = omega arith in
    let first : take (at + 1) l ≡ take at l ++ (get_or l at 0 ∷ []) = rw add-one (take-suc l at 0 (omega (arith, b))) in
    rw last (take-suc l (at + 1) 0 b ∙ rw first (append_assoc (take at l) (get_or l at 0 ∷ []) (get_or l (at + 1) 0 ∷ [])))

-- Two stores behind a part.
two_stores : (p r : List ℕ) (x y a c at : ℕ) → length p ≡ at → set (set (p ++ x ∷ y ∷ r) at a) (at + 1) c ≡ p ++ a ∷ c ∷ r
two_stores p r x y a c at e =
    let one : length (p ++ (a ∷ [])) ≡ at + 1 = length-append p (a ∷ []) ∙ rw e refl in
    rw (set_at p x (y ∷ r) a at e, ← append_snoc p a (y ∷ r), ← append_snoc p a (c ∷ r)) (set_at (p ++ (a ∷ [])) y r c (at + 1) one)

-- ---- writing

pub record Written (ws b₀ : List ℕ) (i : ℕ) (b : List ℕ) : Type 0 where
  pub within : i ≤ length ws
  pub bytes : b ≡ bytes_of (take i ws) ++ drop (2 * i) b₀

pub none_written : (ws b₀ : List ℕ) → Written ws b₀ 0 b₀
unfolding bytes_of
none_written ws b₀ = record { within = omega arith; bytes = refl }

module _ (ws b₀ : List ℕ) (i : ℕ) (b : List ℕ) (h : Written ws b₀ i b) (room : length b₀ ≡ length ws * 2) where
  behind : length (bytes_of (take i ws)) ≡ 2 * i
  behind = bytes_length (take i ws) ∙ rw (length-take-le i ws h.within) (omega arith)

  pub bytes_kept : length b ≡ length b₀
  bytes_kept =
      ap length h.bytes ∙ length-append (bytes_of (take i ws)) (drop (2 * i) b₀)
      ∙ omega (arith, behind, length-drop (2 * i) b₀, h.within, room)

  pub written_more : i < length ws → Written ws b₀ (i + 1) (set (set b (2 * i) (get_or ws i 0 / 256)) (2 * i + 1) (get_or ws i 0 % 256))
  unfolding bytes_of
  written_more l =
      let w = get_or ws i 0 in
      let next : take (i + 1) ws ≡ take i ws ++ (w ∷ []) = rw add-one (take-suc ws i 0 l) in
      let twice : 2 * (i + 1) ≡ 2 * i + 2 = omega arith in
      record {
        within = omega (arith, l);
        bytes =
            rw (h.bytes, two_left b₀ (2 * i) (omega (arith, l, room)), twice, next, bytes_append (take i ws) (w ∷ []))
            (two_stores (bytes_of (take i ws)) (drop (2 * i + 2) b₀) _ _ (w / 256) (w % 256) (2 * i) behind
            ∙ sym (append_assoc (bytes_of (take i ws)) (w / 256 ∷ w % 256 ∷ []) (drop (2 * i + 2) b₀)));
      }

  pub all_written : length ws ≤ i → b ≡ bytes_of ws
  all_written l =
      let rest : drop (2 * i) b₀ ≡ [] = drop_of_length-le b₀ {i = 2 * i} (omega (arith, l, room)) in
      h.bytes ∙ rw (rest, take_all i ws l) (append-nil (bytes_of ws))

-- .. at the place that is next.
pub record Writing (ws b₀ : List ℕ) (i at : ℕ) (b : List ℕ) : Type 0 where
  pub even : at ≡ 2 * i
  pub written : Written ws b₀ i b

pub none_begun : (ws b₀ : List ℕ) → Writing ws b₀ 0 0 b₀
none_begun ws b₀ = record { even = refl; written = none_written ws b₀ }

pub writing_more :
    (ws b₀ : List ℕ) (i at : ℕ) (b : List ℕ) → Writing ws b₀ i at b → length b₀ ≡ length ws * 2 → i < length ws
    → Writing ws b₀ (i + 1) (at + 2) (set (set b at (get_or ws i 0 / 256)) (at + 1) (get_or ws i 0 % 256))
writing_more ws b₀ i at b h room l =
    record { even = omega (arith, h.even); written = rw h.even (written_more ws b₀ i b h.written room l) }

-- ---- reading

pub record Read (bs w₀ : List ℕ) (i : ℕ) (ws : List ℕ) : Type 0 where
  pub within : i ≤ length w₀
  pub words : ws ≡ words_in (take (2 * i) bs) ++ drop i w₀

pub none_read : (bs w₀ : List ℕ) → Read bs w₀ 0 w₀
unfolding words_in
none_read bs w₀ = record { within = omega arith; words = refl }

module _ (bs w₀ : List ℕ) (i : ℕ) (ws : List ℕ) (h : Read bs w₀ i ws) (room : length bs ≡ length w₀ * 2) where
  passed : length (take (2 * i) bs) ≡ i * 2
  passed = length-take-le (2 * i) bs (omega (arith, room, h.within)) ∙ omega arith

  pub words_kept : length ws ≡ length w₀
  words_kept =
      ap length h.words ∙ length-append (words_in (take (2 * i) bs)) (drop i w₀)
      ∙ omega (arith, words_length i (take (2 * i) bs) passed, length-drop i w₀, h.within)

  pub read_more : i < length w₀ → Read bs w₀ (i + 1) (set ws i (wide (get_or bs (2 * i) 0) (get_or bs (2 * i + 1) 0)))
  unfolding words_in
  read_more l =
      let w = wide (get_or bs (2 * i) 0) (get_or bs (2 * i + 1) 0) in
      let left : drop i w₀ ≡ get_or w₀ i 0 ∷ drop (i + 1) w₀ = drop-cons w₀ i 0 l ∙ rw add-one refl in
      let twice : 2 * (i + 1) ≡ 2 * i + 2 = omega arith in
      record {
        within = omega (arith, l);
        words =
            rw (h.words, left, twice, two_more bs (2 * i) (omega (arith, l, room)), words_append i (take (2 * i) bs) (get_or bs (2 * i) 0 ∷ get_or bs (2 * i + 1) 0 ∷ []) passed)
            (set_at (words_in (take (2 * i) bs)) (get_or w₀ i 0) (drop (i + 1) w₀) w i (words_length i (take (2 * i) bs) passed)
            ∙ sym (append_assoc (words_in (take (2 * i) bs)) (w ∷ []) (drop (i + 1) w₀)));
      }

  pub all_read : length w₀ ≤ i → ws ≡ words_in bs
  all_read l =
      let rest : drop i w₀ ≡ [] = drop_of_length-le w₀ {i = i} l in
      h.words ∙ rw (rest, take_all (2 * i) bs (omega (arith, l, room))) (append-nil (words_in bs))

-- Lists passed from the front, place by place: which digits the bytes passed make, and which bytes the digits passed.
-- Assumes nothing.
use Prim.Native.Nat.{ℕ, suc, ◌+◌, ◌*◌, ◌/◌, ◌<◌, ◌≤◌}
use native.Mathlib.Omega.{arith}
use native.Mathlib.Numerals.{add-one}
use mathlib.Core.Bool.{true}
use mathlib.Core.Path.{◌≡◌, ap, ◌∙◌, sym}
use mathlib.Core.List.{List, [], ◌∷◌, ◌++◌, append_assoc, append-nil}
use lib.ListN.{length, get_or, drop, take, set, length-set, drop_of_length-le}
use lib.Seq.{drop-cons, take_all, take-suc-set}
use Rattle.std.specs.Option.{is_some}
use Rattle.std.proofs.lemmas.List.Sums.{prefix_len_passes}
use Rattle.hexes.specs.Digit.{digit_for}
use Rattle.image.specs.Layout.{BYTES}
use Rattle.script.specs.Arguments.{digit_of}
use Rattle.paste.specs.Digits.{hex_of, leading_digits, octet_at, bytes_of}

-- The rest of a list at a place.
here : (t : List ℕ) (i : ℕ) → i < length t → drop i t ≡ get_or t i 0 ∷ drop (i + 1) t
here t i l = rw add-one (drop-cons t i 0 l)

-- ---- bytes written as digits

abbrev pub Written : List ℕ → List ℕ → ℕ → Type 0
Written bytes t i = (i ≤ BYTES) × (length t ≡ 2 * BYTES) × (hex_of bytes ≡ take (2 * i) t ++ hex_of (drop i bytes))

-- The text with the digits of byte i at their places.
abbrev high : List ℕ → ℕ → ℕ
high bytes i = digit_for (get_or bytes i 0 / 16)

abbrev low : List ℕ → ℕ → ℕ
low bytes i = digit_for (get_or bytes i 0)

abbrev with_byte : List ℕ → List ℕ → ℕ → List ℕ
with_byte bytes t i = set (set t (2 * i) (high bytes i)) (2 * i + 1) (low bytes i)

module _ (bytes t : List ℕ) (i : ℕ) (h : Written bytes t i) (size : length bytes ≡ BYTES) where
  pub written_on : i < BYTES → Written bytes (with_byte bytes t i) (i + 1)
  unfolding hex_of
  written_on l = (omega arith, kept ∙ h.1, h.2 ∙ sym more)
    where
      kept : length (with_byte bytes t i) ≡ length t
      kept = length-set (set t (2 * i) (high bytes i)) (2 * i + 1) (low bytes i) ∙ length-set t (2 * i) (high bytes i)

      next : 2 * (i + 1) ≡ suc (2 * i + 1)
      next = omega arith

      two : take (2 * (i + 1)) (with_byte bytes t i) ≡ take (2 * i) t ++ (high bytes i ∷ low bytes i ∷ [])
      two =
          rw (
            next,
            take-suc-set (set t (2 * i) (high bytes i)) (2 * i + 1) (low bytes i) (omega (arith, length-set t (2 * i) (high bytes i), h.1)),
            add-one (2 * i),
            take-suc-set t (2 * i) (high bytes i) (omega (arith, h.1)),
            append_assoc,
          )

      more : take (2 * (i + 1)) (with_byte bytes t i) ++ hex_of (drop (i + 1) bytes) ≡ take (2 * i) t ++ hex_of (drop i bytes)
      more = rw (two, here bytes i (omega arith), append_assoc)

  pub written_end : BYTES ≤ i → t ≡ hex_of bytes
  unfolding hex_of
  written_end l = sym (h.2 ∙ rw (take_all (2 * i) t (omega (arith, h.1)), drop_of_length-le bytes {i = i} (omega arith)) (append-nil t))

-- ---- digits in front

-- Where all characters are digits, each is.
pub each_digit : (t : List ℕ) (i : ℕ) → leading_digits t ≡ length t → i < length t → is_some (digit_of (get_or t i 0)) ≡ true
each_digit t i all l = prefix_len_passes (λ c. is_some (digit_of c)) t i 0 (omega arith)

-- ---- bytes of the digits passed

abbrev pub Paired : List ℕ → List ℕ → ℕ → Type 0
Paired t bytes i = (i ≤ BYTES) × (length bytes ≡ BYTES) × (bytes_of t ≡ take i bytes ++ bytes_of (drop (2 * i) t))

module _ (t bytes : List ℕ) (i : ℕ) (h : Paired t bytes i) (size : length t ≡ 2 * BYTES) where
  pub paired_on : i < BYTES → Paired t (set bytes i (octet_at t i)) (i + 1)
  unfolding bytes_of
  paired_on l = (omega arith, length-set bytes i (octet_at t i) ∙ h.1, h.2 ∙ sym more)
    where
      next : 2 * (i + 1) ≡ 2 * i + 1 + 1
      next = omega arith

      two : drop (2 * i) t ≡ get_or t (2 * i) 0 ∷ get_or t (2 * i + 1) 0 ∷ drop (2 * i + 1 + 1) t
      two = here t (2 * i) (omega arith) ∙ ap (λ r. get_or t (2 * i) 0 ∷ r) (here t (2 * i + 1) (omega arith))

      more : take (i + 1) (set bytes i (octet_at t i)) ++ bytes_of (drop (2 * (i + 1)) t) ≡ take i bytes ++ bytes_of (drop (2 * i) t)
      more = rw (next, two, add-one i, take-suc-set bytes i (octet_at t i) (omega (arith, h.1)), append_assoc)

  pub paired_end : BYTES ≤ i → bytes ≡ bytes_of t
  unfolding bytes_of
  paired_end l = sym (h.2 ∙ rw (take_all i bytes (omega (arith, h.1)), drop_of_length-le t {i = 2 * i} (omega (arith, h.0))) (append-nil bytes))

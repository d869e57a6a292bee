-- A count, digit by digit: what n and the rest of the text count is what the whole text does. Assumes nothing.
use Rattle.std.proofs.Common.{ℕ, ◌≡◌, ◌+◌, ◌<◌, ◌≤◌, List, ◌∷◌, length, get_or, drop, Some, None, ◌∙◌, add-one, drop-cons}
use lib.ListN.{drop_of_length-le}
use Rattle.script.specs.Arguments.{digit_of, count_on, count_of, count_from}

module _ (t : List ℕ) (n i : ℕ) (h : count_of t ≡ count_from n (drop i t)) where
  here : i < length t → drop i t ≡ get_or t i 0 ∷ drop (i + 1) t
  here l = rw add-one (drop-cons t i 0 l)

  pub counts_stop : i < length t → count_on n (digit_of (get_or t i 0)) ≡ None → count_of t ≡ None
  unfolding count_from
  counts_stop l e = h ∙ rw (here l, e)

  pub counts_on : (m : ℕ) → i < length t → count_on n (digit_of (get_or t i 0)) ≡ Some m → count_of t ≡ count_from m (drop (i + 1) t)
  unfolding count_from
  counts_on m l e = h ∙ rw (here l, e)

  pub counts_end : length t ≤ i → count_of t ≡ Some n
  unfolding count_from
  counts_end l = h ∙ rw (drop_of_length-le t l)

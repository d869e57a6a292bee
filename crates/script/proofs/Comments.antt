-- Where the comment of a line begins, as the search of the line's bytes answers it. Assumes nothing.
use Rattle.std.proofs.Common.{ℕ, ◌≡◌, Bool, true, false, cond, List, length, take, Option, Some, None, refl, sym, ap}
use lib.Dec.{ltb}
use Rattle.std.proofs.lemmas.List.{take_all}
use borrow.Author.Tests.{ltb-false}
use Rattle.script.specs.Text.{index_of}
use Rattle.script.specs.Lines.{plain}

-- What the search answers.
abbrev pub Answered : Option ℕ → List ℕ → Type 0
Answered r l = r ≡ cond (ltb (index_of 35 l) (length l)) (Some (index_of 35 l)) None

pub plain_before : (l : List ℕ) (n : ℕ) → Answered (Some n) l → take n l ≡ plain l
unfolding plain
plain_before l n h = go (ltb (index_of 35 l) (length l)) h
  where
    go : (b : Bool) → Some n ≡ cond b (Some (index_of 35 l)) None → take n l ≡ take (index_of 35 l) l
    go true e = ap (λ k. take k l) cc
    go false e = cc

pub plain_whole : (l : List ℕ) → Answered None l → l ≡ plain l
unfolding plain
plain_whole l h = go (ltb (index_of 35 l) (length l)) refl h
  where
    go : (b : Bool) → ltb (index_of 35 l) (length l) ≡ b → None ≡ cond b (Some (index_of 35 l)) None → l ≡ take (index_of 35 l) l
    go true t e = cc
    go false t e = sym (take_all (index_of 35 l) l (ltb-false (index_of 35 l) (length l) t))

-- Places that are nobody's, behind those of the records, change no verdict: such a place is fit, is not started, and so neither clashes nor
-- hears nor has an address. By induction over the records and the places. Assumes nothing.
use Prim.Native.Nat.{ℕ, zero, suc}
use mathlib.Core.Path.{◌≡◌, refl, ap}
use mathlib.Core.Bool.{Bool, false, not, ◌||◌, and-false}
use mathlib.Core.List.{List, [], ◌∷◌, ◌++◌}
use lib.ListN.{get_or, replicate}
use Rattle.event.specs.Words.{unpacked}
use Rattle.event.specs.declared.Event.{Event}
use Rattle.event.specs.declared.Event.TheVariants.{Start, Stop, Byte, Take, Pins, Tick, Reset, Timeout}
use Rattle.bus.specs.Progress.{own_write_byte}
use Rattle.dock.specs.declared.Standing.{Standing}
use Rattle.chassis.specs.Judge.{some, clash, faulty, nobody, started, unheard, neighbours, has, address_taken, by_word, judged}
use Rattle.std.specs.Prelude.{Result, Ok, Err}
use Rattle.event.specs.declared.NoEvent.{NoEvent}

-- So many places of nobody's behind some standings.
abbrev pub followed : List Standing → ℕ → List Standing
followed ss k = ss ++ replicate k nobody

-- Where there are no records there is no neighbour.
pub no_neighbour : (p : Standing → Bool) (n : ℕ) → some p (neighbours n []) ≡ false
no_neighbour p zero = refl
no_neighbour p (suc n) = refl

module _ (p : Standing → Bool) (no : p nobody ≡ false) where
  some_followed : (ss : List Standing) (k : ℕ) → some p (followed ss k) ≡ some p ss
  some_followed [] zero = refl
  some_followed [] (suc k) = rw (no) (some_followed [] k)
  some_followed (s ∷ ss) k = ap (λ (t : Bool). p s || t) (some_followed ss k)

  neighbours_followed : (n : ℕ) (ss : List Standing) (k : ℕ) → some p (neighbours n (followed ss k)) ≡ some p (neighbours n ss)
  neighbours_followed n [] zero = refl
  neighbours_followed zero [] (suc k) = some_followed [] k
  neighbours_followed (suc n) [] (suc k) = rw (no, neighbours_followed n [] k) (no_neighbour p n)
  neighbours_followed zero (s ∷ ss) k = some_followed ss k
  neighbours_followed (suc n) (s ∷ ss) k = ap (λ (t : Bool). p s || t) (neighbours_followed n ss k)

faulty_followed : (ss : List Standing) (k : ℕ) → faulty (followed ss k) ≡ faulty ss
unfolding faulty
faulty_followed [] zero = refl
faulty_followed [] (suc k) = rw (some_followed (clash nobody) refl [] k) (faulty_followed [] k)
faulty_followed (s ∷ ss) k = rw (some_followed (clash s) (and-false s.started) ss k, faulty_followed ss k)

at_followed : (ss : List Standing) (n k : ℕ) → get_or (followed ss k) n nobody ≡ get_or ss n nobody
at_followed [] n zero = refl
at_followed [] zero (suc k) = refl
at_followed [] (suc n) (suc k) = at_followed [] n k
at_followed (s ∷ ss) zero k = refl
at_followed (s ∷ ss) (suc n) k = at_followed ss n k

unheard_followed : (e : Event) (n : ℕ) (ss : List Standing) (k : ℕ) → unheard e n (followed ss k) ≡ unheard e n ss
unheard_followed Start n ss k = ap not (some_followed started refl ss k)
unheard_followed Stop n ss k = ap not (some_followed started refl ss k)
unheard_followed (Byte b) n ss k = ap not (some_followed started refl ss k)
unheard_followed (Take ack) n ss k = ap not (some_followed started refl ss k)
unheard_followed (Pins levels) n ss k = ap (λ (s : Standing). not s.started) (at_followed ss n k)
unheard_followed Tick n ss k = ap not (some_followed started refl ss k)
unheard_followed (Reset straps levels short) n ss k = refl
unheard_followed Timeout n ss k = ap not (some_followed started refl ss k)

taken_followed : (e : Event) (n : ℕ) (ss : List Standing) (k : ℕ) → address_taken e n (followed ss k) ≡ address_taken e n ss
taken_followed Start n ss k = refl
taken_followed Stop n ss k = refl
taken_followed (Byte b) n ss k = refl
taken_followed (Take ack) n ss k = refl
taken_followed (Pins levels) n ss k = refl
taken_followed Tick n ss k = refl
taken_followed (Reset straps levels short) n ss k = neighbours_followed (has (own_write_byte straps)) refl n ss k
taken_followed Timeout n ss k = refl

by_word_followed : (records : ℕ) (ss : List Standing) (k n : ℕ) (u : Result Event NoEvent) → by_word records (followed ss k) n u ≡ by_word records ss n u
unfolding by_word
by_word_followed records ss k n (Err why) = refl
by_word_followed records ss k n (Ok e) = rw (unheard_followed e n ss k, taken_followed e n ss k)

pub judged_followed : (records : ℕ) (ss : List Standing) (k n w : ℕ) → judged records (followed ss k) n w ≡ judged records ss n w
unfolding judged
judged_followed records ss k n w = rw (faulty_followed ss k, by_word_followed records ss k n (unpacked w))

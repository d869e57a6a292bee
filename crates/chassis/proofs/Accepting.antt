-- What an accepted call has passed: the six tests of specs/Judge.antt. By cases on them. Assumes nothing.
use Prim.Native.Nat.{ℕ, ◌≤◌}
use native.Mathlib.Omega.{arith}
use mathlib.Core.Path.{◌≡◌, refl, sym, ◌∙◌}
use mathlib.Core.Bool.{Bool, true, false, cond}
use mathlib.Core.List.{List}
use lib.Dec.{eqb, ltb}
use lib.ListN.{length}
use borrow.Author.Tests.{ltb-false}
use Rattle.event.specs.Words.{unpacked}
use Rattle.event.specs.declared.Event.{Event}
use Rattle.bay.proofs.Taut.{neither}
use Rattle.dock.specs.declared.Controller.{Controller}
use Rattle.chassis.specs.declared.Refusal.TheVariants.{WrongLength, Unfit, StrayBit, Absent, NotStarted, AddressTaken}
use Rattle.chassis.specs.Judge.{wrong_length, faulty, absent, unheard, address_taken, by_word, judged, standings, verdict_of}
use Rattle.chassis.specs.Numbers.{answer_refusal}
use Rattle.chassis.specs.Chassis.{told_by, told_of}
use Rattle.std.specs.Prelude.{Result, Ok, Err}
use Rattle.event.specs.declared.NoEvent.{NoEvent}
use Rattle.chassis.specs.declared.Refusal.{Refusal}

pub record Accepts (cs : List Controller) (n w : ℕ) (e : Event) : Type 0 where
  pub length_fits : wrong_length (length cs) ≡ false
  pub usable : faulty (standings cs) ≡ false
  pub is : unpacked w ≡ Ok e
  pub there : absent e n (length cs) ≡ false
  pub heard : unheard e n (standings cs) ≡ false
  pub free : address_taken e n (standings cs) ≡ false

pub accepts : (cs : List Controller) (n w : ℕ) (e : Event) → verdict_of cs n w ≡ Ok e → Accepts cs n w e
unfolding judged by_word
accepts cs n w e v = lists (wrong_length (length cs)) refl (faulty (standings cs)) refl v
  where
    events :
        wrong_length (length cs) ≡ false → faulty (standings cs) ≡ false → (x : Event) → unpacked w ≡ Ok x → (a : Bool) → absent x n (length cs) ≡ a
        → (u : Bool) → unheard x n (standings cs) ≡ u → (t : Bool) → address_taken x n (standings cs) ≡ t
        → cond a (Err Absent) (cond u (Err NotStarted) (cond t (Err AddressTaken) (Ok x))) ≡ Ok e → Accepts cs n w e
    events l f x is true a u p t q v = let z : ◌≡◌ {A = ℕ} 0 1 = cc in absurd (omega arith)
    events l f x is false a true p t q v = let z : ◌≡◌ {A = ℕ} 0 1 = cc in absurd (omega arith)
    events l f x is false a false p true q v = let z : ◌≡◌ {A = ℕ} 0 1 = cc in absurd (omega arith)
    events l f x is false a false p false q v =
        let same : x ≡ e = cc in
        let all : Accepts cs n w x = record { length_fits = l; usable = f; is = is; there = a; heard = p; free = q } in
        rw same at all

    words :
        wrong_length (length cs) ≡ false → faulty (standings cs) ≡ false → (x : Result Event NoEvent) → unpacked w ≡ x → by_word (length cs) (standings cs) n x ≡ Ok e
        → Accepts cs n w e
    words l f (Err why) is v = let z : ◌≡◌ {A = ℕ} 0 1 = cc in absurd (omega arith)
    words l f (Ok x) is v = events l f x is (absent x n (length cs)) refl (unheard x n (standings cs)) refl (address_taken x n (standings cs)) refl v

    lists :
        (a : Bool) → wrong_length (length cs) ≡ a → (f : Bool) → faulty (standings cs) ≡ f
        → cond a (Err WrongLength) (cond f (Err Unfit) (by_word (length cs) (standings cs) n (unpacked w))) ≡ Ok e → Accepts cs n w e
    lists true a f p v = let z : ◌≡◌ {A = ℕ} 0 1 = cc in absurd (omega arith)
    lists false a true p v = let z : ◌≡◌ {A = ℕ} 0 1 = cc in absurd (omega arith)
    lists false a false p v = words a p (unpacked w) refl v

pub at_most_four : (n : ℕ) → wrong_length n ≡ false → n ≤ 4
at_most_four n f = ltb-false 4 n (neither (eqb n 0) (ltb 4 n) f).1

-- A word that is an event and isn't refused is sent.
pub sent :
    (cs : List Controller) (n w : ℕ) (e : Event) → unpacked w ≡ Ok e → answer_refusal (told_of cs n w).answer ≡ 0 → verdict_of cs n w ≡ Ok e
unfolding told_by
sent cs n w e u r = go (verdict_of cs n w) refl r
  where
    go : (v : Result Event Refusal) → verdict_of cs n w ≡ v → answer_refusal (told_by v n w cs).answer ≡ 0 → v ≡ Ok e
    go (Ok x) p q = let same : Ok x ≡ Ok e = sym (accepts cs n w x p).is ∙ u in cc
    go (Err WrongLength) p q = absurd (omega (arith, q))
    go (Err Unfit) p q = absurd (omega (arith, q))
    go (Err StrayBit) p q = absurd (omega (arith, q))
    go (Err Absent) p q = absurd (omega (arith, q))
    go (Err NotStarted) p q = absurd (omega (arith, q))
    go (Err AddressTaken) p q = absurd (omega (arith, q))

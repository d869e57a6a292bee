-- The numbers of the refusals, written out, and that the contracts determine their answers. Assumes nothing.
use Prim.Native.Nat.{ℕ}
use native.Mathlib.Omega.{arith}
use mathlib.Core.Path.{◌≡◌, refl, sym, ◌∙◌}
use mathlib.Core.Logic.{◌≢◌}
use mathlib.Core.List.{[], ◌∷◌, map}
use Rattle.std.specs.Prelude.{Result, Err}
use Rattle.calls.specs.Numbers.{number_of, outcome_refusal}
use Rattle.calls.specs.declared.Refusal.{Refusal}
use Rattle.calls.specs.declared.Refusal.TheVariants.{Unfit, TooFewPlaces, TooMany}
use Rattle.calls.proofs.Refusal.number.Reads as number_reads
use Rattle.calls.proofs.number.Reads as refusal_reads
use Rattle.calls.proofs.count.Reads as count_reads

-- ---- what is held, the places, the length of the list

pub numbers : map number_of (Unfit ∷ TooFewPlaces ∷ TooMany ∷ []) ≡ 1 ∷ 4 ∷ 5 ∷ []
numbers = refl

-- Each refusal has a number, and a call that isn't refused has 0.
pub refused_not_0 : (r : Refusal) → outcome_refusal (Err r) ≢ 0
refused_not_0 Unfit e = omega (arith, e)
refused_not_0 TooFewPlaces e = omega (arith, e)
refused_not_0 TooMany e = omega (arith, e)

-- ---- the contracts determine their answers

pub number_determined : (o : Refusal) (r r' : ℕ) → number_reads.Post tt (o, tt) r (o, tt) → number_reads.Post tt (o, tt) r' (o, tt) → r ≡ r'
number_determined o r r' p q = p ∙ sym q

pub refusal_determined :
    (o : Result ℕ Refusal) (r r' : ℕ) → refusal_reads.Post tt (o, tt) r (o, tt) → refusal_reads.Post tt (o, tt) r' (o, tt) → r ≡ r'
refusal_determined o r r' p q = p ∙ sym q

pub count_determined : (o : Result ℕ Refusal) (r r' : ℕ) → count_reads.Post tt (o, tt) r (o, tt) → count_reads.Post tt (o, tt) r' (o, tt) → r ≡ r'
count_determined o r r' p q = p ∙ sym q

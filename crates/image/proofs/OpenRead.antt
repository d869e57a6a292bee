-- The byte that an open read holds, in the state of an image, is one: it stands in the image. By cases on the command in progress. Assumes nothing.
use Prim.Native.Nat.{ℕ, zero, suc, ◌<◌}
use native.Mathlib.Omega.{arith}
use mathlib.Core.List.{List}
use Rattle.kind.specs.declared.Kind.{Kind}
use Rattle.kind.specs.declared.Kind.TheVariants.{First, Second}
use Rattle.bay.proofs.Taut.{pick}
use Rattle.bus.specs.Progress.{known_to, held_known, held_by}
use Rattle.dock.specs.Held.{held_value, as_held, held_fit}
use Rattle.image.specs.Load.{byte_at, progress_by, state_in}
use Rattle.image.specs.Shape.{Octets}
use Rattle.dock.specs.declared.Refusal.{Refusal}
use Rattle.std.specs.Prelude.{Option, Result}

of_progress : (k : Kind) (which a b : ℕ) → a < 256 → b < 256 → held_value (as_held (held_by k (progress_by which a b))) < 512
unfolding held_by known_to held_known
of_progress k zero a b s t = omega arith
of_progress k (suc zero) a b s t = omega arith
of_progress k (suc (suc zero)) a b s t = omega arith
of_progress k (suc (suc (suc zero))) a b s t = omega arith
of_progress First (suc (suc (suc (suc zero)))) a b s t = omega arith
of_progress Second (suc (suc (suc (suc zero)))) a b s t = omega arith
of_progress k (suc (suc (suc (suc (suc zero))))) a b s t = omega arith
of_progress First (suc (suc (suc (suc (suc (suc zero)))))) a b s t = omega arith
of_progress Second (suc (suc (suc (suc (suc (suc zero)))))) a b s t = omega arith
of_progress First (suc (suc (suc (suc (suc (suc (suc zero))))))) a b s t = omega arith
of_progress Second (suc (suc (suc (suc (suc (suc (suc zero))))))) a b s t = omega arith
of_progress First (suc (suc (suc (suc (suc (suc (suc (suc zero)))))))) a b s t = omega arith
of_progress Second (suc (suc (suc (suc (suc (suc (suc (suc zero)))))))) a b s t = omega arith
of_progress k (suc (suc (suc (suc (suc (suc (suc (suc (suc n))))))))) a b s t = omega arith

pub held_byte_wide : (bytes : List ℕ) → Octets bytes → held_value (held_fit (state_in bytes)) < 512
unfolding state_in held_fit
held_byte_wide bytes o =
    pick (λ (h : Result (Option ℕ) Refusal). held_value h < 512) (state_in bytes).machine.started
    (λ _. of_progress (state_in bytes).machine.kind (byte_at bytes 71) _ _ (o 72) (o 73)) (λ _. omega arith)

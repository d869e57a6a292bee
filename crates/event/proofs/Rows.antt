-- What the table says of a kind that no arm of a `match` names. Assumes nothing.
use Prim.Native.Nat.{ℕ, zero, suc}
use mathlib.Core.Path.{◌≡◌, refl}
use Rattle.event.specs.Words.{event_of}
use Rattle.event.specs.declared.Event.TheVariants.{Timeout}

-- A number is a kind that the table has, or lies past it.
pub by_kind :
    (P : ℕ → Type 0) → P 0 → P 1 → P 2 → P 3 → P 4 → P 5 → P 6 → P 7
    → ((n : ℕ) → P (suc (suc (suc (suc (suc (suc (suc (suc n))))))))) → (k : ℕ) → P k
by_kind P p0 p1 p2 p3 p4 p5 p6 p7 p8 zero = p0
by_kind P p0 p1 p2 p3 p4 p5 p6 p7 p8 (suc zero) = p1
by_kind P p0 p1 p2 p3 p4 p5 p6 p7 p8 (suc (suc zero)) = p2
by_kind P p0 p1 p2 p3 p4 p5 p6 p7 p8 (suc (suc (suc zero))) = p3
by_kind P p0 p1 p2 p3 p4 p5 p6 p7 p8 (suc (suc (suc (suc zero)))) = p4
by_kind P p0 p1 p2 p3 p4 p5 p6 p7 p8 (suc (suc (suc (suc (suc zero))))) = p5
by_kind P p0 p1 p2 p3 p4 p5 p6 p7 p8 (suc (suc (suc (suc (suc (suc zero)))))) = p6
by_kind P p0 p1 p2 p3 p4 p5 p6 p7 p8 (suc (suc (suc (suc (suc (suc (suc zero))))))) = p7
by_kind P p0 p1 p2 p3 p4 p5 p6 p7 p8 (suc (suc (suc (suc (suc (suc (suc (suc n)))))))) = p8 n

-- Past kind 6 the event is TIMEOUT.
pub last : (d k : ℕ) → (k ≡ 0 → ⊥) → (k ≡ 1 → ⊥) → (k ≡ 2 → ⊥) → (k ≡ 3 → ⊥) → (k ≡ 4 → ⊥) → (k ≡ 5 → ⊥) → (k ≡ 6 → ⊥) → event_of k d ≡ Timeout
last d =
    by_kind
    (λ k. (k ≡ 0 → ⊥) → (k ≡ 1 → ⊥) → (k ≡ 2 → ⊥) → (k ≡ 3 → ⊥) → (k ≡ 4 → ⊥) → (k ≡ 5 → ⊥) → (k ≡ 6 → ⊥) → event_of k d ≡ Timeout)
    (λ p q r s t u v. absurd (p refl)) (λ p q r s t u v. absurd (q refl)) (λ p q r s t u v. absurd (r refl))
    (λ p q r s t u v. absurd (s refl)) (λ p q r s t u v. absurd (t refl)) (λ p q r s t u v. absurd (u refl))
    (λ p q r s t u v. absurd (v refl)) (λ p q r s t u v. refl) (λ n p q r s t u v. refl)

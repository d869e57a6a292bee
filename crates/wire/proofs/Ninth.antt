-- Nine bits are a byte from the host, or a TAKE; eight are the host's byte already; fewer are nothing. Assumes nothing.
use Prim.Native.Nat.{ℕ, zero, suc, ◌+◌, ◌/◌, ◌%◌, ◌<◌, ◌≤◌}
use native.Mathlib.Omega.{arith}
use mathlib.Core.Path.{◌≡◌, refl, ap, ◌∙◌}
use mathlib.Core.Bool.{Bool, true, false, cond, not}
use mathlib.Core.List.{List, [], ◌∷◌}
use lib.Dec.{eqb, ltb}
use lib.ListN.{length}
use borrow.Author.Tests.{lt-ltb}
use Rattle.std.specs.Prelude.{None}
use Rattle.bits.specs.Bits.{bit}
use Rattle.event.specs.declared.Event.TheVariants.{Byte, Take}
use Rattle.wire.specs.Nine.{waiting, joined, bit_to}
use Rattle.wire.specs.Hear.{events_in}
use Rattle.wire.specs.Waves.{eight, nine}
use Rattle.wire.specs.declared.Listening.{Listening}
use Rattle.wire.specs.declared.Listening.TheVariants.{Nothing, FirstByte, Bytes, Takes}
use Rattle.wire.proofs.Clocked.{ear_after, bits_give}

-- ---- eight bits, most significant first, make the byte

lowest : (n : ℕ) → n < 2 → cond (eqb n 1) 1 0 ≡ n
lowest zero l = refl
lowest (suc zero) l = refl
lowest (suc (suc n)) l = absurd (omega (arith, l))

joined_back : (n : ℕ) → n < 256 → joined (n / 2) (eqb (n % 2) 1) ≡ n
joined_back n l = rw (lowest (n % 2) (omega arith)) (omega (arith, l))

-- The value that the first eight bits of a byte have collected.
abbrev collected : ℕ → ℕ
collected b = joined (joined (joined (joined (joined (joined (joined (joined 0 (bit 7 b)) (bit 6 b)) (bit 5 b)) (bit 4 b)) (bit 3 b)) (bit 2 b)) (bit 1 b)) (bit 0 b)

-- One bit more of it: what lies above bit i, and then what lies from bit i up.
next_bit : (v n m : ℕ) → n < 256 → v ≡ n / 2 → n ≡ m → joined v (eqb (m % 2) 1) ≡ n
next_bit v n m l e f = rw (e, ← f) (joined_back n l)

collected_byte : (b : ℕ) → b < 256 → collected b ≡ b
collected_byte b l =
    next_bit _ b (b / 1) l (
    next_bit _ (b / 2) (b / 2) (omega (arith, l)) (
    next_bit _ (b / 4) (b / 4) (omega (arith, l)) (
    next_bit _ (b / 8) (b / 8) (omega (arith, l)) (
    next_bit _ (b / 16) (b / 16) (omega (arith, l)) (
    next_bit _ (b / 32) (b / 32) (omega (arith, l)) (
    next_bit _ (b / 64) (b / 64) (omega (arith, l)) (
    next_bit 0 (b / 128) (b / 128) (omega (arith, l)) (omega (arith, l)) refl
    ∙ omega arith) refl
    ∙ omega arith) refl
    ∙ omega arith) refl
    ∙ omega arith) refl
    ∙ omega arith) refl
    ∙ omega arith) refl
    ∙ omega arith) (omega arith)

-- ---- a byte that the host sends

pub first_given : (b : ℕ) (ninth : Bool) → b < 256 → bits_give (waiting FirstByte) (nine b ninth) ≡ Byte b ∷ []
unfolding bit_to
first_given b ninth l = ap (λ v. Byte v ∷ []) (collected_byte b l)

pub first_decides_lem : (b : ℕ) (ninth : Bool) → b < 256 → ear_after (waiting FirstByte) (nine b ninth) ≡ waiting (cond (bit 0 b) Takes Bytes)
unfolding bit_to
first_decides_lem b ninth l = ap (λ v. waiting (cond (bit 0 v) Takes Bytes)) (collected_byte b l)

pub first_eight : (b : ℕ) → b < 256 → bits_give (waiting FirstByte) (eight b) ≡ Byte b ∷ []
unfolding bit_to
first_eight b l = ap (λ v. Byte v ∷ []) (collected_byte b l)

pub byte_given : (b : ℕ) (ninth : Bool) → b < 256 → bits_give (waiting Bytes) (nine b ninth) ≡ Byte b ∷ []
unfolding bit_to
byte_given b ninth l = ap (λ v. Byte v ∷ []) (collected_byte b l)

pub byte_passed : (b : ℕ) (ninth : Bool) → ear_after (waiting Bytes) (nine b ninth) ≡ waiting Bytes
unfolding bit_to
byte_passed b ninth = refl

pub byte_eight : (b : ℕ) → b < 256 → bits_give (waiting Bytes) (eight b) ≡ Byte b ∷ []
unfolding bit_to
byte_eight b l = ap (λ v. Byte v ∷ []) (collected_byte b l)

-- ---- a byte that the host clocks in

pub take_given : (b : ℕ) (ninth : Bool) → bits_give (waiting Takes) (nine b ninth) ≡ Take (not ninth) ∷ []
unfolding bit_to
take_given b ninth = refl

pub take_passed : (b : ℕ) (ninth : Bool) → ear_after (waiting Takes) (nine b ninth) ≡ waiting Takes
unfolding bit_to
take_passed b ninth = refl

-- ---- fewer bits

few : (l : Listening) (n v : ℕ) (ds : List Bool) → n + length ds ≤ 7 → bits_give (record { listening = l; bits = n; value = v }) ds ≡ []
unfolding bit_to
few l n v [] m = refl
few Nothing n v (d ∷ ds) m = few Nothing n v ds (omega (arith, m))
few FirstByte n v (d ∷ ds) m = rw (lt-ltb n 8 (omega (arith, m)), lt-ltb (n + 1) 8 (omega (arith, m))) (few FirstByte (n + 1) (joined v d) ds (omega (arith, m)))
few Bytes n v (d ∷ ds) m = rw (lt-ltb n 8 (omega (arith, m)), lt-ltb (n + 1) 8 (omega (arith, m))) (few Bytes (n + 1) (joined v d) ds (omega (arith, m)))
few Takes n v (d ∷ ds) m = rw (lt-ltb n 8 (omega (arith, m)), lt-ltb (n + 1) 8 (omega (arith, m))) (few Takes (n + 1) (joined v d) ds (omega (arith, m)))

pub too_few : (l : Listening) (ds : List Bool) → length ds ≤ 7 → bits_give (waiting l) ds ≡ []
too_few l ds m = few l 0 0 ds (omega (arith, m))

-- Of a byte that the host clocks in, eight are nothing too.
no_eighth : (t : Bool) → events_in (cond t None None) ≡ []
no_eighth true = refl
no_eighth false = refl

few_clocked : (n v : ℕ) (ds : List Bool) → n + length ds ≤ 8 → bits_give (record { listening = Takes; bits = n; value = v }) ds ≡ []
unfolding bit_to
few_clocked n v [] m = refl
few_clocked n v (d ∷ ds) m =
    rw (lt-ltb n 8 (omega (arith, m)), no_eighth (ltb (n + 1) 8)) (few_clocked (n + 1) (joined v d) ds (omega (arith, m)))

pub too_few_clocked : (ds : List Bool) → length ds ≤ 8 → bits_give (waiting Takes) ds ≡ []
too_few_clocked ds m = few_clocked 0 0 ds (omega (arith, m))

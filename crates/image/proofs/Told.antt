-- The place that a verdict names where a byte is no flag: that of the first flag above 1. Assumes nothing.
use Prim.Native.Nat.{ℕ, zero, suc, ◌+◌, ◌-◌, ◌<◌, ◌≤◌}
use native.Mathlib.Omega.{arith}
use mathlib.Core.Path.{◌≡◌, refl, ap, sym, ◌∙◌}
use mathlib.Core.Bool.{Bool, true, false, cond, ◌&&◌, ◌||◌, true≢false, false≢true}
use mathlib.Core.List.{List, [], ◌∷◌}
use lib.Dec.{leb, eqb}
use lib.ListN.{length, get_or, drop}
use lib.Seq.{get_or-take, get_or-drop}
use borrow.Author.Tests.{leb-true, leb-false, eqb-true}
use Rattle.bay.proofs.Taut.{pick}
use Rattle.image.specs.Layout.{LAYOUT, BYTES, FLAGS, NUMBERS, PROGRESS}
use Rattle.image.specs.Load.{Verdict, byte_at, flag_bytes, all_flags, first_over, progress_verdict, sized_verdict, verdict_on}
use Rattle.image.proofs.RoundTrip.{flag_bytes_long}
use Rattle.image.specs.declared.Flaw.TheVariants.{NotAFlag, NotUsed, UnknownProgress, UnknownVersion, WrongLength}
use Rattle.std.specs.Prelude.{Err, Ok}

-- Of bytes that are not all flags: the first above 1.
pub record First (bs : List ℕ) (i : ℕ) : Type 0 where
  pub within : i < length bs
  pub above : 1 < get_or bs i 0
  pub flags_before : (j : ℕ) → j < i → get_or bs j 0 ≤ 1

one_later : (b : ℕ) (bs : List ℕ) (n : ℕ) → b ≤ 1 → First bs n → First (b ∷ bs) (1 + n)
one_later b bs n h f = rw one_more (record { within = omega (arith, f.within); above = f.above; flags_before = before })
  where
    one_more : 1 + n ≡ suc n
    one_more = omega arith

    before : (j : ℕ) → j < suc n → get_or (b ∷ bs) j 0 ≤ 1
    before zero l = h
    before (suc j) l = f.flags_before j (omega (arith, l))

pub first_told : (bs : List ℕ) → all_flags bs ≡ false → First bs (first_over bs)
unfolding first_over
first_told [] h = absurd (true≢false h)
first_told (b ∷ bs) h = go (leb b 1) refl h (first_told bs)
  where
    go :
        (t : Bool) → leb b 1 ≡ t → (t && all_flags bs) ≡ false → (all_flags bs ≡ false → First bs (first_over bs))
        → First (b ∷ bs) (cond t (1 + first_over bs) 0)
    go true e h rest = one_later b bs (first_over bs) (leb-true b 1 e) (rest h)
    go false e h rest = record { within = omega arith; above = leb-false b 1 e; flags_before = λ j l. absurd (omega (arith, l)) }

-- ---- of the bytes themselves

-- The place that a verdict names, and whether it is a flag's.
place : Verdict → ℕ
place (Ok t) = 0
place (Err WrongLength) = 0
place (Err UnknownVersion) = 0
place (Err (NotAFlag i)) = i
place (Err UnknownProgress) = 0
place (Err (NotUsed i)) = i

names_flag : Verdict → Bool
names_flag (Ok t) = false
names_flag (Err WrongLength) = false
names_flag (Err UnknownVersion) = false
names_flag (Err (NotAFlag i)) = true
names_flag (Err UnknownProgress) = false
names_flag (Err (NotUsed i)) = false

no_flag : (which a b : ℕ) → names_flag (progress_verdict which a b) ≡ false
unfolding progress_verdict names_flag
no_flag which a b =
    pick (λ v. names_flag v ≡ false) (leb which 8)
    (λ w. pick (λ v. names_flag v ≡ false) (leb 3 which || eqb a 0)
    (λ f. pick (λ v. names_flag v ≡ false) (eqb which 4 || eqb which 8 || eqb b 0) (λ s. refl) (λ s. refl)) (λ f. refl))
    (λ w. refl)

-- A byte of the flags, at its place among all.
at_flags : (bytes : List ℕ) (i : ℕ) → i < NUMBERS - FLAGS → byte_at (flag_bytes bytes) i ≡ byte_at bytes (1 + i)
at_flags bytes i h = get_or-take (NUMBERS - FLAGS) (drop 1 bytes) i 0 h ∙ get_or-drop 1 bytes i 0

pub flag_told : (bytes : List ℕ) (i : ℕ) → verdict_on bytes ≡ Err (NotAFlag i) → 1 < byte_at bytes i
unfolding verdict_on sized_verdict place names_flag
flag_told bytes i e =
    go (eqb (length bytes) BYTES) refl (eqb (byte_at bytes 0) LAYOUT) (all_flags (flag_bytes bytes)) refl e
  where
    go :
        (l : Bool) → eqb (length bytes) BYTES ≡ l → (v f : Bool) → all_flags (flag_bytes bytes) ≡ f
        → cond l (cond v (cond f (progress_verdict (byte_at bytes PROGRESS) (byte_at bytes (PROGRESS + 1)) (byte_at bytes (PROGRESS + 2))) (Err (NotAFlag (1 + first_over (flag_bytes bytes))))) (Err UnknownVersion)) (Err WrongLength) ≡ Err (NotAFlag i)
        → 1 < byte_at bytes i
    go false l v f q e = absurd (false≢true (ap names_flag e))
    go true l false f q e = absurd (false≢true (ap names_flag e))
    go true l true true q e = absurd (false≢true (sym (no_flag (byte_at bytes PROGRESS) (byte_at bytes (PROGRESS + 1)) (byte_at bytes (PROGRESS + 2))) ∙ ap names_flag e))
    go true l true false q e =
        let t = first_told (flag_bytes bytes) q in
        let within : first_over (flag_bytes bytes) < NUMBERS - FLAGS = omega (arith, t.within, flag_bytes_long bytes (eqb-true _ BYTES l)) in
        let here : byte_at bytes (1 + first_over (flag_bytes bytes)) ≡ byte_at bytes i = ap (λ v. byte_at bytes (place v)) e in
        omega (arith, t.above, at_flags bytes (first_over (flag_bytes bytes)) within, here)

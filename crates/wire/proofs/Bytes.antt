-- The held state as bytes: saved and loaded again it is the same, and bytes that are an image are the image of exactly one held state.
-- Assumes nothing.
use Prim.Native.Nat.{ℕ, zero, suc, ◌<◌, ◌≤◌}
use native.Mathlib.Omega.{arith}
use mathlib.Core.Path.{◌≡◌, refl, sym, ap}
use mathlib.Core.Bool.{Bool, true, false, ◌&&◌, cond, and-eq-true_iff}
use mathlib.Core.List.{List, [], ◌∷◌, map}
use lib.Dec.{eqb, leb}
use lib.ListN.{length, get_or}
use borrow.Author.Tests.{eqb-true, leb-true, eq-eqb, le-leb}
use Rattle.std.specs.Prelude.{Some, None, Result, Ok, Err}
use Rattle.std.specs.Result.{result_ok}
use Rattle.std.proofs.lemmas.Option.{none-some, same_Some, cond_some}
use Rattle.pairs.specs.Pairs.{wide}
use Rattle.pairs.proofs.Pairs.{word_back, high_back, low_back}
use Rattle.bits.specs.Bits.{put}
use Rattle.wire.specs.Image.{LAYOUT, BYTES, listening_number, listening_by, listening_in, saved, is_image, wire_in, load_of}
use Rattle.wire.specs.declared.Wire.{Wire}
use Rattle.wire.specs.declared.Lines.{Lines}
use Rattle.wire.specs.declared.Ear.{Ear}
use Rattle.wire.specs.declared.Listening.{Listening}
use Rattle.wire.specs.declared.image.UnknownListening.{UnknownListening}
use Rattle.wire.specs.declared.Listening.TheVariants.{Nothing, FirstByte, Bytes, Takes}

-- ---- what a caller knows of what it loaded

pub held_image : (bytes : List ℕ) (w : Wire) → Some w ≡ load_of bytes → (is_image bytes ≡ true) × (w ≡ wire_in bytes)
unfolding load_of
held_image bytes w e = let p = cond_some (is_image bytes) (wire_in bytes) w (sym e) in (p.0, sym p.1)

pub no_image : (bytes : List ℕ) → None ≡ load_of bytes → is_image bytes ≡ false
unfolding load_of
no_image bytes e = go (is_image bytes) refl e
  where
    go : (t : Bool) → is_image bytes ≡ t → None ≡ cond t (Some (wire_in bytes)) None → is_image bytes ≡ false
    go true p e = absurd (none-some (wire_in bytes) e)
    go false p e = p

-- The held state of bytes that are as many as an image has, by its parts.
abbrev held : List ℕ → ℕ → Listening → Wire
held bytes low l =
    record {
      lines = record { sdat = eqb (get_or bytes 1 0) 1; low = low };
      ear = record { listening = l; bits = get_or bytes 3 0; value = get_or bytes 4 0 };
    }

pub loaded :
    (bytes : List ℕ) (low : ℕ) (l : Listening) → length bytes ≡ BYTES → get_or bytes 0 0 ≡ LAYOUT → get_or bytes 1 0 ≤ 1
    → Some l ≡ result_ok (listening_in (get_or bytes 2 0)) → low ≡ wide (get_or bytes 5 0) (get_or bytes 6 0) → Some (held bytes low l) ≡ load_of bytes
unfolding load_of is_image wire_in
loaded bytes low l long v d n w =
    rw (eq-eqb (length bytes) BYTES long, eq-eqb (get_or bytes 0 0) LAYOUT v, le-leb (get_or bytes 1 0) 1 d, w) (go (leb (get_or bytes 2 0) 3) n)
  where
    unknown : Result Listening UnknownListening
    unknown = Err (record {})

    go :
        (t : Bool) → Some l ≡ result_ok (cond t (Ok (listening_by (get_or bytes 2 0))) unknown)
        → Some (held bytes (wide (get_or bytes 5 0) (get_or bytes 6 0)) l) ≡ cond t (Some (held bytes (wide (get_or bytes 5 0) (get_or bytes 6 0)) (listening_by (get_or bytes 2 0)))) None
    go true n = ap (λ x. Some (held bytes (wide (get_or bytes 5 0) (get_or bytes 6 0)) x)) (same_Some _ _ n)
    go false n = absurd (none-some l (sym n))

-- ---- a held state, saved and loaded

listening_back : (l : Listening) → listening_by (listening_number l) ≡ l
listening_back Nothing = refl
listening_back FirstByte = refl
listening_back Bytes = refl
listening_back Takes = refl

sdat_back : (d : Bool) → eqb (put 0 d) 1 ≡ d
sdat_back true = refl
sdat_back false = refl

pub saved_length : (w : Wire) → length (saved w) ≡ BYTES
unfolding saved
saved_length w = refl

pub saved_image : (w : Wire) → is_image (saved w) ≡ true
unfolding saved is_image
saved_image w = go w.lines.sdat w.ear.listening
  where
    go : (d : Bool) (l : Listening) → (leb (put 0 d) 1 && leb (listening_number l) 3) ≡ true
    go true Nothing = refl
    go true FirstByte = refl
    go true Bytes = refl
    go true Takes = refl
    go false Nothing = refl
    go false FirstByte = refl
    go false Bytes = refl
    go false Takes = refl

pub state_back : (w : Wire) → wire_in (saved w) ≡ w
unfolding saved wire_in
state_back w = go w.lines w.ear
  where
    go : (l : Lines) (e : Ear) → wire_in (saved (record { lines = l; ear = e })) ≡ record { lines = l; ear = e }
    go l e = rw (sdat_back l.sdat, listening_back e.listening, word_back l.low)

-- ---- bytes that are an image, loaded and saved

pub record Parts (bytes : List ℕ) : Type 0 where
  pub long : length bytes ≡ BYTES
  pub version : get_or bytes 0 0 ≡ LAYOUT
  pub level : leb (get_or bytes 1 0) 1 ≡ true
  pub listened : leb (get_or bytes 2 0) 3 ≡ true

pub parts : (bytes : List ℕ) → is_image bytes ≡ true → Parts bytes
unfolding is_image
parts bytes h =
    let a = (and-eq-true_iff (eqb (length bytes) BYTES) _).0 h in
    let b = (and-eq-true_iff (eqb (get_or bytes 0 0) LAYOUT && leb (get_or bytes 1 0) 1) _).0 a.1 in
    let c = (and-eq-true_iff (eqb (get_or bytes 0 0) LAYOUT) _).0 b.0 in
    record { long = eqb-true _ BYTES a.0; version = eqb-true _ LAYOUT c.0; level = c.1; listened = b.1 }

level_back : (b : ℕ) → leb b 1 ≡ true → put 0 (eqb b 1) ≡ b
level_back zero h = refl
level_back (suc zero) h = refl
level_back (suc (suc b)) h = absurd (omega (arith, leb-true (suc (suc b)) 1 h))

number_back : (b : ℕ) → leb b 3 ≡ true → listening_number (listening_by b) ≡ b
number_back zero h = refl
number_back (suc zero) h = refl
number_back (suc (suc zero)) h = refl
number_back (suc (suc (suc zero))) h = refl
number_back (suc (suc (suc (suc b)))) h = absurd (omega (arith, leb-true (suc (suc (suc (suc b)))) 3 h))

-- The low run's low byte is a byte.
pub bytes_back : (bytes : List ℕ) → is_image bytes ≡ true → get_or bytes 6 0 < 256 → saved (wire_in bytes) ≡ bytes
unfolding saved wire_in
bytes_back bytes h l = go bytes (parts bytes h) l
  where
    go : (bs : List ℕ) → Parts bs → get_or bs 6 0 < 256 → saved (wire_in bs) ≡ bs
    go [] p l = absurd (omega (arith, p.long))
    go (v ∷ []) p l = absurd (omega (arith, p.long))
    go (v ∷ d ∷ []) p l = absurd (omega (arith, p.long))
    go (v ∷ d ∷ n ∷ []) p l = absurd (omega (arith, p.long))
    go (v ∷ d ∷ n ∷ b ∷ []) p l = absurd (omega (arith, p.long))
    go (v ∷ d ∷ n ∷ b ∷ x ∷ []) p l = absurd (omega (arith, p.long))
    go (v ∷ d ∷ n ∷ b ∷ x ∷ hi ∷ []) p l = absurd (omega (arith, p.long))
    go (v ∷ d ∷ n ∷ b ∷ x ∷ hi ∷ lo ∷ []) p l =
        rw (p.version, level_back d p.level, number_back n p.listened, high_back hi lo l, low_back hi lo l)
    go (v ∷ d ∷ n ∷ b ∷ x ∷ hi ∷ lo ∷ more ∷ rest) p l = absurd (omega (arith, p.long))

-- ---- which byte is which, and what each number of what is listened for means: one held state, written out

pub record Places : Type 0 where
  pub one :
      saved (record { lines = record { sdat = true; low = 17501 }; ear = record { listening = Takes; bits = 8; value = 0x91 } })
      ≡ 0x01 ∷ 0x01 ∷ 0x03 ∷ 0x08 ∷ 0x91 ∷ 0x44 ∷ 0x5D ∷ []
  pub listenings : map listening_number (Nothing ∷ FirstByte ∷ Bytes ∷ Takes ∷ []) ≡ 0 ∷ 1 ∷ 2 ∷ 3 ∷ []

pub places : Places
unfolding saved
places = record { one = refl; listenings = refl }

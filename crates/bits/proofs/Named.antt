-- What each strap says, written out for all sixteen (document 01: "Straps: SMB_A1, SMB_A0, LOCK_DEF, LOCK_MODE"), so that no two of
-- them can be exchanged: by computing. Assumes nothing.
use Prim.Native.Nat.{ℕ}
use mathlib.Core.Path.{◌≡◌, refl}
use mathlib.Core.Bool.{true, false}
use mathlib.Core.List.{List, [], ◌∷◌, ◌++◌, map}
use Rattle.bits.specs.Straps.{MOST_STRAPS, smb_a, lock_def, lock_mode}

-- Straps 0000 to 1111.
abbrev pub all_straps : List ℕ
all_straps = 0 ∷ 1 ∷ 2 ∷ 3 ∷ 4 ∷ 5 ∷ 6 ∷ 7 ∷ 8 ∷ 9 ∷ 10 ∷ 11 ∷ 12 ∷ 13 ∷ 14 ∷ 15 ∷ []

-- The same for every SMB_A, by LOCK_DEF and LOCK_MODE: 00, 01, 10, 11.
abbrev pub whatever : {A : Type 0} → List A → List A
whatever four = four ++ four ++ four ++ four

pub record StrapsByName : Type 0 where
  pub smb_a_lem : map smb_a all_straps ≡ 0 ∷ 0 ∷ 0 ∷ 0 ∷ 1 ∷ 1 ∷ 1 ∷ 1 ∷ 2 ∷ 2 ∷ 2 ∷ 2 ∷ 3 ∷ 3 ∷ 3 ∷ 3 ∷ []
  pub lock_def_lem : map lock_def all_straps ≡ whatever (false ∷ false ∷ true ∷ true ∷ [])
  pub lock_mode_lem : map lock_mode all_straps ≡ whatever (false ∷ true ∷ false ∷ true ∷ [])
  pub most : MOST_STRAPS ≡ 15

pub straps_by_name : StrapsByName
unfolding lock_def lock_mode
straps_by_name = record { smb_a_lem = refl; lock_def_lem = refl; lock_mode_lem = refl; most = refl }

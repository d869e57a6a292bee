-- The own address bytes, written out for all sixteen straps (document 01, "Bus commands"): by computing. Assumes nothing.
use mathlib.Core.Path.{◌≡◌, refl}
use mathlib.Core.List.{[], ◌∷◌, map}
use Rattle.bits.proofs.Named.{all_straps}
use Rattle.bus.specs.Progress.{own_write_byte, own_read_byte}

pub record OwnBytes : Type 0 where
  -- 90h + 2 x SMB_A for writing ..
  pub for_writing :
      map own_write_byte all_straps
      ≡ 0x90 ∷ 0x90 ∷ 0x90 ∷ 0x90 ∷ 0x92 ∷ 0x92 ∷ 0x92 ∷ 0x92 ∷ 0x94 ∷ 0x94 ∷ 0x94 ∷ 0x94 ∷ 0x96 ∷ 0x96 ∷ 0x96 ∷ 0x96 ∷ []
  -- .. one more for reading.
  pub for_reading :
      map own_read_byte all_straps
      ≡ 0x91 ∷ 0x91 ∷ 0x91 ∷ 0x91 ∷ 0x93 ∷ 0x93 ∷ 0x93 ∷ 0x93 ∷ 0x95 ∷ 0x95 ∷ 0x95 ∷ 0x95 ∷ 0x97 ∷ 0x97 ∷ 0x97 ∷ 0x97 ∷ []

pub own_bytes : OwnBytes
unfolding own_write_byte own_read_byte
own_bytes = record { for_writing = refl; for_reading = refl }

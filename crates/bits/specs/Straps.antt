-- The straps (document 01, "Event words"): SMB_A1, SMB_A0, LOCK_DEF, LOCK_MODE, most significant first.
use Rattle.std.specs.Prelude.{ℕ, ◌/◌, ◌%◌, Bool}
use Rattle.bits.specs.Bits.{bit}

-- Straps are 0-15.
abbrev pub MOST_STRAPS : ℕ
MOST_STRAPS = 15

-- SMB_A: SMB_A1 and SMB_A0 as a number.
abbrev pub smb_a : ℕ → ℕ
smb_a straps = straps / 4 % 4

unfoldable pub lock_def : ℕ → Bool
lock_def straps = bit 1 straps

unfoldable pub lock_mode : ℕ → Bool
lock_mode straps = bit 0 straps

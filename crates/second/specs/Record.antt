-- The record of the second kind's own registers: fresh, after a RESET, and fit (document 03, "Registers" and "State").
use Rattle.std.specs.Prelude.{ℕ, Bool, false, ◌&&◌, List, [], ◌∷◌, leb, get_or}
use Rattle.second.specs.declared.Second.{Second}

-- A byte by its number, and whether it is written.
abbrev pub byte : List ℕ → ℕ → ℕ
byte bytes k = get_or bytes k 0

abbrev pub flag : List Bool → ℕ → Bool
flag flags k = get_or flags k false

-- In a fresh state all are 0 and unwritten.
unfoldable pub fresh : Second
fresh =
    record {
      subsystem = 0 ∷ 0 ∷ 0 ∷ 0 ∷ [];
      subsystem_written = false ∷ false ∷ false ∷ false ∷ [];
      form_factors = 0 ∷ 0 ∷ [];
      form_factors_written = false ∷ false ∷ [];
      sfr = 0;
      sfr_written = false;
    }

-- In a RESET of either kind 08h-0Bh are kept, and their written flags and SFR's clear; SFR is 0; BAY_FF and its written flags are kept.
unfoldable pub reset : Second → Second
reset s =
    record {
      subsystem = s.subsystem;
      subsystem_written = false ∷ false ∷ false ∷ false ∷ [];
      form_factors = s.form_factors;
      form_factors_written = s.form_factors_written;
      sfr = 0;
      sfr_written = false;
    }

-- BAY_FF is fit 0-7; the rest may be any.
unfoldable pub fits : Second → Bool
fits s = leb (byte s.form_factors 0) 7 && leb (byte s.form_factors 1) 7

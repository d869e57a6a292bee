-- Bytes that are written once (document 03, "Registers"): a byte counts as written at its first write, whatever that is, and takes no other.
use Rattle.std.specs.Prelude.{ℕ, ◌%◌, Bool, true, not, cond, ◌&&◌, ◌||◌, List, [], ◌∷◌, eqb}
use Rattle.second.specs.Record.{byte, flag}
use Rattle.second.specs.declared.Second.{Second}

-- A byte after a write that may be meant for it.
abbrev pub once : Bool → Bool → ℕ → ℕ → ℕ
once meant written old value = cond (meant && not written) value old

-- Byte k of some after a write of byte i, and whether it is written then.
abbrev pub byte_after : ℕ → ℕ → List ℕ → List Bool → ℕ → ℕ
byte_after i v bytes flags k = once (eqb i k) (flag flags k) (byte bytes k) v

abbrev pub flag_after : ℕ → List Bool → ℕ → Bool
flag_after i flags k = flag flags k || eqb i k

-- 08h-0Bh: each byte once.
unfoldable pub after_subsystem_write : ℕ → ℕ → Second → Second
after_subsystem_write i v s =
    record {
      subsystem =
          byte_after i v s.subsystem s.subsystem_written 0
          ∷ byte_after i v s.subsystem s.subsystem_written 1
          ∷ byte_after i v s.subsystem s.subsystem_written 2
          ∷ byte_after i v s.subsystem s.subsystem_written 3
          ∷ [];
      subsystem_written =
          flag_after i s.subsystem_written 0
          ∷ flag_after i s.subsystem_written 1
          ∷ flag_after i s.subsystem_written 2
          ∷ flag_after i s.subsystem_written 3
          ∷ [];
      form_factors = s.form_factors;
      form_factors_written = s.form_factors_written;
      sfr = s.sfr;
      sfr_written = s.sfr_written;
    }

-- 15h and 21h: bits 2-0, whatever bits 7-3 are.
unfoldable pub form_factor_written : ℕ → ℕ → Second → Second
form_factor_written i v s =
    record {
      subsystem = s.subsystem;
      subsystem_written = s.subsystem_written;
      form_factors =
          byte_after i (v % 8) s.form_factors s.form_factors_written 0
          ∷ byte_after i (v % 8) s.form_factors s.form_factors_written 1
          ∷ [];
      form_factors_written = flag_after i s.form_factors_written 0 ∷ flag_after i s.form_factors_written 1 ∷ [];
      sfr = s.sfr;
      sfr_written = s.sfr_written;
    }

-- FCh: the whole byte.
unfoldable pub after_sfr_write : ℕ → Second → Second
after_sfr_write v s =
    record {
      subsystem = s.subsystem;
      subsystem_written = s.subsystem_written;
      form_factors = s.form_factors;
      form_factors_written = s.form_factors_written;
      sfr = once true s.sfr_written s.sfr v;
      sfr_written = true;
    }

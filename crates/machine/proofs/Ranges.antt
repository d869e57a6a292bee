-- What the host sees fits where the paper puts it: a reading is a byte, and the outputs are nine bits. Assumes nothing.
use Prim.Native.Nat.{ℕ, ◌<◌}
use native.Mathlib.Omega.{arith}
use mathlib.Core.Bool.{Bool, true, false, ◌||◌}
use Rattle.bits.specs.Bits.{put}
use Rattle.bay.proofs.Taut.{pick}
use Rattle.bay.proofs.Laws.{bstr_byte, bcer_byte, outputs_nibble}
use Rattle.machine.specs.Record.{bay_at, is_open}
use Rattle.machine.specs.Setting.{hides, secured, setting_of}
use Rattle.machine.specs.Outputs.{nibble, wants, outputs}
use Rattle.machine.specs.Registers.{dbccr_of, bstr_at, bcer_at}
use Rattle.machine.specs.InForce.{register, reading}
use Rattle.machine.specs.declared.Machine.{Machine}
use Rattle.machine.specs.declared.Shared.{Shared}
use Rattle.machine.proofs.Addresses.{Each, found}
use Rattle.machine.specs.FirstKind.{first_register, first_registers}
use Rattle.machine.specs.SecondKind.{form_factor_at, second_register, second_registers, subsystem_at}
use Rattle.kind.specs.Kind.{is_second}

put_small : (b : Bool) → put 4 b < 17
put_small true = omega arith
put_small false = omega arith

dbccr_byte : (r : Shared) → dbccr_of r < 256
unfolding dbccr_of
dbccr_byte r = omega (arith, put_small r.seclock)

bstr_at_byte : (m : Machine) (i : ℕ) → bstr_at m i < 256
unfolding bstr_at
bstr_at_byte m i = pick (λ n. n < 256) (is_open m i) (λ o. bstr_byte (hides m) (secured m) (bay_at m i)) (λ o. omega arith)

bcer_at_byte : (m : Machine) (i : ℕ) → bcer_at m i < 256
unfolding bcer_at
bcer_at_byte m i = pick (λ n. n < 256) (is_open m i) (λ o. bcer_byte (bay_at m i)) (λ o. omega arith)

form_factor_byte : (m : Machine) (i : ℕ) → form_factor_at m i < 256
unfolding form_factor_at
form_factor_byte m i = pick (λ n. n < 256) {n = 0} (is_open m i) (λ o. omega arith) (λ o. omega arith)

-- A table whose entries are bytes has a byte at every address.
abbrev Byte : ℕ → Type 0
Byte n = n < 256

register_byte : (m : Machine) (a : ℕ) → register m a < 256
unfolding register first_register first_registers second_register second_registers subsystem_at Each
register_byte m a =
    pick Byte (is_second m.kind)
    (λ _. found Byte a (second_registers m) 0 (
      omega arith,
      (
        omega arith,
        (
          omega arith,
          (
            omega arith,
            (
              omega arith,
              (
                omega arith,
                (
                  omega arith,
                  (
                    dbccr_byte m.shared,
                    (bcer_at_byte m 0, (bstr_at_byte m 0, (form_factor_byte m 0, (bcer_at_byte m 1, (bstr_at_byte m 1, (form_factor_byte m 1, (omega arith, tt))))))),
                  ),
                ),
              ),
            ),
          ),
        ),
      ),
    ) (omega arith))
    (λ _. found Byte a (first_registers m) 0 (
      omega arith,
      (
        omega arith,
        (
          omega arith,
          (
            dbccr_byte m.shared,
            (bstr_at_byte m 0, (bcer_at_byte m 0, (bstr_at_byte m 1, (bcer_at_byte m 1, (omega arith, (omega arith, tt)))))),
          ),
        ),
      ),
    ) (omega arith))

pub reading_byte : (m : Machine) (a : ℕ) → reading m a < 256
unfolding reading
reading_byte m a = pick (λ n. n < 256) m.started (λ t. register_byte m a) (λ t. omega arith)

pub nibble_small : (m : Machine) (i : ℕ) → nibble m i < 16
unfolding nibble
nibble_small m i = pick (λ n. n < 16) (is_open m i) (λ o. outputs_nibble (hides m) (setting_of m) _ (bay_at m i)) (λ o. omega arith)

pub bit_small : (b : Bool) → put 0 b < 2
bit_small true = omega arith
bit_small false = omega arith

pub outputs_nine_bits : (m : Machine) → outputs m < 512
unfolding outputs
outputs_nine_bits m =
    pick (λ n. n < 512) m.started (λ t. omega (arith, nibble_small m 0, nibble_small m 1, bit_small (wants m 0 || wants m 1))) (λ t. omega arith)

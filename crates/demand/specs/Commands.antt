-- Whole commands of the first kind (document 01, "Bus commands"), described by the bus events since the START that opened the command.
use Rattle.std.specs.Prelude.{ℕ, Bool, false, cond, ◌||◌, List, [], ◌∷◌, ◌++◌, get_or}
use Rattle.bus.specs.Progress.{own_write_byte, own_read_byte}
use Rattle.machine.specs.declared.Act.{Act}
use Rattle.machine.specs.declared.Act.TheVariants.{Write, Read}
use Rattle.demand.specs.Bus.{Bus, Slot, start, stop, byte_is, any_byte, take, begins, fills, bytes_in}

-- ---- the two forms, for the controller with these straps

-- The slots up to the deciding event, those that follow it, and the act that it decides, by the bytes so far.
pub record Form : Type 0 where
  pub to_decide : List Slot
  pub to_close : List Slot
  pub act : List ℕ → Act

-- The own write byte is the first byte of either form, the register byte the second, the data byte the third.
abbrev pub register : List ℕ → ℕ
register bytes = get_or bytes 1 0

abbrev pub value : List ℕ → ℕ
value bytes = get_or bytes 2 0

-- Write: START, own write byte, register byte, data byte, STOP. Decided at the STOP.
abbrev pub write_form : ℕ → Form
write_form straps =
    record {
      to_decide = start ∷ byte_is (own_write_byte straps) ∷ any_byte ∷ any_byte ∷ stop ∷ [];
      to_close = [];
      act = λ bytes. Write (register bytes) (value bytes);
    }

-- Read: START, own write byte, register byte, START, own read byte, TAKE. Decided at the own read byte.
abbrev pub read_form : ℕ → Form
read_form straps =
    record {
      to_decide = start ∷ byte_is (own_write_byte straps) ∷ any_byte ∷ start ∷ byte_is (own_read_byte straps) ∷ [];
      to_close = take ∷ [];
      act = λ bytes. Read (register bytes);
    }

abbrev pub forms : ℕ → List Form
forms straps = write_form straps ∷ read_form straps ∷ []

abbrev pub whole : Form → List Slot
whole f = f.to_decide ++ f.to_close

-- ---- .. and against either

abbrev any : List Form → (Form → Bool) → Bool
any [] test = false
any (f ∷ fs) test = test f || any fs test

-- The command goes on: they begin one of the forms.
unfoldable pub first_goes_on : ℕ → List Bus → Bool
first_goes_on straps es = any (forms straps) (λ f. begins (whole f) es)

-- The command is complete: they are all of one.
unfoldable pub first_completes : ℕ → List Bus → Bool
first_completes straps es = any (forms straps) (λ f. fills (whole f) es)

-- What the last of them decides: the act of a form that is filled up to its deciding event, or nothing.
abbrev collect : List Form → List Bus → List Act
collect [] es = []
collect (f ∷ fs) es = cond (fills f.to_decide es) (f.act (bytes_in es) ∷ []) [] ++ collect fs es

unfoldable pub first_decides : ℕ → List Bus → List Act
first_decides straps es = collect (forms straps) es

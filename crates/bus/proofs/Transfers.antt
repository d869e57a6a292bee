-- What a START and a BYTE make of each progress, and the byte that it holds, in each kind of controller, written out (document 01, "Bus
-- commands"; document 03, "Bus transfers" and "State"; document 02, request 7), and how the number rises. Assumes nothing.
use Prim.Native.Nat.{ℕ, ◌+◌, ◌<◌}
use native.Mathlib.Omega.{arith}
use mathlib.Core.Path.{◌≡◌, refl, sym, ◌∙◌}
use mathlib.Core.Logic.{◌≢◌}
use mathlib.Core.List.{List, [], ◌∷◌, map}
use borrow.Author.Tests.{eq-eqb, ne_eqb}
use Rattle.kind.specs.declared.Kind.TheVariants.{First, Second}
use Rattle.bus.specs.declared.Progress.{Progress}
use Rattle.bus.specs.declared.Progress.TheVariants.{Idle, Opened, Addressed, Register, Data, Again, Reading, Writing, Sending}
use Rattle.bus.specs.declared.Heard.TheVariants.{On, Write, Read, End}
use Rattle.bus.specs.Progress.{own_write_byte, own_read_byte, started_known, heard_known, holding, next_register, known_to, started, heard, held_known, held_by}
use Rattle.std.specs.Prelude.{None, Some}

-- The number rises by one; FFh rises to 00h.
pub record Rises : Type 0 where
  pub written_out : map next_register (0x00 ∷ 0x7F ∷ 0xFE ∷ 0xFF ∷ []) ≡ 0x01 ∷ 0x80 ∷ 0xFF ∷ 0x00 ∷ []
  pub by_one : (r : ℕ) → r < 0xFF → next_register r ≡ r + 1

pub rises : Rises
unfolding next_register
rises = record { written_out = refl; by_one = λ r h. omega arith }

-- All that a command can have come to, with a number and a value.
abbrev pub all_progress : ℕ → ℕ → List Progress
all_progress n v = Idle ∷ Opened ∷ Addressed ∷ Register n ∷ Data n v ∷ Again n ∷ Reading v ∷ Writing n ∷ Sending n v ∷ []

-- The own read byte is not the own write byte.
two_bytes : (straps : ℕ) → own_read_byte straps ≢ own_write_byte straps
unfolding own_read_byte
two_bytes straps e = omega arith

-- The first kind: one data byte, which waits for the STOP, and one value for the TAKE. What only the second has counts as none: a START
-- opens, and a BYTE is nobody's.
pub record FirstKind (straps n v : ℕ) : Type 0 where
  pub known : map (known_to First) (all_progress n v) ≡ Idle ∷ Opened ∷ Addressed ∷ Register n ∷ Data n v ∷ Again n ∷ Reading v ∷ Idle ∷ Idle ∷ []
  pub start : map (started First) (all_progress n v) ≡ Opened ∷ Idle ∷ Idle ∷ Again n ∷ Idle ∷ Idle ∷ Idle ∷ Opened ∷ Opened ∷ []
  pub own_write_byte_lem :
      (b : ℕ) → b ≡ own_write_byte straps
      → map (heard First straps b) (all_progress n v) ≡ End ∷ On Addressed ∷ On (Register b) ∷ On (Data n b) ∷ End ∷ End ∷ End ∷ End ∷ End ∷ []
  pub own_read_byte_lem :
      (b : ℕ) → b ≡ own_read_byte straps
      → map (heard First straps b) (all_progress n v) ≡ End ∷ End ∷ On (Register b) ∷ On (Data n b) ∷ End ∷ Read n ∷ End ∷ End ∷ End ∷ []
  pub other_byte :
      (b : ℕ) → b ≢ own_write_byte straps → b ≢ own_read_byte straps
      → map (heard First straps b) (all_progress n v) ≡ End ∷ End ∷ On (Register b) ∷ On (Data n b) ∷ End ∷ End ∷ End ∷ End ∷ End ∷ []
  pub holds : holding First n v ≡ Reading v
  pub held : map (held_by First) (all_progress n v) ≡ None ∷ None ∷ None ∷ None ∷ None ∷ None ∷ Some v ∷ None ∷ None ∷ []

pub first_kind : (straps n v : ℕ) → FirstKind straps n v
unfolding known_to started started_known heard heard_known holding held_by held_known
first_kind straps n v =
    record {
      known = refl;
      start = refl;
      own_write_byte_lem = λ b e. rw (eq-eqb _ _ e, ne_eqb b (own_read_byte straps) (λ f. two_bytes straps (sym f ∙ e)));
      own_read_byte_lem = λ b e. rw (ne_eqb b (own_write_byte straps) (λ f. two_bytes straps (sym e ∙ f)), eq-eqb _ _ e);
      other_byte = λ b f g. rw (ne_eqb _ _ f, ne_eqb _ _ g);
      holds = refl;
      held = refl;
    }

-- The second kind: each data byte is a whole write at once, and a read goes on. What only the first has counts as none.
pub record SecondKind (straps n v : ℕ) : Type 0 where
  pub known : map (known_to Second) (all_progress n v) ≡ Idle ∷ Opened ∷ Addressed ∷ Register n ∷ Idle ∷ Again n ∷ Idle ∷ Writing n ∷ Sending n v ∷ []
  pub start : map (started Second) (all_progress n v) ≡ Opened ∷ Idle ∷ Idle ∷ Again n ∷ Opened ∷ Idle ∷ Opened ∷ Idle ∷ Idle ∷ []
  pub own_write_byte_lem :
      (b : ℕ) → b ≡ own_write_byte straps
      → map (heard Second straps b) (all_progress n v) ≡ End ∷ On Addressed ∷ On (Register b) ∷ Write n b ∷ End ∷ End ∷ End ∷ Write n b ∷ End ∷ []
  pub own_read_byte_lem :
      (b : ℕ) → b ≡ own_read_byte straps
      → map (heard Second straps b) (all_progress n v) ≡ End ∷ End ∷ On (Register b) ∷ Write n b ∷ End ∷ Read n ∷ End ∷ Write n b ∷ End ∷ []
  pub other_byte :
      (b : ℕ) → b ≢ own_write_byte straps → b ≢ own_read_byte straps
      → map (heard Second straps b) (all_progress n v) ≡ End ∷ End ∷ On (Register b) ∷ Write n b ∷ End ∷ End ∷ End ∷ Write n b ∷ End ∷ []
  pub holds : holding Second n v ≡ Sending n v
  pub held : map (held_by Second) (all_progress n v) ≡ None ∷ None ∷ None ∷ None ∷ None ∷ None ∷ None ∷ None ∷ Some v ∷ []

pub second_kind : (straps n v : ℕ) → SecondKind straps n v
unfolding known_to started started_known heard heard_known holding held_by held_known
second_kind straps n v =
    record {
      known = refl;
      start = refl;
      own_write_byte_lem = λ b e. rw (eq-eqb _ _ e, ne_eqb b (own_read_byte straps) (λ f. two_bytes straps (sym f ∙ e)));
      own_read_byte_lem = λ b e. rw (ne_eqb b (own_write_byte straps) (λ f. two_bytes straps (sym e ∙ f)), eq-eqb _ _ e);
      other_byte = λ b f g. rw (ne_eqb _ _ f, ne_eqb _ _ g);
      holds = refl;
      held = refl;
    }

-- Single cases, by computing: a START's text in both forms, when a TICK is due and where it stands, and what arguments mean; and
-- `words` is asked for by that word alone. Assumes nothing.
use Prim.Native.Nat.{ℕ}
use mathlib.Core.Path.{◌≡◌, refl}
use mathlib.Core.Bool.{Bool, true, false, cond}
use native.Mathlib.Omega.{arith}
use mathlib.Core.List.{List, [], ◌∷◌, map}
use Rattle.std.proofs.Common.{Ok, Err, Option, Some, None}
use Rattle.std.proofs.lemmas.Slice.Eq.{bytes_eq-Decides}
use Rattle.pairs.specs.Pairs.{bytes_of}
use Rattle.event.specs.Words.{word_of, is_reset_word, packed, straps_of, unpacked}
use Rattle.wire.specs.Record.{fresh_wire}
use Rattle.wire.specs.Hear.{hear_of}
use Rattle.wire.specs.Levels.{lines_after, shown_by}
use Rattle.wire.specs.Nine.{bit_to, tells}
use Rattle.second.specs.Record.{fresh as fresh_second, reset as reset_second, fits as second_fits}
use Rattle.bits.specs.Straps.{lock_def, lock_mode}
use Rattle.bay.specs.Record.{contact, present, empty_bay, reset_bay, bay_fit}
use Rattle.bay.specs.Outputs.{lock_pin, green, yellow, bay_outputs, interrupts}
use Rattle.bus.specs.Progress.{started, started_known, known_to}
use Rattle.machine.specs.Record.{bay_in, placed, open_by, fresh_machine, fits}
use Rattle.machine.specs.Setting.{hides, secured, is_lit, first_setting, setting_of}
use Rattle.machine.specs.Outputs.{nibble, wants, outputs}
use Rattle.machine.specs.Acts.{lock_after_reset, letr_after_reset, count_after_reset, reset_as, does}
use Rattle.dock.specs.Record.{fresh_controller}
use Rattle.dock.specs.Events.{turn_of, next}
use Rattle.dock.specs.Step.{takes, step_of}
use Rattle.hexes.specs.Digit.{digit_for}
use Rattle.lines.specs.Line.{line_of}
use Rattle.lines.specs.Text.{characters}
use Rattle.script.specs.Arguments.{digit_of, octet_of, word_of as typed_word}
use Rattle.capture.specs.Number.{decimal_in, decimal_of}
use Rattle.capture.specs.Rows.{row, tick_at, words_at, rows_of, row_line, lines_of, text_of}
use Rattle.capture.specs.Pieces.{header_for, capture_rows, capture_text}
use Rattle.capture.specs.Arguments.{asks_words, wish_of_number, wish_of}
use Rattle.capture.specs.Examples.{start_samples, start_lines, start_words, Case, arguments}
use Rattle.capture.specs.declared.rows.Form.TheVariants.{Lines, Words}
use Rattle.capture.specs.declared.arguments.Wish.TheVariants as wish
use Rattle.capture.specs.declared.arguments.Fault.TheVariants.{NoReset}

-- ---- a START

pub record Start : Type 0 where
  pub lines : capture_text Lines 0xC0FF start_samples ≡ start_lines
  pub words : capture_text Words 0xC0FF start_samples ≡ start_words

pub start : Start
unfolding capture_text header_for capture_rows start_samples start_lines start_words text_of lines_of bytes_of row_line decimal_of decimal_in tick_at words_at rows_of line_of digit_for fresh_wire hear_of lines_after shown_by tells bit_to packed straps_of word_of unpacked reset_second fresh_second second_fits lock_def lock_mode contact present empty_bay reset_bay bay_fit lock_pin green yellow bay_outputs interrupts started started_known known_to bay_in placed open_by fresh_machine fits hides secured is_lit first_setting setting_of nibble wants outputs lock_after_reset letr_after_reset count_after_reset reset_as does fresh_controller turn_of next takes step_of
start = record { lines = refl; words = refl }

-- ---- TICKs

pub record Ticks : Type 0 where
  pub none_before : tick_at 4999 ≡ []
  pub first : tick_at 5000 ≡ 0xA000 ∷ []
  pub none_after : tick_at 5001 ≡ []
  pub second : tick_at 10000 ≡ 0xA000 ∷ []
  -- A sample that gives a word and is a 5,000th: the word comes first, and both have its number.
  pub behind_the_word : rows_of fresh_wire 4999 (2 ∷ []) ≡ row 5000 0x0000 ∷ row 5000 0xA000 ∷ []

pub ticks : Ticks
unfolding tick_at words_at word_of rows_of fresh_wire hear_of lines_after shown_by tells packed straps_of
ticks = record { none_before = refl; first = refl; none_after = refl; second = refl; behind_the_word = refl }

-- ---- arguments

pub arguments_hold : map (λ (a : Case). wish_of a.typed) arguments ≡ map (λ (a : Case). a.meant) arguments
unfolding arguments wish_of asks_words typed_word octet_of digit_of
arguments_hold = refl

-- `words` alone asks for bare words,
pub words_only : (t : List ℕ) → asks_words t ≡ true → t ≡ characters "words"
unfolding asks_words
words_only t h = (bytes_eq-Decides t (characters "words")).0 h

-- and no word but a RESET's is put in front.
by_kind : (a : Bool) (n : Option ℕ) (w : ℕ) → cond a (Ok wish.Words) (wish_of_number n) ≡ Ok (wish.Reset w) → is_reset_word w ≡ true
by_kind true n w q = absurd (let z : ◌≡◌ {A = ℕ} 0 1 = cc in omega arith)
by_kind false None w q = absurd (let z : ◌≡◌ {A = ℕ} 0 1 = cc in omega arith)
by_kind false (Some v) w q = go (is_reset_word v) refl q
  where
    go : (k : Bool) → is_reset_word v ≡ k → cond k (Ok (wish.Reset v)) (Err NoReset) ≡ Ok (wish.Reset w) → is_reset_word w ≡ true
    go true p e = let same : v ≡ w = cc in rw (← same) p
    go false p e = absurd (let z : ◌≡◌ {A = ℕ} 0 1 = cc in omega arith)

pub resets_only : (t : List ℕ) (w : ℕ) → wish_of t ≡ Ok (wish.Reset w) → is_reset_word w ≡ true
unfolding wish_of
resets_only t w e = by_kind (asks_words t) (typed_word t) w e

-- The paper's trace is the text of its bytes, and a lone byte after them adds `odd`, by computing both. Assumes nothing.
use mathlib.Core.Path.{◌≡◌, refl}
use Rattle.bits.specs.Straps.{lock_def, lock_mode}
use Rattle.event.specs.Words.{unpacked}
use Rattle.second.specs.Record.{fresh as fresh_second, reset as reset_second, fits as second_fits}
use Rattle.bay.specs.Record.{contact, present, empty_bay, reset_bay, bay_fit}
use Rattle.bay.specs.Moves.{begun}
use Rattle.bay.specs.Registers.{bstr_of, control_of, asks, request_written, finds, state_written, wait_written, pulse_written, controlled_bay}
use Rattle.bay.specs.Outputs.{lock_pin, green, yellow, bay_outputs, interrupts}
use Rattle.bus.specs.Progress.{own_write_byte, own_read_byte, started, started_known, heard, heard_known, holding, known_to}
use Rattle.machine.specs.Record.{bay_in, placed, open_by, fresh_machine, fits}
use Rattle.machine.specs.Setting.{hides, secured, is_lit, first_setting, setting_of}
use Rattle.machine.specs.Outputs.{nibble, wants, outputs}
use Rattle.machine.specs.Registers.{bstr_at, bcer_write}
use Rattle.machine.specs.FirstKind.{first_registers, first_register, first_writes, first_written}
use Rattle.machine.specs.InForce.{register, reading, written}
use Rattle.machine.specs.Acts.{lock_after_reset, letr_after_reset, count_after_reset, reset_as, does}
use Rattle.dock.specs.Record.{fresh_controller}
use Rattle.dock.specs.Events.{stop_deed, read_at, byte_heard, byte_at, take_known, turn_of, next}
use Rattle.dock.specs.Step.{takes, step_of}
use Rattle.hexes.specs.Digit.{digit_for}
use Rattle.lines.specs.Line.{line_of}
use Rattle.pairs.specs.Pairs.{words_in, lone_in}
use Rattle.trace.specs.Text.{header, odd, lines_of, odd_for, text_of}
use Rattle.trace.specs.Example.{example_input, example_text, lone_input, lone_text}

pub record AsPrinted : Type 0 where
  pub twelve_words : text_of example_input ≡ example_text
  pub lone_byte : text_of lone_input ≡ lone_text

pub as_printed : AsPrinted
unfolding reset_second example_input example_text lone_input lone_text text_of header odd words_in lone_in lines_of odd_for line_of digit_for unpacked lock_def lock_mode contact present empty_bay reset_bay bay_fit bstr_of control_of asks request_written finds state_written begun wait_written pulse_written controlled_bay lock_pin green yellow bay_outputs interrupts own_write_byte own_read_byte started started_known heard heard_known known_to holding bay_in placed open_by hides secured fresh_second fresh_machine second_fits fits nibble wants is_lit outputs bstr_at first_registers first_register register reading first_setting setting_of bcer_write first_writes first_written written lock_after_reset letr_after_reset count_after_reset reset_as does fresh_controller stop_deed byte_heard byte_at take_known read_at turn_of next takes step_of
as_printed = record { twelve_words = refl; lone_byte = refl }

-- Q1 to Q25 hold, and so does the trace after them, by computing each from its calls. Assumes nothing.
use mathlib.Core.Path.{◌≡◌, refl}
use mathlib.Core.Bool.{true}
use Rattle.event.specs.Words.{unpacked}
use Rattle.bits.specs.Straps.{lock_def, lock_mode}
use Rattle.second.specs.Record.{fresh as fresh_second, reset as reset_second, fits as second_fits}
use Rattle.second.specs.Once.{after_subsystem_write, form_factor_written, after_sfr_write}
use Rattle.second.specs.Sfr.{wait_ticks_of, pulsed, pulse_ticks_of as sfr_pulse_ticks}
use Rattle.kind.specs.Kind.{numbered}
use Rattle.bay.specs.Record.{contact, present, empty_bay, reset_bay, bay_fit}
use Rattle.bay.specs.Debounce.{debounce, restart, sampled_bay}
use Rattle.bay.specs.Moves.{changes, in_use, begun, wait_after, inserts, state_after, moved_to, moved_bay, ticked_bay}
use Rattle.bay.specs.Registers.{bstr_of, bcer_of, bstr_written, control_of, asks, request_written, finds, state_written, wait_written, pulse_written, controlled_bay, unlocked_bay}
use Rattle.bay.specs.Outputs.{lock_pin, green, yellow, bay_outputs, interrupts}
use Rattle.bus.specs.Progress.{own_write_byte, own_read_byte, started, heard, heard_known, holding, known_to, started_known, next_register}
use Rattle.machine.specs.Record.{bay_in, placed, open_by, fresh_machine, fits}
use Rattle.machine.specs.Setting.{hides, secured, pulse_ticks_of, setting_of, first_setting, second_setting, is_lit}
use Rattle.machine.specs.Outputs.{nibble, wants, outputs}
use Rattle.machine.specs.Registers.{dbccr_of, bstr_at, bcer_at, dbccr_stored, dbccr_write, bstr_write, bcer_write, count_written}
use Rattle.machine.specs.FirstKind.{letr_write, wait_write, first_register, first_registers, first_writes, first_written}
use Rattle.machine.specs.SecondKind.{subsystem_at, form_factor_at, second_registers, second_register, subsystem_write, form_factor_write, sfr_write, second_writes, second_written}
use Rattle.machine.specs.InForce.{register, reading, written}
use Rattle.machine.specs.Acts.{sampled_at, ticked_at, pins_to, next_phase, tick_to, does, count_after_reset, letr_after_reset, lock_after_reset, reset_as, name_to}
use Rattle.dock.specs.Record.{fresh_controller}
use Rattle.dock.specs.Events.{stop_deed, byte_at, turn_of, next, byte_heard, read_at, take_known}
use Rattle.dock.specs.Step.{takes, step_of}
use Rattle.dock.specs.Name.{name_of}
use Rattle.dock.specs.SecondExamples.{all_hold, second_examples}

pub second_examples_hold : all_hold second_examples ≡ true
unfolding reset_second second_examples unpacked lock_def lock_mode contact present empty_bay reset_bay bay_fit debounce restart sampled_bay changes in_use begun wait_after inserts state_after moved_to moved_bay ticked_bay bstr_of bcer_of bstr_written control_of asks request_written finds state_written wait_written pulse_written controlled_bay lock_pin green yellow bay_outputs interrupts own_write_byte own_read_byte started started_known heard heard_known known_to holding bay_in placed open_by hides secured fresh_second fresh_machine second_fits fits nibble wants is_lit outputs dbccr_of bstr_at bcer_at first_registers first_register register reading count_written dbccr_stored dbccr_write letr_write wait_write pulse_ticks_of first_setting setting_of bstr_write bcer_write first_writes first_written written lock_after_reset letr_after_reset count_after_reset reset_as sampled_at ticked_at pins_to next_phase tick_to does fresh_controller stop_deed byte_heard byte_at take_known read_at turn_of next takes step_of name_of numbered name_to second_setting pulsed sfr_pulse_ticks wait_ticks_of subsystem_at form_factor_at second_registers second_register subsystem_write form_factor_write sfr_write second_writes second_written after_subsystem_write form_factor_written after_sfr_write unlocked_bay next_register
second_examples_hold = refl

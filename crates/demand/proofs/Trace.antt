-- The papers' two traces by the description (document 01 and document 03, "Bench examples"). The first: its twelve words are a reset, a whole
-- write and a whole read, and its last word, the TAKE, drives 15h with the outputs 041h. The second, after the second kind was named: three
-- writes of one byte at rising numbers, and four reads of one, of which the last is never taken. By computing. Assumes nothing.
use Rattle.dock.specs.Step.{takes}
use Rattle.kind.specs.Kind.{numbered}
use Prim.Native.Nat.{ℕ}
use Rattle.machine.specs.declared.Act.TheVariants.{Write, Read, Reset, Name}
use Rattle.kind.specs.declared.Kind.TheVariants.{Second}
use Rattle.second.specs.Record.{fresh as fresh_second, reset as reset_second}
use Rattle.bus.specs.declared.Reply.TheVariants.{Driven}
use mathlib.Core.List.{List, [], ◌++◌, ◌∷◌, map}
use mathlib.Core.Path.{◌≡◌, refl}
use Rattle.demand.specs.Words.{accepted}
use Rattle.demand.specs.Acts.{acts_at, acts_of, decided, hears, line_after, meets, on_bus, silent}
use Rattle.bay.specs.Registers.{asks, bstr_of, control_of, controlled_bay, pulse_written, request_written, state_written, finds}
use Rattle.machine.specs.Record.{bay_in, fresh_machine, open_by, placed}
use Rattle.bay.specs.Outputs.{bay_outputs, green, interrupts, lock_pin, yellow}
use Rattle.machine.specs.Registers.{bcer_write, bstr_at, count_written, dbccr_of, dbccr_stored, dbccr_write}
use Rattle.demand.specs.Described.{completes, decides, is_going_on}
use Rattle.bay.specs.Record.{contact, present, reset_bay}
use Rattle.machine.specs.Acts.{count_after_reset, does, does_all, letr_after_reset, lock_after_reset, reset_as, name_to}
use mathlib.Core.Bool.{false}
use Rattle.demand.specs.Commands.{first_completes, first_decides, first_goes_on}
use Rattle.machine.specs.FirstKind.{first_register, first_registers, first_writes, first_written}
use Rattle.machine.specs.Setting.{first_setting, hides, is_lit, secured, setting_of, pulse_ticks_of, second_setting}
use Rattle.bay.specs.Moves.{in_use}
use Rattle.demand.specs.Plain.{last_read, machine_after, plain_answer, read_by, reply_to, reply_by}
use Rattle.bits.specs.Straps.{lock_def, lock_mode}
use Rattle.machine.specs.Outputs.{nibble, outputs, wants}
use Rattle.bus.specs.Progress.{own_read_byte, own_write_byte}
use Rattle.machine.specs.InForce.{reading, written, register}
use Rattle.demand.specs.Transfers.{second_completes, second_decides, second_goes_on}
use Rattle.event.specs.Words.{unpacked}
use Rattle.dock.specs.Run.{naming, word}
use Rattle.second.specs.Once.{after_subsystem_write}
use Rattle.second.specs.Sfr.{pulsed, wait_ticks_of, pulse_ticks_of as sfr_pulse}
use Rattle.machine.specs.SecondKind.{second_register, second_registers, second_writes, second_written, subsystem_at, subsystem_write}
use Rattle.dock.specs.Answers.{done_with}

-- All words but the last.
abbrev words : List ℕ
words = 0xC0BF ∷ 0x0000 ∷ 0x4090 ∷ 0x4014 ∷ 0x4004 ∷ 0x2000 ∷ 0x0000 ∷ 0x4090 ∷ 0x4010 ∷ 0x0000 ∷ 0x4091 ∷ []

pub record AsPrinted : Type 0 where
  pub its_acts : acts_of silent (accepted false (map word (words ++ (0x6000 ∷ [])))) ≡ Reset 0 0xBF false ∷ Write 0x14 0x04 ∷ Read 0x10 ∷ []
  pub its_last_answer : plain_answer (map word words) 0x6000 ≡ done_with (Driven 0x15) 0x041

pub trace_as_printed : AsPrinted
unfolding unpacked accepted takes silent on_bus hears decided meets acts_at line_after acts_of is_going_on completes decides first_goes_on first_completes first_decides own_write_byte own_read_byte machine_after last_read read_by reply_by reply_to plain_answer does does_all fresh_machine fresh_second reset_second lock_after_reset letr_after_reset count_after_reset reset_as lock_def lock_mode reset_bay contact present in_use bstr_of control_of asks request_written finds state_written pulse_written controlled_bay lock_pin green yellow bay_outputs interrupts bay_in placed open_by hides secured is_lit nibble wants outputs bstr_at first_registers first_register register reading pulse_ticks_of first_setting setting_of bcer_write first_writes first_written written
trace_as_printed = record { its_acts = refl; its_last_answer = refl }

-- The second: 2 is named, and then these words. They are those up to the second TAKE, it, and those after it.
abbrev second_words : List ℕ
second_words = 0xC0FF ∷ 0x0000 ∷ 0x4090 ∷ 0x400B ∷ 0x4077 ∷ 0x4012 ∷ 0x4055 ∷ 0x2000 ∷ 0x0000 ∷ 0x4090 ∷ 0x400A ∷ 0x0000 ∷ 0x4091 ∷ 0x6001 ∷ []

pub record SecondAsPrinted : Type 0 where
  pub its_acts :
      acts_of silent (accepted false (naming 2 ∷ map word (second_words ++ (0x6001 ∷ 0x6001 ∷ 0x6000 ∷ 0x6000 ∷ []))))
      ≡ Name Second ∷ Reset 0 0xFF false ∷ Write 0x0B 0x77 ∷ Write 0x0C 0x12 ∷ Write 0x0D 0x55 ∷ Read 0x0A ∷ Read 0x0B ∷ Read 0x0C ∷ Read 0x0D ∷ []
  pub its_second_take : plain_answer (naming 2 ∷ map word second_words) 0x6001 ≡ done_with (Driven 0x77) 0x000

pub second_trace_as_printed : SecondAsPrinted
unfolding unpacked accepted takes numbered silent on_bus hears decided meets acts_at line_after acts_of is_going_on completes decides first_goes_on first_completes first_decides second_goes_on second_completes second_decides own_write_byte own_read_byte machine_after last_read read_by reply_by reply_to plain_answer does does_all name_to fresh_machine fresh_second reset_second lock_after_reset letr_after_reset count_after_reset reset_as reset_bay contact present in_use bay_outputs lock_pin green yellow interrupts bay_in open_by hides secured is_lit nibble wants outputs second_registers second_register register reading subsystem_at after_subsystem_write subsystem_write dbccr_write dbccr_stored count_written dbccr_of second_setting setting_of second_writes second_written written pulsed wait_ticks_of sfr_pulse
second_trace_as_printed = record { its_acts = refl; its_second_take = refl }

-- The rows of coprocessor 0, and which coprocessors are usable (MIPS R2000, the system control coprocessor).
use Rattle.std.specs.Prelude.{ℕ, ◌==◌, ◌&&◌, Bool, false, not, Some, None}
use Rattle.std.specs.declared.option.Option.{Option}
use Rattle.s2_cp0.specs.ControlRegisters.{ControlRegisters, is_usable, indexed_entry, random_entry}
use Rattle.s2_cp0.specs.ControlRegisterAccess.{control_read}
use Rattle.s2_cpu.specs.Processor.{Processor, register}
use Rattle.s2_machine.specs.declared.step.Step.{Step}
use Rattle.s2_machine.specs.declared.step.Step.TheVariants.{Delay, SetControl, WriteEntry}

-- an instruction needs a coprocessor that is not usable: 1 to 3 never are
abbrev pub is_unusable : ControlRegisters → Option ℕ → Bool
is_unusable c None = false
is_unusable c (Some unit) = not ((unit == 0) && is_usable c)

-- MFC0: a register takes one of coprocessor 0, one instruction later; MTC0
abbrev pub control_read_step : Processor → ℕ → ℕ → Step
control_read_step p rt rd = Delay rt (control_read p.cp0 rd p.run p.lines)

abbrev pub control_write_step : Processor → ℕ → ℕ → Step
control_write_step p rt rd = SetControl rd (register p rt)

-- TLBWI and TLBWR: an entry is written, the one that Index names or a random one
abbrev pub indexed_write_step : Processor → Step
indexed_write_step p = WriteEntry (indexed_entry p.cp0)

abbrev pub random_write_step : Processor → Step
random_write_step p = WriteEntry (random_entry p.run)

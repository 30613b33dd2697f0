-- The state that an exception leaves (MIPS R2000, exception processing).
use Rattle.std.specs.Prelude.{ℕ, ◌+◌, ◌-◌, ◌%◌, ◌^◌, Bool, false, if◌then◌else◌}
use Rattle.s2_cp0.specs.ControlRegisters.{has_boot_vectors}
use Rattle.s2_cp0.specs.ExceptionEntry.{raised}
use Rattle.s2_base.specs.Words.{word_sum}
use Rattle.s2_cpu.specs.Processor.{Processor, after_load_delay}
use Rattle.s2_cpu.specs.declared.exceptions.Exc.{Exc}
use Rattle.s2_cpu.specs.declared.exception_state.TheConstants.{GENERAL_VECTOR, REFILL_VECTOR, BOOT_GENERAL_VECTOR, BOOT_REFILL_VECTOR}

-- the address of the routine that serves the exception, by BEV and by whether the buffer is to be refilled
abbrev pub vector_of : Bool → Bool → ℕ
vector_of boot refill =
    if boot then (if refill then BOOT_REFILL_VECTOR else BOOT_GENERAL_VECTOR)
    else (if refill then REFILL_VECTOR else GENERAL_VECTOR)

-- EPC: this instruction, or in a delay slot the branch before it
abbrev pub return_address : Processor → ℕ
return_address p = if p.slot then (p.pc + (2 ^ 32 - 4)) % 2 ^ 32 else p.pc

-- the pending load is written; coprocessor 0 tells what came, and the routine follows
abbrev pub after_exception : Processor → Exc → Processor
after_exception p e =
    let vector = vector_of (has_boot_vectors p.cp0) e.refill in
    record (after_load_delay p) { cp0 = raised p.cp0 e.code e.unit e.bad (return_address p) p.slot; pc = vector; npc = word_sum vector 4; slot = false }

-- What a cycle does: the first exception that holds, or else the row of its instruction.
use Rattle.std.specs.Prelude.{ℕ, ◌*◌, List, Some, None}
use Rattle.std.specs.declared.option.Option.{Option}
use Rattle.s2_cpu.specs.Cases.{first_that_holds}
use Rattle.s2_cpu.specs.Processor.{Processor}
use Rattle.s2_cpu.specs.declared.exceptions.Exc.{Exc}
use Rattle.s2_decode.specs.declared.instr.Instr.{Instr}
use Rattle.s2_decode.specs.declared.instr.Instr.TheVariants.{Three, Shift, Imm, Lui, MulDiv, MoveFrom, MoveTo, Jump as JumpRow, JumpReg, JumpLinkReg, Branch, Memory, Syscall, Break, Mfc0, Mtc0, Tlbr, Tlbwi, Tlbwr, Tlbp, Rfe, Foreign, Reserved}
use Rattle.s2_machine.specs.Fetch.{instruction_of}
use Rattle.s2_machine.specs.Computation.{three_result, immediate_result, set_to, shift_step, product_step, move_from_step, move_to_step}
use Rattle.s2_machine.specs.Branches.{jump_step, register_jump_step, branch_step}
use Rattle.s2_machine.specs.MemoryAccess.{effective_address, memory_step}
use Rattle.s2_machine.specs.SystemRows.{control_read_step, control_write_step, indexed_write_step, random_write_step}
use Rattle.s2_machine.specs.ExceptionCases.{exception_cases, instruction_cases}
use Rattle.s2_machine.specs.declared.step.Step.{Step}
use Rattle.s2_machine.specs.declared.step.Step.TheVariants.{Raise, Proceed, Set, ReadEntry, ProbeEntry, Restore}

-- the row of an instruction; those of the last four always raise an exception before
abbrev pub row : Processor → Instr → Step
row p (Three op rd rs rt) = set_to rd (three_result p op rs rt)
row p (Shift op rd rt sa) = shift_step p op rd rt sa
row p (Imm op rt rs imm) = set_to rt (immediate_result p op rs imm)
row p (Lui rt imm) = Set rt (imm * 65536)
row p (MulDiv op rs rt) = product_step p op rs rt
row p (MoveFrom hi rd) = move_from_step p hi rd
row p (MoveTo hi rs) = move_to_step p hi rs
row p (JumpRow link target) = jump_step p link target
row p (JumpReg rs) = register_jump_step p rs 0
row p (JumpLinkReg rd rs) = register_jump_step p rs rd
row p (Branch op rs rt off) = branch_step p op rs rt off
row p (Memory op rt base off) = memory_step p op rt (effective_address p base off)
row p (Mfc0 rt rd) = control_read_step p rt rd
row p (Mtc0 rt rd) = control_write_step p rt rd
row p Tlbr = ReadEntry
row p Tlbwi = indexed_write_step p
row p Tlbwr = random_write_step p
row p Tlbp = ProbeEntry
row p Rfe = Restore
row p Syscall = Proceed
row p Break = Proceed
row p (Foreign unit word) = Proceed
row p (Reserved word) = Proceed

-- an exception that is raised comes in place of the row
abbrev pub raise_or : Option Exc → Step → Step
raise_or (Some e) step = Raise e
raise_or None step = step

-- what an instruction does that was fetched
abbrev pub step_of_instruction : Processor → Instr → Step
step_of_instruction p i = raise_or (first_that_holds (instruction_cases p i)) (row p i)

-- what a cycle does
abbrev pub step_of : Processor → List ℕ → Step
step_of p local = raise_or (first_that_holds (exception_cases p local)) (row p (instruction_of p local))

-- The rows that branch and jump (MIPS R2000, the jump and branch instructions). They go from npc, which also
-- in a delay slot is the address of the instruction that follows.
use Rattle.std.specs.Prelude.{ℕ, ◌+◌, ◌*◌, ◌/◌, ◌%◌, ◌^◌, Bool, Some, None, if◌then◌else◌}
use Rattle.s2_base.specs.Words.{sext16_of}
use Rattle.s2_alu.specs.Arithmetic.{is_taken}
use Rattle.s2_cpu.specs.Processor.{Processor, register}
use Rattle.s2_decode.specs.declared.instr.OpB.{OpB}
use Rattle.s2_decode.specs.declared.instr.OpB.TheVariants.{Bltzal, Bgezal}
use Rattle.s2_machine.specs.declared.step.Step.{Step}
use Rattle.s2_machine.specs.declared.step.Step.TheVariants.{Jump}

-- a jump: the target in words, under the top four bits of npc
abbrev pub jump_target : Processor → ℕ → ℕ
jump_target p target = p.npc / 0x10000000 * 0x10000000 + target * 4

abbrev pub jump_step : Processor → Bool → ℕ → Step
jump_step p link target = Jump (Some (jump_target p target)) (if link then 31 else 0)

-- a jump to the address in a register, with the register that takes the link
abbrev pub register_jump_step : Processor → ℕ → ℕ → Step
register_jump_step p rs link = Jump (Some (register p rs)) link

-- a branch: the offset counts words from npc
abbrev pub branch_target : Processor → ℕ → ℕ
branch_target p off = (p.npc + 4 * sext16_of off) % 2 ^ 32

-- the register that a branch links, 0 for none
abbrev pub branch_link : OpB → ℕ
branch_link Bltzal = 31
branch_link Bgezal = 31
branch_link op = 0

abbrev pub branch_step : Processor → OpB → ℕ → ℕ → ℕ → Step
branch_step p op rs rt off = Jump (if is_taken op (register p rs) (register p rt) then Some (branch_target p off) else None) (branch_link op)

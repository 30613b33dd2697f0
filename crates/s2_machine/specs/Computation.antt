-- The rows that compute (MIPS R2000, the computational instructions).
use Rattle.std.specs.Prelude.{ℕ, Bool, true, false, is_none, Some, None}
use Rattle.std.specs.declared.option.Option.{Option}
use Rattle.s2_alu.specs.Arithmetic.{shifted, three_value, immediate_value, Pair, product_or_quotient}
use Rattle.s2_cpu.specs.Processor.{Processor, register}
use Rattle.s2_decode.specs.declared.instr.Instr.{Instr}
use Rattle.s2_decode.specs.declared.instr.Instr.TheVariants.{Three, Imm}
use Rattle.s2_decode.specs.declared.instr.Op3.{Op3}
use Rattle.s2_decode.specs.declared.instr.OpS.{OpS}
use Rattle.s2_decode.specs.declared.instr.OpI.{OpI}
use Rattle.s2_decode.specs.declared.instr.OpD.{OpD}
use Rattle.s2_machine.specs.declared.step.Step.{Step}
use Rattle.s2_machine.specs.declared.step.Step.TheVariants.{Set, SetHiLo, Proceed}

-- the value of a row of three registers, and of a row with an immediate, which has none on overflow
abbrev pub three_result : Processor → Op3 → ℕ → ℕ → Option ℕ
three_result p op rs rt = three_value op (register p rs) (register p rt)

abbrev pub immediate_result : Processor → OpI → ℕ → ℕ → Option ℕ
immediate_result p op rs imm = immediate_value op (register p rs) imm

-- a row overflows: it has no value
abbrev pub overflows : Processor → Instr → Bool
overflows p (Three op rd rs rt) = is_none (three_result p op rs rt)
overflows p (Imm op rt rs imm) = is_none (immediate_result p op rs imm)
overflows p i = false

-- a row that sets a register to its value; of one that overflows, the exception has been taken before
abbrev pub set_to : ℕ → Option ℕ → Step
set_to reg (Some value) = Set reg value
set_to reg None = Proceed

-- a shift by the amount in the word
abbrev pub shift_step : Processor → OpS → ℕ → ℕ → ℕ → Step
shift_step p op rd rt sa = Set rd (shifted op (register p rt) sa)

-- a product or a quotient, into HI and LO
abbrev pub set_pair : Pair → Step
set_pair (hi, lo) = SetHiLo hi lo

abbrev pub product_step : Processor → OpD → ℕ → ℕ → Step
product_step p op rs rt = set_pair (product_or_quotient op (register p rs) (register p rt))

-- the moves from HI and LO, and to one of them
abbrev pub move_from_step : Processor → Bool → ℕ → Step
move_from_step p true rd = Set rd p.hi
move_from_step p false rd = Set rd p.lo

abbrev pub move_to_step : Processor → Bool → ℕ → Step
move_to_step p true rs = SetHiLo (register p rs) p.lo
move_to_step p false rs = SetHiLo p.hi (register p rs)

-- The coprocessor that an instruction needs (MIPS R2000, the exception Coprocessor Unusable).
use Rattle.std.specs.Prelude.{ℕ, ◌==◌, ◌||◌, Some, None, if◌then◌else◌}
use Rattle.std.specs.declared.option.Option.{Option}
use Rattle.s2_decode.specs.Fields.{op_of}
use Rattle.s2_decode.specs.declared.instr.Instr.{Instr}
use Rattle.s2_decode.specs.declared.instr.Instr.TheVariants.{Mfc0, Mtc0, Tlbr, Tlbwi, Tlbwr, Tlbp, Rfe, Foreign, Reserved}

-- a word outside the table needs coprocessor 0 where its operation code is one of coprocessor 0's
abbrev pub reserved_unit : ℕ → Option ℕ
reserved_unit word = if (op_of word == 16 || op_of word == 48 || op_of word == 56) then Some 0 else None

abbrev pub unit_of : Instr → Option ℕ
unit_of (Foreign unit word) = Some unit
unit_of (Reserved word) = reserved_unit word
unit_of (Mfc0 rt rd) = Some 0
unit_of (Mtc0 rt rd) = Some 0
unit_of Tlbr = Some 0
unit_of Tlbwi = Some 0
unit_of Tlbwr = Some 0
unit_of Tlbp = Some 0
unit_of Rfe = Some 0
unit_of _ = None

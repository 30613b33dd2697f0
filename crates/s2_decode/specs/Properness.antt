-- Which instructions are one of the table's: their operands fit the fields of a word.
use Rattle.std.specs.Prelude.{ℕ, ◌≡◌, ◌<◌, ◌^◌}
use Rattle.s2_decode.specs.Table.{decoded}
use Rattle.s2_decode.specs.declared.instr.OpB.{OpB}
use Rattle.s2_decode.specs.declared.instr.OpB.TheVariants.{Beq, Bne, Blez, Bgtz, Bltz, Bgez, Bltzal, Bgezal}
use Rattle.s2_decode.specs.declared.instr.Instr.{Instr}
use Rattle.s2_decode.specs.declared.instr.Instr.TheVariants.{Three, Shift, Imm, Lui, MulDiv, MoveFrom, MoveTo, Jump, JumpReg, JumpLinkReg, Branch, Memory, Syscall, Break, Mfc0, Mtc0, Tlbr, Tlbwi, Tlbwr, Tlbp, Rfe, Foreign, Reserved}

-- the second register of a branch: only BEQ and BNE have one
abbrev pub IsBranchRegister : OpB → ℕ → Type 0
IsBranchRegister Beq rt = rt < 32
IsBranchRegister Bne rt = rt < 32
IsBranchRegister Blez rt = rt ≡ 0
IsBranchRegister Bgtz rt = rt ≡ 0
IsBranchRegister Bltz rt = rt ≡ 0
IsBranchRegister Bgez rt = rt ≡ 0
IsBranchRegister Bltzal rt = rt ≡ 0
IsBranchRegister Bgezal rt = rt ≡ 0

-- register numbers and shift amounts are below 32, a target below 2 ^ 26, and a word that is kept whole is
-- one that decodes to just this instruction; immediates and offsets fit by their type
abbrev pub IsProper : Instr → Type 0
IsProper (Three op rd rs rt) = (rd < 32) × (rs < 32) × (rt < 32)
IsProper (Shift op rd rt sa) = (rd < 32) × (rt < 32) × (sa < 32)
IsProper (Imm op rt rs imm) = (rt < 32) × (rs < 32)
IsProper (Lui rt imm) = rt < 32
IsProper (MulDiv op rs rt) = (rs < 32) × (rt < 32)
IsProper (MoveFrom hi rd) = rd < 32
IsProper (MoveTo hi rs) = rs < 32
IsProper (Jump link target) = target < 2 ^ 26
IsProper (JumpReg rs) = rs < 32
IsProper (JumpLinkReg rd rs) = (rd < 32) × (rs < 32)
IsProper (Branch op rs rt off) = (rs < 32) × IsBranchRegister op rt
IsProper (Memory op rt base off) = (rt < 32) × (base < 32)
IsProper Syscall = Unit {0}
IsProper Break = Unit {0}
IsProper (Mfc0 rt rd) = (rt < 32) × (rd < 32)
IsProper (Mtc0 rt rd) = (rt < 32) × (rd < 32)
IsProper Tlbr = Unit {0}
IsProper Tlbwi = Unit {0}
IsProper Tlbwr = Unit {0}
IsProper Tlbp = Unit {0}
IsProper Rfe = Unit {0}
IsProper (Foreign unit word) = decoded word ≡ Foreign unit word
IsProper (Reserved word) = decoded word ≡ Reserved word

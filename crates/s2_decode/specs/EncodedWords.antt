-- The word that the encoder makes of an instruction: the codes of its row, its operands, and 0 in the other
-- fields. For the parts of this crate: what the encoder promises is said over the table alone.
use Rattle.std.specs.Prelude.{ℕ, ◌+◌, ◌*◌, true, false}
use Rattle.s2_decode.specs.declared.instr.Op3.{Op3}
use Rattle.s2_decode.specs.declared.instr.Op3.TheVariants.{Add, Addu, Sub, Subu, And, Or, Xor, Nor, Slt, Sltu, Sllv, Srlv, Srav}
use Rattle.s2_decode.specs.declared.instr.OpS.{OpS}
use Rattle.s2_decode.specs.declared.instr.OpS.TheVariants.{Sll, Srl, Sra}
use Rattle.s2_decode.specs.declared.instr.OpI.{OpI}
use Rattle.s2_decode.specs.declared.instr.OpI.TheVariants.{Addi, Addiu, Slti, Sltiu, Andi, Ori, Xori}
use Rattle.s2_decode.specs.declared.instr.OpD.{OpD}
use Rattle.s2_decode.specs.declared.instr.OpD.TheVariants.{Mult, Multu, Div, Divu}
use Rattle.s2_decode.specs.declared.instr.OpB.{OpB}
use Rattle.s2_decode.specs.declared.instr.OpB.TheVariants.{Beq, Bne, Blez, Bgtz, Bltz, Bgez, Bltzal, Bgezal}
use Rattle.s2_decode.specs.declared.instr.OpM.{OpM}
use Rattle.s2_decode.specs.declared.instr.OpM.TheVariants.{Lb, Lh, Lwl, Lw, Lbu, Lhu, Lwr, Sb, Sh, Swl, Sw, Swr}
use Rattle.s2_decode.specs.declared.instr.Instr.{Instr}
use Rattle.s2_decode.specs.declared.instr.Instr.TheVariants.{Three, Shift, Imm, Lui, MulDiv, MoveFrom, MoveTo, Jump, JumpReg, JumpLinkReg, Branch, Memory, Syscall, Break, Mfc0, Mtc0, Tlbr, Tlbwi, Tlbwr, Tlbp, Rfe, Foreign, Reserved}

-- the function code of a row of three registers
abbrev pub three_code : Op3 → ℕ
three_code Sllv = 4
three_code Srlv = 6
three_code Srav = 7
three_code Add = 32
three_code Addu = 33
three_code Sub = 34
three_code Subu = 35
three_code And = 36
three_code Or = 37
three_code Xor = 38
three_code Nor = 39
three_code Slt = 42
three_code Sltu = 43

-- the function code of a shift
abbrev pub shift_code : OpS → ℕ
shift_code Sll = 0
shift_code Srl = 2
shift_code Sra = 3

-- the function code of a row that multiplies or divides
abbrev pub division_code : OpD → ℕ
division_code Mult = 24
division_code Multu = 25
division_code Div = 26
division_code Divu = 27

-- the operation code of a row with an immediate
abbrev pub immediate_code : OpI → ℕ
immediate_code Addi = 8
immediate_code Addiu = 9
immediate_code Slti = 10
immediate_code Sltiu = 11
immediate_code Andi = 12
immediate_code Ori = 13
immediate_code Xori = 14

-- the operation code of a load or store
abbrev pub memory_code : OpM → ℕ
memory_code Lb = 32
memory_code Lh = 33
memory_code Lwl = 34
memory_code Lw = 35
memory_code Lbu = 36
memory_code Lhu = 37
memory_code Lwr = 38
memory_code Sb = 40
memory_code Sh = 41
memory_code Swl = 42
memory_code Sw = 43
memory_code Swr = 46

-- the six fields, packed
abbrev pub packed : ℕ → ℕ → ℕ → ℕ → ℕ → ℕ → ℕ
packed op rs rt rd sa fn = op * 0x04000000 + rs * 0x00200000 + rt * 0x00010000 + rd * 2048 + sa * 64 + fn

-- a code, two registers and 16 bits, packed
abbrev pub packed_low : ℕ → ℕ → ℕ → ℕ → ℕ
packed_low op rs rt low = op * 0x04000000 + rs * 0x00200000 + rt * 0x00010000 + low

-- a code and a target, packed
abbrev pub packed_target : ℕ → ℕ → ℕ
packed_target op target = op * 0x04000000 + target

-- a branch
abbrev pub branch_word : OpB → ℕ → ℕ → ℕ → ℕ
branch_word Beq rs rt off = packed_low 4 rs rt off
branch_word Bne rs rt off = packed_low 5 rs rt off
branch_word Blez rs rt off = packed_low 6 rs 0 off
branch_word Bgtz rs rt off = packed_low 7 rs 0 off
branch_word Bltz rs rt off = packed_low 1 rs 0 off
branch_word Bgez rs rt off = packed_low 1 rs 1 off
branch_word Bltzal rs rt off = packed_low 1 rs 16 off
branch_word Bgezal rs rt off = packed_low 1 rs 17 off

-- the word of an instruction
abbrev pub encoded : Instr → ℕ
encoded (Three op rd rs rt) = packed 0 rs rt rd 0 (three_code op)
encoded (Shift op rd rt sa) = packed 0 0 rt rd sa (shift_code op)
encoded (Imm op rt rs imm) = packed_low (immediate_code op) rs rt imm
encoded (Lui rt imm) = packed_low 15 0 rt imm
encoded (MulDiv op rs rt) = packed 0 rs rt 0 0 (division_code op)
encoded (MoveFrom true rd) = packed 0 0 0 rd 0 16
encoded (MoveFrom false rd) = packed 0 0 0 rd 0 18
encoded (MoveTo true rs) = packed 0 rs 0 0 0 17
encoded (MoveTo false rs) = packed 0 rs 0 0 0 19
encoded (Jump false target) = packed_target 2 target
encoded (Jump true target) = packed_target 3 target
encoded (JumpReg rs) = packed 0 rs 0 0 0 8
encoded (JumpLinkReg rd rs) = packed 0 rs 0 rd 0 9
encoded (Branch op rs rt off) = branch_word op rs rt off
encoded (Memory op rt base off) = packed_low (memory_code op) base rt off
encoded Syscall = packed 0 0 0 0 0 12
encoded Break = packed 0 0 0 0 0 13
encoded (Mfc0 rt rd) = packed 16 0 rt rd 0 0
encoded (Mtc0 rt rd) = packed 16 4 rt rd 0 0
encoded Tlbr = packed 16 16 0 0 0 1
encoded Tlbwi = packed 16 16 0 0 0 2
encoded Tlbwr = packed 16 16 0 0 0 6
encoded Tlbp = packed 16 16 0 0 0 8
encoded Rfe = packed 16 16 0 0 0 16
encoded (Foreign unit word) = word
encoded (Reserved word) = word

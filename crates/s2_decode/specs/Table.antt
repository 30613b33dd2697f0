-- The instruction table, in the groups of the manual's opcode maps (MIPS R2000, opcode bit encoding). A
-- row is a line: the code that it is known by, and where its operands lie. Fields that a row does not name
-- are ignored, and a word that no row takes is Reserved.
use Rattle.std.specs.Prelude.{ℕ, true, false, ◌==◌, nat_le, if◌then◌else◌}
use Rattle.s2_decode.specs.Fields.{op_of, rs_of, rt_of, rd_of, sa_of, fn_of, imm_of, target_of}
use Rattle.s2_decode.specs.declared.instr.Op3.TheVariants.{Add, Addu, Sub, Subu, And, Or, Xor, Nor, Slt, Sltu, Sllv, Srlv, Srav}
use Rattle.s2_decode.specs.declared.instr.OpS.TheVariants.{Sll, Srl, Sra}
use Rattle.s2_decode.specs.declared.instr.OpI.TheVariants.{Addi, Addiu, Slti, Sltiu, Andi, Ori, Xori}
use Rattle.s2_decode.specs.declared.instr.OpD.TheVariants.{Mult, Multu, Div, Divu}
use Rattle.s2_decode.specs.declared.instr.OpB.TheVariants.{Beq, Bne, Blez, Bgtz, Bltz, Bgez, Bltzal, Bgezal}
use Rattle.s2_decode.specs.declared.instr.OpM.TheVariants.{Lb, Lh, Lwl, Lw, Lbu, Lhu, Lwr, Sb, Sh, Swl, Sw, Swr}
use Rattle.s2_decode.specs.declared.instr.Instr.{Instr}
use Rattle.s2_decode.specs.declared.instr.Instr.TheVariants.{Three, Shift, Imm, Lui, MulDiv, MoveFrom, MoveTo, Jump, JumpReg, JumpLinkReg, Branch, Memory, Syscall, Break, Mfc0, Mtc0, Tlbr, Tlbwi, Tlbwr, Tlbp, Rfe, Foreign, Reserved}

-- SPECIAL, function codes below 32: shifts, jumps, traps, HI and LO
abbrev pub special_low : ℕ → Instr
special_low w =
    if fn_of w == 0 then Shift Sll (rd_of w) (rt_of w) (sa_of w)
    else if fn_of w == 2 then Shift Srl (rd_of w) (rt_of w) (sa_of w)
    else if fn_of w == 3 then Shift Sra (rd_of w) (rt_of w) (sa_of w)
    else if fn_of w == 4 then Three Sllv (rd_of w) (rs_of w) (rt_of w)
    else if fn_of w == 6 then Three Srlv (rd_of w) (rs_of w) (rt_of w)
    else if fn_of w == 7 then Three Srav (rd_of w) (rs_of w) (rt_of w)
    else if fn_of w == 8 then JumpReg (rs_of w)
    else if fn_of w == 9 then JumpLinkReg (rd_of w) (rs_of w)
    else if fn_of w == 12 then Syscall
    else if fn_of w == 13 then Break
    else if fn_of w == 16 then MoveFrom true (rd_of w)
    else if fn_of w == 17 then MoveTo true (rs_of w)
    else if fn_of w == 18 then MoveFrom false (rd_of w)
    else if fn_of w == 19 then MoveTo false (rs_of w)
    else if fn_of w == 24 then MulDiv Mult (rs_of w) (rt_of w)
    else if fn_of w == 25 then MulDiv Multu (rs_of w) (rt_of w)
    else if fn_of w == 26 then MulDiv Div (rs_of w) (rt_of w)
    else if fn_of w == 27 then MulDiv Divu (rs_of w) (rt_of w)
    else Reserved w

-- SPECIAL, function codes from 32 on: arithmetic
abbrev pub special_high : ℕ → Instr
special_high w =
    if fn_of w == 32 then Three Add (rd_of w) (rs_of w) (rt_of w)
    else if fn_of w == 33 then Three Addu (rd_of w) (rs_of w) (rt_of w)
    else if fn_of w == 34 then Three Sub (rd_of w) (rs_of w) (rt_of w)
    else if fn_of w == 35 then Three Subu (rd_of w) (rs_of w) (rt_of w)
    else if fn_of w == 36 then Three And (rd_of w) (rs_of w) (rt_of w)
    else if fn_of w == 37 then Three Or (rd_of w) (rs_of w) (rt_of w)
    else if fn_of w == 38 then Three Xor (rd_of w) (rs_of w) (rt_of w)
    else if fn_of w == 39 then Three Nor (rd_of w) (rs_of w) (rt_of w)
    else if fn_of w == 42 then Three Slt (rd_of w) (rs_of w) (rt_of w)
    else if fn_of w == 43 then Three Sltu (rd_of w) (rs_of w) (rt_of w)
    else Reserved w

-- SPECIAL: operation code 0, by the function code
abbrev pub special : ℕ → Instr
special w = if nat_le 32 (fn_of w) then special_high w else special_low w

-- REGIMM: operation code 1, by the rt field
abbrev pub regimm : ℕ → Instr
regimm w =
    if rt_of w == 0 then Branch Bltz (rs_of w) 0 (imm_of w)
    else if rt_of w == 1 then Branch Bgez (rs_of w) 0 (imm_of w)
    else if rt_of w == 16 then Branch Bltzal (rs_of w) 0 (imm_of w)
    else if rt_of w == 17 then Branch Bgezal (rs_of w) 0 (imm_of w)
    else Reserved w

-- COP0: operation code 16, by the rs field; from 16 on, by the function code
abbrev pub privileged : ℕ → Instr
privileged w =
    if fn_of w == 1 then Tlbr
    else if fn_of w == 2 then Tlbwi
    else if fn_of w == 6 then Tlbwr
    else if fn_of w == 8 then Tlbp
    else if fn_of w == 16 then Rfe
    else Reserved w

abbrev pub coprocessor : ℕ → Instr
coprocessor w =
    if rs_of w == 0 then Mfc0 (rt_of w) (rd_of w)
    else if rs_of w == 4 then Mtc0 (rt_of w) (rd_of w)
    else if nat_le 16 (rs_of w) then privileged w
    else Reserved w

-- operation codes below 32 that stand for one row
abbrev pub plain : ℕ → Instr
plain w =
    if op_of w == 2 then Jump false (target_of w)
    else if op_of w == 3 then Jump true (target_of w)
    else if op_of w == 4 then Branch Beq (rs_of w) (rt_of w) (imm_of w)
    else if op_of w == 5 then Branch Bne (rs_of w) (rt_of w) (imm_of w)
    else if op_of w == 6 then Branch Blez (rs_of w) 0 (imm_of w)
    else if op_of w == 7 then Branch Bgtz (rs_of w) 0 (imm_of w)
    else if op_of w == 8 then Imm Addi (rt_of w) (rs_of w) (imm_of w)
    else if op_of w == 9 then Imm Addiu (rt_of w) (rs_of w) (imm_of w)
    else if op_of w == 10 then Imm Slti (rt_of w) (rs_of w) (imm_of w)
    else if op_of w == 11 then Imm Sltiu (rt_of w) (rs_of w) (imm_of w)
    else if op_of w == 12 then Imm Andi (rt_of w) (rs_of w) (imm_of w)
    else if op_of w == 13 then Imm Ori (rt_of w) (rs_of w) (imm_of w)
    else if op_of w == 14 then Imm Xori (rt_of w) (rs_of w) (imm_of w)
    else if op_of w == 15 then Lui (rt_of w) (imm_of w)
    else if op_of w == 17 then Foreign 1 w
    else if op_of w == 18 then Foreign 2 w
    else if op_of w == 19 then Foreign 3 w
    else Reserved w

-- operation codes from 32 on: loads and stores, those of coprocessors too
abbrev pub access : ℕ → Instr
access w =
    if op_of w == 32 then Memory Lb (rt_of w) (rs_of w) (imm_of w)
    else if op_of w == 33 then Memory Lh (rt_of w) (rs_of w) (imm_of w)
    else if op_of w == 34 then Memory Lwl (rt_of w) (rs_of w) (imm_of w)
    else if op_of w == 35 then Memory Lw (rt_of w) (rs_of w) (imm_of w)
    else if op_of w == 36 then Memory Lbu (rt_of w) (rs_of w) (imm_of w)
    else if op_of w == 37 then Memory Lhu (rt_of w) (rs_of w) (imm_of w)
    else if op_of w == 38 then Memory Lwr (rt_of w) (rs_of w) (imm_of w)
    else if op_of w == 40 then Memory Sb (rt_of w) (rs_of w) (imm_of w)
    else if op_of w == 41 then Memory Sh (rt_of w) (rs_of w) (imm_of w)
    else if op_of w == 42 then Memory Swl (rt_of w) (rs_of w) (imm_of w)
    else if op_of w == 43 then Memory Sw (rt_of w) (rs_of w) (imm_of w)
    else if op_of w == 46 then Memory Swr (rt_of w) (rs_of w) (imm_of w)
    else if op_of w == 49 then Foreign 1 w
    else if op_of w == 50 then Foreign 2 w
    else if op_of w == 51 then Foreign 3 w
    else if op_of w == 57 then Foreign 1 w
    else if op_of w == 58 then Foreign 2 w
    else if op_of w == 59 then Foreign 3 w
    else Reserved w

-- all words, by the operation code
abbrev pub decoded : ℕ → Instr
decoded w =
    if op_of w == 0 then special w
    else if op_of w == 1 then regimm w
    else if op_of w == 16 then coprocessor w
    else if nat_le 32 (op_of w) then access w
    else plain w

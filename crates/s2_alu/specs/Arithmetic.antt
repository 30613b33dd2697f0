-- The values of the rows that compute (MIPS R2000, instruction set), over whole and signed numbers. In a
-- row of three registers a is rs and b is rt.
use Rattle.std.specs.Prelude.{ℕ, ◌-◌, ◌*◌, ◌/◌, ◌%◌, ◌^◌, ◌==◌, Bool, not, pos, ◌+ℤ◌, ◌-ℤ◌, ◌*ℤ◌, int_lt, int_le, int_div, int_rem, nat_lt, bit_and, bit_or, bit_xor, Option, Some, if◌then◌else◌}
use Rattle.std.specs.Int.{int_div_euclid}
use Rattle.s2_base.specs.Words.{word_sum, sext16_of}
use Rattle.s2_alu.specs.Signed.{signed, modulo, word_of, checked}
use Rattle.s2_decode.specs.declared.instr.Op3.{Op3}
use Rattle.s2_decode.specs.declared.instr.Op3.TheVariants.{Add, Addu, Sub, Subu, And, Or, Xor, Nor, Slt, Sltu, Sllv, Srlv, Srav}
use Rattle.s2_decode.specs.declared.instr.OpS.{OpS}
use Rattle.s2_decode.specs.declared.instr.OpS.TheVariants.{Sll, Srl, Sra}
use Rattle.s2_decode.specs.declared.instr.OpI.{OpI}
use Rattle.s2_decode.specs.declared.instr.OpI.TheVariants.{Addi, Addiu, Slti, Sltiu, Andi, Ori, Xori}
use Rattle.s2_decode.specs.declared.instr.OpD.{OpD}
use Rattle.s2_decode.specs.declared.instr.OpD.TheVariants.{Mult, Multu, Div, Divu}
use Rattle.s2_decode.specs.declared.instr.OpB.{OpB}
use Rattle.s2_decode.specs.declared.instr.OpB.TheVariants.{Beq, Bne, Blez, Bgtz, Bltz, Bgez, Bltzal, Bgezal}

-- ADD and ADDI, SUB: the sum and the difference of signed numbers, or nothing on overflow
abbrev pub signed_sum : ℕ → ℕ → Option ℕ
signed_sum a b = checked (signed a +ℤ signed b)

abbrev pub signed_difference : ℕ → ℕ → Option ℕ
signed_difference a b = checked (signed a -ℤ signed b)

-- a shift: left and modulo 2 ^ 32; right and rounded down, as an unsigned and as a signed number
abbrev pub shifted : OpS → ℕ → ℕ → ℕ
shifted Sll v n = v * 2 ^ n % 2 ^ 32
shifted Srl v n = v / 2 ^ n
shifted Sra v n = word_of (int_div_euclid (signed v) (pos (2 ^ n)))

-- 1 for true and 0 for false
abbrev pub flag : Bool → ℕ
flag b = if b then 1 else 0

-- SLT, SLTI: below as signed numbers; SLTU, SLTIU: as unsigned ones
abbrev pub set_below : ℕ → ℕ → ℕ
set_below a b = flag (int_lt (signed a) (signed b))

abbrev pub set_below_unsigned : ℕ → ℕ → ℕ
set_below_unsigned a b = flag (nat_lt a b)

-- a row of three registers; ADD and SUB give nothing on overflow
abbrev pub three_value : Op3 → ℕ → ℕ → Option ℕ
three_value Add a b = signed_sum a b
three_value Addu a b = Some (word_sum a b)
three_value Sub a b = signed_difference a b
three_value Subu a b = Some (word_of (pos a -ℤ pos b))
three_value And a b = Some (bit_and a b)
three_value Or a b = Some (bit_or a b)
three_value Xor a b = Some (bit_xor a b)
three_value Nor a b = Some (2 ^ 32 - 1 - bit_or a b)
three_value Slt a b = Some (set_below a b)
three_value Sltu a b = Some (set_below_unsigned a b)
three_value Sllv a b = Some (shifted Sll b (a % 32))
three_value Srlv a b = Some (shifted Srl b (a % 32))
three_value Srav a b = Some (shifted Sra b (a % 32))

-- a row with an immediate, where a is rs: it is sign-extended by sums and comparisons and zero-extended
-- else; ADDI gives nothing on overflow
abbrev pub immediate_value : OpI → ℕ → ℕ → Option ℕ
immediate_value Addi a imm = signed_sum a (sext16_of imm)
immediate_value Addiu a imm = Some (word_sum a (sext16_of imm))
immediate_value Slti a imm = Some (set_below a (sext16_of imm))
immediate_value Sltiu a imm = Some (set_below_unsigned a (sext16_of imm))
immediate_value Andi a imm = Some (bit_and a imm)
immediate_value Ori a imm = Some (bit_or a imm)
immediate_value Xori a imm = Some (bit_xor a imm)

-- HI and LO
abbrev pub Pair : Type 0
Pair = ℕ × ℕ

-- a product of 64 bits, its upper half in HI
abbrev pub halves : ℕ → Pair
halves product = (product / 2 ^ 32, product % 2 ^ 32)

-- the remainder in HI and the quotient in LO; by zero (this project's own) HI is the dividend and LO is
-- all ones
abbrev pub divided : ℕ → ℕ → ℕ → ℕ → Pair
divided a b remainder quotient = if b == 0 then (a, 2 ^ 32 - 1) else (remainder, quotient)

-- MULT, MULTU, DIV, DIVU: a signed quotient is rounded toward zero, and its remainder has the sign of the
-- dividend; of -2 ^ 31 by -1 the quotient 2 ^ 31 is taken modulo 2 ^ 32 (this project's own)
abbrev pub product_or_quotient : OpD → ℕ → ℕ → Pair
product_or_quotient Mult a b = halves (modulo (signed a *ℤ signed b) 64)
product_or_quotient Multu a b = halves (a * b)
product_or_quotient Div a b = divided a b (word_of (int_rem (signed a) (signed b))) (word_of (int_div (signed a) (signed b)))
product_or_quotient Divu a b = divided a b (a % b) (a / b)

-- whether a branch is taken, where a is rs and b is rt
abbrev pub is_taken : OpB → ℕ → ℕ → Bool
is_taken Beq a b = a == b
is_taken Bne a b = not (a == b)
is_taken Blez a b = int_le (signed a) (pos 0)
is_taken Bgtz a b = int_lt (pos 0) (signed a)
is_taken Bltz a b = int_lt (signed a) (pos 0)
is_taken Bgez a b = int_le (pos 0) (signed a)
is_taken Bltzal a b = int_lt (signed a) (pos 0)
is_taken Bgezal a b = int_le (pos 0) (signed a)

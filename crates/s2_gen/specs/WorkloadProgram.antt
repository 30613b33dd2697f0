-- The program of a workload, as instructions: it computes numbers of a linear congruential generator.
--
-- Registers: 8 has the address of the devices and 9 that of global memory, 10 the low byte of the count and 11 the byte
-- to write, 16 the number, 17 how many numbers are still to come, 18 the generator's multiplier and 19 its increment.
use Rattle.std.specs.Prelude.{ℕ, ◌+◌, ◌*◌, ◌-◌, ◌/◌, ◌%◌, List, [], ◌∷◌, ◌++◌, false}
use Rattle.s2_decode.specs.declared.instr.Op3.TheVariants.{Addu}
use Rattle.s2_decode.specs.declared.instr.OpS.TheVariants.{Sll, Srl}
use Rattle.s2_decode.specs.declared.instr.OpI.TheVariants.{Addiu, Andi, Ori}
use Rattle.s2_decode.specs.declared.instr.OpD.TheVariants.{Multu}
use Rattle.s2_decode.specs.declared.instr.OpB.TheVariants.{Bne}
use Rattle.s2_decode.specs.declared.instr.OpM.TheVariants.{Sw}
use Rattle.s2_decode.specs.declared.instr.Instr.{Instr}
use Rattle.s2_decode.specs.declared.instr.Instr.TheVariants.{Three, Shift, Imm, Lui, MulDiv, MoveFrom, Branch, Memory}

-- the two halves of a word
abbrev pub upper : ℕ → ℕ
upper word = word / 65536

abbrev pub lower : ℕ → ℕ
lower word = word % 65536

-- how many numbers workload n computes
abbrev pub rounds : ℕ → ℕ
rounds n = 65536 + 256 * n

-- the offset of a branch, in words from its delay slot and in 16 bits, by the places of the branch and of its
-- target in the program
abbrev pub offset_between : ℕ → ℕ → ℕ
offset_between branch target = (65536 + target - (branch + 1)) % 65536

-- the instructions before the rounds, at the places 0 to 9: the addresses, the generator's multiplier 1664525 and
-- its increment 1013904223, the first number and the count
abbrev pub preparation : ℕ → List Instr
preparation n =
    Lui 8 0xBF00
    ∷ Lui 9 0x8400
    ∷ Lui 18 0x0019
    ∷ Imm Ori 18 18 0x660D
    ∷ Lui 19 0x3C6E
    ∷ Imm Ori 19 19 0xF35F
    ∷ Lui 16 0
    ∷ Imm Ori 16 16 n
    ∷ Lui 17 (upper (rounds n))
    ∷ Imm Ori 17 17 (lower (rounds n))
    ∷ []

-- a round, at the places 10 to 21: the next number goes to global memory and the count goes down; where the count's
-- low byte is 0, the number's top byte goes to the console; and then again, until the count is 0
abbrev pub round : List Instr
round =
    MulDiv Multu 16 18
    ∷ MoveFrom false 16
    ∷ Three Addu 16 16 19
    ∷ Memory Sw 16 9 0
    ∷ Imm Addiu 17 17 0xFFFF
    ∷ Imm Andi 10 17 0x00FF
    ∷ Branch Bne 10 0 (offset_between 16 20)
    ∷ Shift Sll 0 0 0
    ∷ Shift Srl 11 16 24
    ∷ Memory Sw 11 8 0
    ∷ Branch Bne 17 0 (offset_between 20 10)
    ∷ Shift Sll 0 0 0
    ∷ []

-- the halt, at the place 22: the last number is the halt value
abbrev pub ending : List Instr
ending = Memory Sw 16 8 20 ∷ []

-- all of it
abbrev pub program : ℕ → List Instr
program n = preparation n ++ (round ++ ending)

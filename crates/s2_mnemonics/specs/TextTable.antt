-- The lines of a program's text: each shape, and what its values say.
use Rattle.std.specs.Prelude.{ℕ, List, [], ◌∷◌, ◌++◌, codes, Bool, true, false}
use Rattle.arrayvec.specs.ArrayVec.{ArrayVec}
use Rattle.s2_text.specs.LineGrammar.{Value, num, name, number, hex, signed, label, Part, word, field}
use Rattle.s2_text.specs.LineTables.{LineRow}
use Rattle.s2_decode.specs.declared.instr.Op3.{Op3}
use Rattle.s2_decode.specs.declared.instr.Op3.TheVariants.{Add, Addu, Sub, Subu, And, Or, Xor, Nor, Slt, Sltu, Sllv, Srlv, Srav}
use Rattle.s2_decode.specs.declared.instr.OpS.{OpS}
use Rattle.s2_decode.specs.declared.instr.OpS.TheVariants.{Sll, Srl, Sra}
use Rattle.s2_decode.specs.declared.instr.OpI.{OpI}
use Rattle.s2_decode.specs.declared.instr.OpI.TheVariants.{Addi, Addiu, Slti, Sltiu, Andi, Ori, Xori}
use Rattle.s2_decode.specs.declared.instr.OpD.{OpD}
use Rattle.s2_decode.specs.declared.instr.OpD.TheVariants.{Mult, Multu, Div, Divu}
use Rattle.s2_decode.specs.declared.instr.OpB.{OpB}
use Rattle.s2_decode.specs.declared.instr.OpB.TheVariants.{Beq, Bne, Blez, Bgtz, Bltz, Bgez, Bltzal, Bgezal}
use Rattle.s2_decode.specs.declared.instr.OpM.{OpM}
use Rattle.s2_decode.specs.declared.instr.OpM.TheVariants.{Lb, Lh, Lwl, Lw, Lbu, Lhu, Lwr, Sb, Sh, Swl, Sw, Swr}
use Rattle.s2_decode.specs.declared.instr.Instr.{Instr}
use Rattle.s2_decode.specs.declared.instr.Instr.TheVariants.{Three, Shift, Imm, Lui, MulDiv, MoveFrom, MoveTo, JumpReg, JumpLinkReg, Memory, Syscall, Break, Mfc0, Mtc0, Tlbr, Tlbwi, Tlbwr, Tlbp, Rfe}
use Rattle.s2_mnemonics.specs.declared.line.Target.TheVariants.{Address, Label as Named}
use Rattle.s2_mnemonics.specs.declared.line.Line.{Line}
use Rattle.s2_mnemonics.specs.declared.line.Line.TheVariants.{Org, Entry, Word, Label, Plain, Jump, Branch}

abbrev pub register : Part
register = field (number 0 31)

abbrev pub comma : Part
comma = word (codes ", r")

abbrev pub next : Part
next = word (codes ", ")

-- ---- forms, by how a line begins

abbrev pub org_line : List Part
org_line = word (codes ".org 0x") ∷ field (hex 8) ∷ []

abbrev pub entry_line : List Part
entry_line = word (codes ".entry 0x") ∷ field (hex 8) ∷ []

abbrev pub word_line : List Part
word_line = word (codes ".word 0x") ∷ field (hex 8) ∷ []

abbrev pub label_line : List Part
label_line = field label ∷ word (codes ":") ∷ []

abbrev pub bare_line : List ℕ → List Part
bare_line start = word start ∷ []

abbrev pub one_line : List ℕ → List Part
one_line start = word start ∷ register ∷ []

abbrev pub two_line : List ℕ → List Part
two_line start = word start ∷ register ∷ comma ∷ register ∷ []

abbrev pub three_line : List ℕ → List Part
three_line start = word start ∷ register ∷ comma ∷ register ∷ comma ∷ register ∷ []

abbrev pub shift_line : List ℕ → List Part
shift_line start = word start ∷ register ∷ comma ∷ register ∷ next ∷ field (number 0 31) ∷ []

abbrev pub signed_line : List ℕ → List Part
signed_line start = word start ∷ register ∷ comma ∷ register ∷ next ∷ field signed ∷ []

abbrev pub unsigned_line : List ℕ → List Part
unsigned_line start = word start ∷ register ∷ comma ∷ register ∷ next ∷ field (number 0 65535) ∷ []

abbrev pub lui_line : List Part
lui_line = word (codes "lui r") ∷ register ∷ next ∷ field (number 0 65535) ∷ []

abbrev pub number_line : List ℕ → List Part
number_line start = word start ∷ register ∷ next ∷ field (number 0 31) ∷ []

abbrev pub memory_line : List ℕ → List Part
memory_line start = word start ∷ register ∷ next ∷ field signed ∷ word (codes "(r") ∷ register ∷ word (codes ")") ∷ []

-- a target that is an address, and one that is a label
abbrev pub there : List Part
there = word (codes "0x") ∷ field (hex 8) ∷ []

abbrev pub there_line : List ℕ → List Part
there_line start = word start ∷ there

abbrev pub named_line : List ℕ → List Part
named_line start = word start ∷ field label ∷ []

abbrev pub one_there_line : List ℕ → List Part
one_there_line start = word start ∷ register ∷ next ∷ there

abbrev pub one_named_line : List ℕ → List Part
one_named_line start = word start ∷ register ∷ next ∷ field label ∷ []

abbrev pub two_there_line : List ℕ → List Part
two_there_line start = word start ∷ register ∷ comma ∷ register ∷ next ∷ there

abbrev pub two_named_line : List ℕ → List Part
two_named_line start = word start ∷ register ∷ comma ∷ register ∷ next ∷ field label ∷ []

-- ---- what the values say (of other values nothing is asked)

abbrev pub as_name : List ℕ → ArrayVec ℕ
as_name l = record { items = l }

abbrev pub says_org : List Value → Line
says_org (num x ∷ vs) = Org x
says_org _ = Org 0

abbrev pub says_entry : List Value → Line
says_entry (num x ∷ vs) = Entry x
says_entry _ = Org 0

abbrev pub says_word : List Value → Line
says_word (num x ∷ vs) = Word x
says_word _ = Org 0

abbrev pub says_label : List Value → Line
says_label (name l ∷ vs) = Label (as_name l)
says_label _ = Org 0

abbrev pub says_three : Op3 → List Value → Line
says_three op (num d ∷ num s ∷ num t ∷ vs) = Plain (Three op d s t)
says_three op _ = Org 0

abbrev pub says_turned : Op3 → List Value → Line
says_turned op (num d ∷ num t ∷ num s ∷ vs) = Plain (Three op d s t)
says_turned op _ = Org 0

abbrev pub says_shift : OpS → List Value → Line
says_shift op (num d ∷ num t ∷ num a ∷ vs) = Plain (Shift op d t a)
says_shift op _ = Org 0

abbrev pub says_immediate : OpI → List Value → Line
says_immediate op (num t ∷ num s ∷ num v ∷ vs) = Plain (Imm op t s v)
says_immediate op _ = Org 0

abbrev pub says_lui : List Value → Line
says_lui (num t ∷ num v ∷ vs) = Plain (Lui t v)
says_lui _ = Org 0

abbrev pub says_division : OpD → List Value → Line
says_division op (num s ∷ num t ∷ vs) = Plain (MulDiv op s t)
says_division op _ = Org 0

abbrev pub says_from : Bool → List Value → Line
says_from hi (num d ∷ vs) = Plain (MoveFrom hi d)
says_from hi _ = Org 0

abbrev pub says_to : Bool → List Value → Line
says_to hi (num s ∷ vs) = Plain (MoveTo hi s)
says_to hi _ = Org 0

abbrev pub says_jump_there : Bool → List Value → Line
says_jump_there link (num x ∷ vs) = Jump link (Address x)
says_jump_there link _ = Org 0

abbrev pub says_jump_named : Bool → List Value → Line
says_jump_named link (name l ∷ vs) = Jump link (Named (as_name l))
says_jump_named link _ = Org 0

abbrev pub says_jr : List Value → Line
says_jr (num s ∷ vs) = Plain (JumpReg s)
says_jr _ = Org 0

abbrev pub says_jalr : List Value → Line
says_jalr (num d ∷ num s ∷ vs) = Plain (JumpLinkReg d s)
says_jalr _ = Org 0

abbrev pub says_two_there : OpB → List Value → Line
says_two_there op (num s ∷ num t ∷ num x ∷ vs) = Branch op s t (Address x)
says_two_there op _ = Org 0

abbrev pub says_two_named : OpB → List Value → Line
says_two_named op (num s ∷ num t ∷ name l ∷ vs) = Branch op s t (Named (as_name l))
says_two_named op _ = Org 0

abbrev pub says_one_there : OpB → List Value → Line
says_one_there op (num s ∷ num x ∷ vs) = Branch op s 0 (Address x)
says_one_there op _ = Org 0

abbrev pub says_one_named : OpB → List Value → Line
says_one_named op (num s ∷ name l ∷ vs) = Branch op s 0 (Named (as_name l))
says_one_named op _ = Org 0

abbrev pub says_memory : OpM → List Value → Line
says_memory op (num t ∷ num v ∷ num b ∷ vs) = Plain (Memory op t b v)
says_memory op _ = Org 0

abbrev pub says_mfc0 : List Value → Line
says_mfc0 (num t ∷ num n ∷ vs) = Plain (Mfc0 t n)
says_mfc0 _ = Org 0

abbrev pub says_mtc0 : List Value → Line
says_mtc0 (num t ∷ num n ∷ vs) = Plain (Mtc0 t n)
says_mtc0 _ = Org 0

abbrev pub says_named : Instr → List Value → Line
says_named i vs = Plain i

-- ---- the table

abbrev pub line_row : List Part → (List Value → Line) → LineRow Line
line_row ps said = record { form = ps; says = said }

abbrev pub direct_rows : List (LineRow Line)
direct_rows =
    line_row org_line says_org
    ∷ line_row entry_line says_entry
    ∷ line_row word_line says_word
    ∷ line_row label_line says_label ∷ []

abbrev pub three_rows : List (LineRow Line)
three_rows =
    line_row (three_line (codes "add r")) (says_three Add)
    ∷ line_row (three_line (codes "addu r")) (says_three Addu)
    ∷ line_row (three_line (codes "sub r")) (says_three Sub)
    ∷ line_row (three_line (codes "subu r")) (says_three Subu)
    ∷ line_row (three_line (codes "and r")) (says_three And)
    ∷ line_row (three_line (codes "or r")) (says_three Or)
    ∷ line_row (three_line (codes "xor r")) (says_three Xor)
    ∷ line_row (three_line (codes "nor r")) (says_three Nor)
    ∷ line_row (three_line (codes "slt r")) (says_three Slt)
    ∷ line_row (three_line (codes "sltu r")) (says_three Sltu) ∷ []

abbrev pub variable_shift_rows : List (LineRow Line)
variable_shift_rows =
    line_row (three_line (codes "sllv r")) (says_turned Sllv)
    ∷ line_row (three_line (codes "srlv r")) (says_turned Srlv)
    ∷ line_row (three_line (codes "srav r")) (says_turned Srav) ∷ []

abbrev pub shift_rows : List (LineRow Line)
shift_rows =
    line_row (shift_line (codes "sll r")) (says_shift Sll)
    ∷ line_row (shift_line (codes "srl r")) (says_shift Srl)
    ∷ line_row (shift_line (codes "sra r")) (says_shift Sra) ∷ []

abbrev pub immediate_rows : List (LineRow Line)
immediate_rows =
    line_row (signed_line (codes "addi r")) (says_immediate Addi)
    ∷ line_row (signed_line (codes "addiu r")) (says_immediate Addiu)
    ∷ line_row (signed_line (codes "slti r")) (says_immediate Slti)
    ∷ line_row (signed_line (codes "sltiu r")) (says_immediate Sltiu)
    ∷ line_row (unsigned_line (codes "andi r")) (says_immediate Andi)
    ∷ line_row (unsigned_line (codes "ori r")) (says_immediate Ori)
    ∷ line_row (unsigned_line (codes "xori r")) (says_immediate Xori)
    ∷ line_row lui_line says_lui ∷ []

abbrev pub division_rows : List (LineRow Line)
division_rows =
    line_row (two_line (codes "mult r")) (says_division Mult)
    ∷ line_row (two_line (codes "multu r")) (says_division Multu)
    ∷ line_row (two_line (codes "div r")) (says_division Div)
    ∷ line_row (two_line (codes "divu r")) (says_division Divu) ∷ []

abbrev pub move_rows : List (LineRow Line)
move_rows =
    line_row (one_line (codes "mfhi r")) (says_from true)
    ∷ line_row (one_line (codes "mflo r")) (says_from false)
    ∷ line_row (one_line (codes "mthi r")) (says_to true)
    ∷ line_row (one_line (codes "mtlo r")) (says_to false) ∷ []

abbrev pub jump_rows : List (LineRow Line)
jump_rows =
    line_row (there_line (codes "j ")) (says_jump_there false)
    ∷ line_row (named_line (codes "j ")) (says_jump_named false)
    ∷ line_row (there_line (codes "jal ")) (says_jump_there true)
    ∷ line_row (named_line (codes "jal ")) (says_jump_named true)
    ∷ line_row (one_line (codes "jr r")) says_jr
    ∷ line_row (two_line (codes "jalr r")) says_jalr ∷ []

abbrev pub branch_on_two_rows : List (LineRow Line)
branch_on_two_rows =
    line_row (two_there_line (codes "beq r")) (says_two_there Beq)
    ∷ line_row (two_named_line (codes "beq r")) (says_two_named Beq)
    ∷ line_row (two_there_line (codes "bne r")) (says_two_there Bne)
    ∷ line_row (two_named_line (codes "bne r")) (says_two_named Bne) ∷ []

abbrev pub branch_on_one_rows : List (LineRow Line)
branch_on_one_rows =
    line_row (one_there_line (codes "blez r")) (says_one_there Blez)
    ∷ line_row (one_named_line (codes "blez r")) (says_one_named Blez)
    ∷ line_row (one_there_line (codes "bgtz r")) (says_one_there Bgtz)
    ∷ line_row (one_named_line (codes "bgtz r")) (says_one_named Bgtz)
    ∷ line_row (one_there_line (codes "bltz r")) (says_one_there Bltz)
    ∷ line_row (one_named_line (codes "bltz r")) (says_one_named Bltz)
    ∷ line_row (one_there_line (codes "bgez r")) (says_one_there Bgez)
    ∷ line_row (one_named_line (codes "bgez r")) (says_one_named Bgez)
    ∷ line_row (one_there_line (codes "bltzal r")) (says_one_there Bltzal)
    ∷ line_row (one_named_line (codes "bltzal r")) (says_one_named Bltzal)
    ∷ line_row (one_there_line (codes "bgezal r")) (says_one_there Bgezal)
    ∷ line_row (one_named_line (codes "bgezal r")) (says_one_named Bgezal) ∷ []

abbrev pub memory_rows : List (LineRow Line)
memory_rows =
    line_row (memory_line (codes "lb r")) (says_memory Lb)
    ∷ line_row (memory_line (codes "lh r")) (says_memory Lh)
    ∷ line_row (memory_line (codes "lwl r")) (says_memory Lwl)
    ∷ line_row (memory_line (codes "lw r")) (says_memory Lw)
    ∷ line_row (memory_line (codes "lbu r")) (says_memory Lbu)
    ∷ line_row (memory_line (codes "lhu r")) (says_memory Lhu)
    ∷ line_row (memory_line (codes "lwr r")) (says_memory Lwr)
    ∷ line_row (memory_line (codes "sb r")) (says_memory Sb)
    ∷ line_row (memory_line (codes "sh r")) (says_memory Sh)
    ∷ line_row (memory_line (codes "swl r")) (says_memory Swl)
    ∷ line_row (memory_line (codes "sw r")) (says_memory Sw)
    ∷ line_row (memory_line (codes "swr r")) (says_memory Swr) ∷ []

abbrev pub coprocessor_rows : List (LineRow Line)
coprocessor_rows =
    line_row (number_line (codes "mfc0 r")) says_mfc0
    ∷ line_row (number_line (codes "mtc0 r")) says_mtc0 ∷ []

abbrev pub named_rows : List (LineRow Line)
named_rows =
    line_row (bare_line (codes "syscall")) (says_named Syscall)
    ∷ line_row (bare_line (codes "break")) (says_named Break)
    ∷ line_row (bare_line (codes "tlbr")) (says_named Tlbr)
    ∷ line_row (bare_line (codes "tlbwi")) (says_named Tlbwi)
    ∷ line_row (bare_line (codes "tlbwr")) (says_named Tlbwr)
    ∷ line_row (bare_line (codes "tlbp")) (says_named Tlbp)
    ∷ line_row (bare_line (codes "rfe")) (says_named Rfe) ∷ []

abbrev pub text_rows : List (LineRow Line)
text_rows =
    direct_rows
    ++ three_rows
    ++ variable_shift_rows
    ++ shift_rows
    ++ immediate_rows
    ++ division_rows
    ++ move_rows
    ++ jump_rows
    ++ branch_on_two_rows
    ++ branch_on_one_rows
    ++ memory_rows
    ++ coprocessor_rows
    ++ named_rows

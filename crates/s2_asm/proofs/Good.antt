-- The numbers of a line of the table fit their fields.
use Rattle.std.specs.Prelude.{codes}
use Rattle.std.proofs.Common.{ℕ, ◌<◌, ◌≤◌, Bool, true, false, List, [], ◌∷◌, ◌++◌, refl, sym, subst, arith, inl, inr}
use Rattle.s2_text.specs.LineGrammar.{Value, num, name, Fits}
use Rattle.s2_text.specs.LineTables.{LineRow, SaysIn}
use Rattle.s2_decode.specs.Properness.{IsBranchRegister}
use Rattle.s2_decode.specs.declared.instr.Op3.{Op3}
use Rattle.s2_decode.specs.declared.instr.Op3.TheVariants.{Add, Addu, Sub, Subu, And, Or, Xor, Nor, Slt, Sltu, Sllv, Srlv, Srav}
use Rattle.s2_decode.specs.declared.instr.OpS.{OpS}
use Rattle.s2_decode.specs.declared.instr.OpS.TheVariants.{Sll, Srl, Sra}
use Rattle.s2_decode.specs.declared.instr.OpI.{OpI}
use Rattle.s2_decode.specs.declared.instr.OpI.TheVariants.{Addi, Addiu, Slti, Sltiu, Andi, Ori, Xori}
use Rattle.s2_decode.specs.declared.instr.OpD.{OpD}
use Rattle.s2_decode.specs.declared.instr.OpD.TheVariants.{Mult, Multu, Div, Divu}
use Rattle.s2_decode.specs.declared.instr.OpB.{OpB}
use Rattle.s2_decode.specs.declared.instr.OpB.TheVariants.{Beq, Bne, Blez, Bgtz, Bltz, Bgez, Bltzal, Bgezal}
use Rattle.s2_decode.specs.declared.instr.OpM.{OpM}
use Rattle.s2_decode.specs.declared.instr.OpM.TheVariants.{Lb, Lh, Lwl, Lw, Lbu, Lhu, Lwr, Sb, Sh, Swl, Sw, Swr}
use Rattle.s2_mnemonics.specs.declared.line.Line.{Line}
use Rattle.s2_mnemonics.specs.TextTable.{text_rows, direct_rows, three_rows, variable_shift_rows, shift_rows, immediate_rows, division_rows, move_rows, jump_rows, branch_on_two_rows, branch_on_one_rows, memory_rows, coprocessor_rows, named_rows, entry_line, label_line, lui_line, memory_line, named_line, number_line, one_line, one_named_line, one_there_line, org_line, shift_line, signed_line, there_line, three_line, two_line, two_named_line, two_there_line, unsigned_line, word_line, says_division, says_entry, says_from, says_immediate, says_jalr, says_jr, says_jump_named, says_jump_there, says_label, says_lui, says_memory, says_mfc0, says_mtc0, says_one_named, says_one_there, says_org, says_shift, says_three, says_to, says_turned, says_two_named, says_two_there, says_word}
use Rattle.s2_asm.specs.LineFaults.{IsGood}

abbrev AllGood : List (LineRow Line) → Type 0
AllGood [] = Unit {0}
AllGood (row ∷ rows) = ((vs : List Value) → Fits row.form vs → IsGood (row.says vs)) × AllGood rows

says_good : (rows : List (LineRow Line)) (x : Line) (line : List ℕ) → AllGood rows → SaysIn rows x line → IsGood x
says_good [] x line all s = absurd s
says_good (row ∷ rows) x line all (inl s) = subst IsGood (sym s.3) (all.0 s.0 s.1)
says_good (row ∷ rows) x line all (inr s) = says_good rows x line all.1 s

below : (r : ℕ) → (0 ≤ r) × (r ≤ 31) → r < 32
below r h = (let l = h.1 in omega arith)

org_good : (vs : List Value) → Fits (org_line) vs → IsGood (says_org vs)
org_good (num x ∷ vs) h = tt
org_good _ h = tt

entry_good : (vs : List Value) → Fits (entry_line) vs → IsGood (says_entry vs)
entry_good (num x ∷ vs) h = tt
entry_good _ h = tt

word_good : (vs : List Value) → Fits (word_line) vs → IsGood (says_word vs)
word_good (num x ∷ vs) h = tt
word_good _ h = tt

label_good : (vs : List Value) → Fits (label_line) vs → IsGood (says_label vs)
label_good (name l ∷ vs) h = tt
label_good _ h = tt

three_good : (start : List ℕ) (op : Op3) (vs : List Value) → Fits (three_line start) vs → IsGood (says_three op vs)
three_good start op (num d ∷ num s ∷ num t ∷ vs) h = (below _ h.0, below _ h.1.0, below _ h.1.1.0)
three_good start op _ h = tt

turned_good : (start : List ℕ) (op : Op3) (vs : List Value) → Fits (three_line start) vs → IsGood (says_turned op vs)
turned_good start op (num d ∷ num t ∷ num s ∷ vs) h = (below _ h.0, below _ h.1.1.0, below _ h.1.0)
turned_good start op _ h = tt

shift_good : (start : List ℕ) (op : OpS) (vs : List Value) → Fits (shift_line start) vs → IsGood (says_shift op vs)
shift_good start op (num d ∷ num t ∷ num a ∷ vs) h = (below _ h.0, below _ h.1.0, below _ h.1.1.0)
shift_good start op _ h = tt

signed_good : (start : List ℕ) (op : OpI) (vs : List Value) → Fits (signed_line start) vs → IsGood (says_immediate op vs)
signed_good start op (num t ∷ num s ∷ num v ∷ vs) h = (below _ h.0, below _ h.1.0)
signed_good start op _ h = tt

unsigned_good : (start : List ℕ) (op : OpI) (vs : List Value) → Fits (unsigned_line start) vs → IsGood (says_immediate op vs)
unsigned_good start op (num t ∷ num s ∷ num v ∷ vs) h = (below _ h.0, below _ h.1.0)
unsigned_good start op _ h = tt

lui_good : (vs : List Value) → Fits (lui_line) vs → IsGood (says_lui vs)
lui_good (num t ∷ num v ∷ vs) h = below _ h.0
lui_good _ h = tt

division_good : (start : List ℕ) (op : OpD) (vs : List Value) → Fits (two_line start) vs → IsGood (says_division op vs)
division_good start op (num s ∷ num t ∷ vs) h = (below _ h.0, below _ h.1.0)
division_good start op _ h = tt

from_good : (start : List ℕ) (hi : Bool) (vs : List Value) → Fits (one_line start) vs → IsGood (says_from hi vs)
from_good start hi (num d ∷ vs) h = below _ h.0
from_good start hi _ h = tt

to_good : (start : List ℕ) (hi : Bool) (vs : List Value) → Fits (one_line start) vs → IsGood (says_to hi vs)
to_good start hi (num s ∷ vs) h = below _ h.0
to_good start hi _ h = tt

jump_there_good : (start : List ℕ) (link : Bool) (vs : List Value) → Fits (there_line start) vs → IsGood (says_jump_there link vs)
jump_there_good start link (num x ∷ vs) h = tt
jump_there_good start link _ h = tt

jump_named_good : (start : List ℕ) (link : Bool) (vs : List Value) → Fits (named_line start) vs → IsGood (says_jump_named link vs)
jump_named_good start link (name l ∷ vs) h = tt
jump_named_good start link _ h = tt

jr_good : (start : List ℕ) (vs : List Value) → Fits (one_line start) vs → IsGood (says_jr vs)
jr_good start (num s ∷ vs) h = below _ h.0
jr_good start _ h = tt

jalr_good : (start : List ℕ) (vs : List Value) → Fits (two_line start) vs → IsGood (says_jalr vs)
jalr_good start (num d ∷ num s ∷ vs) h = (below _ h.0, below _ h.1.0)
jalr_good start _ h = tt

two_there_good : (start : List ℕ) (op : OpB) (reg : (t : ℕ) → t < 32 → IsBranchRegister op t) (vs : List Value) → Fits (two_there_line start) vs → IsGood (says_two_there op vs)
two_there_good start op reg (num s ∷ num t ∷ num x ∷ vs) h = (below _ h.0, reg t (below _ h.1.0))
two_there_good start op reg _ h = tt

two_named_good : (start : List ℕ) (op : OpB) (reg : (t : ℕ) → t < 32 → IsBranchRegister op t) (vs : List Value) → Fits (two_named_line start) vs → IsGood (says_two_named op vs)
two_named_good start op reg (num s ∷ num t ∷ name l ∷ vs) h = (below _ h.0, reg t (below _ h.1.0))
two_named_good start op reg _ h = tt

one_there_good : (start : List ℕ) (op : OpB) (reg : IsBranchRegister op 0) (vs : List Value) → Fits (one_there_line start) vs → IsGood (says_one_there op vs)
one_there_good start op reg (num s ∷ num x ∷ vs) h = (below _ h.0, reg)
one_there_good start op reg _ h = tt

one_named_good : (start : List ℕ) (op : OpB) (reg : IsBranchRegister op 0) (vs : List Value) → Fits (one_named_line start) vs → IsGood (says_one_named op vs)
one_named_good start op reg (num s ∷ name l ∷ vs) h = (below _ h.0, reg)
one_named_good start op reg _ h = tt

memory_good : (start : List ℕ) (op : OpM) (vs : List Value) → Fits (memory_line start) vs → IsGood (says_memory op vs)
memory_good start op (num t ∷ num v ∷ num b ∷ vs) h = (below _ h.0, below _ h.1.1.0)
memory_good start op _ h = tt

mfc0_good : (start : List ℕ) (vs : List Value) → Fits (number_line start) vs → IsGood (says_mfc0 vs)
mfc0_good start (num t ∷ num n ∷ vs) h = (below _ h.0, below _ h.1.0)
mfc0_good start _ h = tt

mtc0_good : (start : List ℕ) (vs : List Value) → Fits (number_line start) vs → IsGood (says_mtc0 vs)
mtc0_good start (num t ∷ num n ∷ vs) h = (below _ h.0, below _ h.1.0)
mtc0_good start _ h = tt

direct_all : AllGood direct_rows
direct_all = (org_good, (entry_good, (word_good, (label_good, tt))))

three_all : AllGood three_rows
three_all = (three_good (codes "add r") Add, (three_good (codes "addu r") Addu, (three_good (codes "sub r") Sub, (three_good (codes "subu r") Subu, (three_good (codes "and r") And, (three_good (codes "or r") Or, (three_good (codes "xor r") Xor, (three_good (codes "nor r") Nor, (three_good (codes "slt r") Slt, (three_good (codes "sltu r") Sltu, tt))))))))))

variable_shift_all : AllGood variable_shift_rows
variable_shift_all = (turned_good (codes "sllv r") Sllv, (turned_good (codes "srlv r") Srlv, (turned_good (codes "srav r") Srav, tt)))

shift_all : AllGood shift_rows
shift_all = (shift_good (codes "sll r") Sll, (shift_good (codes "srl r") Srl, (shift_good (codes "sra r") Sra, tt)))

immediate_all : AllGood immediate_rows
immediate_all = (signed_good (codes "addi r") Addi, (signed_good (codes "addiu r") Addiu, (signed_good (codes "slti r") Slti, (signed_good (codes "sltiu r") Sltiu, (unsigned_good (codes "andi r") Andi, (unsigned_good (codes "ori r") Ori, (unsigned_good (codes "xori r") Xori, (lui_good, tt))))))))

division_all : AllGood division_rows
division_all = (division_good (codes "mult r") Mult, (division_good (codes "multu r") Multu, (division_good (codes "div r") Div, (division_good (codes "divu r") Divu, tt))))

move_all : AllGood move_rows
move_all = (from_good (codes "mfhi r") true, (from_good (codes "mflo r") false, (to_good (codes "mthi r") true, (to_good (codes "mtlo r") false, tt))))

jump_all : AllGood jump_rows
jump_all = (jump_there_good (codes "j ") false, (jump_named_good (codes "j ") false, (jump_there_good (codes "jal ") true, (jump_named_good (codes "jal ") true, (jr_good (codes "jr r"), (jalr_good (codes "jalr r"), tt))))))

branch_on_two_all : AllGood branch_on_two_rows
branch_on_two_all = (two_there_good (codes "beq r") Beq (λ t h. h), (two_named_good (codes "beq r") Beq (λ t h. h), (two_there_good (codes "bne r") Bne (λ t h. h), (two_named_good (codes "bne r") Bne (λ t h. h), tt))))

branch_on_one_all : AllGood branch_on_one_rows
branch_on_one_all = (one_there_good (codes "blez r") Blez refl, (one_named_good (codes "blez r") Blez refl, (one_there_good (codes "bgtz r") Bgtz refl, (one_named_good (codes "bgtz r") Bgtz refl, (one_there_good (codes "bltz r") Bltz refl, (one_named_good (codes "bltz r") Bltz refl, (one_there_good (codes "bgez r") Bgez refl, (one_named_good (codes "bgez r") Bgez refl, (one_there_good (codes "bltzal r") Bltzal refl, (one_named_good (codes "bltzal r") Bltzal refl, (one_there_good (codes "bgezal r") Bgezal refl, (one_named_good (codes "bgezal r") Bgezal refl, tt))))))))))))

memory_all : AllGood memory_rows
memory_all = (memory_good (codes "lb r") Lb, (memory_good (codes "lh r") Lh, (memory_good (codes "lwl r") Lwl, (memory_good (codes "lw r") Lw, (memory_good (codes "lbu r") Lbu, (memory_good (codes "lhu r") Lhu, (memory_good (codes "lwr r") Lwr, (memory_good (codes "sb r") Sb, (memory_good (codes "sh r") Sh, (memory_good (codes "swl r") Swl, (memory_good (codes "sw r") Sw, (memory_good (codes "swr r") Swr, tt))))))))))))

coprocessor_all : AllGood coprocessor_rows
coprocessor_all = (mfc0_good (codes "mfc0 r"), (mtc0_good (codes "mtc0 r"), tt))

named_all : AllGood named_rows
named_all = ((λ vs h. tt), ((λ vs h. tt), ((λ vs h. tt), ((λ vs h. tt), ((λ vs h. tt), ((λ vs h. tt), ((λ vs h. tt), tt)))))))

all_append : (a b : List (LineRow Line)) → AllGood a → AllGood b → AllGood (a ++ b)
all_append [] b x y = y
all_append (row ∷ a) b x y = (x.0, all_append a b x.1 y)

pub line_good : (x : Line) (line : List ℕ) → SaysIn text_rows x line → IsGood x
line_good x line s = says_good text_rows x line (all_append direct_rows (three_rows ++ variable_shift_rows ++ shift_rows ++ immediate_rows ++ division_rows ++ move_rows ++ jump_rows ++ branch_on_two_rows ++ branch_on_one_rows ++ memory_rows ++ coprocessor_rows ++ named_rows) direct_all (all_append three_rows (variable_shift_rows ++ shift_rows ++ immediate_rows ++ division_rows ++ move_rows ++ jump_rows ++ branch_on_two_rows ++ branch_on_one_rows ++ memory_rows ++ coprocessor_rows ++ named_rows) three_all (all_append variable_shift_rows (shift_rows ++ immediate_rows ++ division_rows ++ move_rows ++ jump_rows ++ branch_on_two_rows ++ branch_on_one_rows ++ memory_rows ++ coprocessor_rows ++ named_rows) variable_shift_all (all_append shift_rows (immediate_rows ++ division_rows ++ move_rows ++ jump_rows ++ branch_on_two_rows ++ branch_on_one_rows ++ memory_rows ++ coprocessor_rows ++ named_rows) shift_all (all_append immediate_rows (division_rows ++ move_rows ++ jump_rows ++ branch_on_two_rows ++ branch_on_one_rows ++ memory_rows ++ coprocessor_rows ++ named_rows) immediate_all (all_append division_rows (move_rows ++ jump_rows ++ branch_on_two_rows ++ branch_on_one_rows ++ memory_rows ++ coprocessor_rows ++ named_rows) division_all (all_append move_rows (jump_rows ++ branch_on_two_rows ++ branch_on_one_rows ++ memory_rows ++ coprocessor_rows ++ named_rows) move_all (all_append jump_rows (branch_on_two_rows ++ branch_on_one_rows ++ memory_rows ++ coprocessor_rows ++ named_rows) jump_all (all_append branch_on_two_rows (branch_on_one_rows ++ memory_rows ++ coprocessor_rows ++ named_rows) branch_on_two_all (all_append branch_on_one_rows (memory_rows ++ coprocessor_rows ++ named_rows) branch_on_one_all (all_append memory_rows (coprocessor_rows ++ named_rows) memory_all (all_append coprocessor_rows (named_rows) coprocessor_all (named_all))))))))))))) s

-- Each proper line stands in the table: its row, by the kind of line.
use Rattle.std.proofs.Common.{ℕ, Bool, true, false, List, [], ◌∷◌, ◌++◌, refl, ap, inl, inr}
use Rattle.s2_text.proofs.TableRows.{says_left, says_right}
use Rattle.s2_text.specs.LineGrammar.{num, name, Fits}
use Rattle.s2_text.specs.LineTables.{SaysIn}
use Rattle.s2_decode.specs.declared.instr.Op3.{Op3}
use Rattle.s2_decode.specs.declared.instr.Op3.TheVariants.{Add, Addu, Sub, Subu, And, Or, Xor, Nor, Slt, Sltu, Sllv, Srlv, Srav}
use Rattle.s2_decode.specs.declared.instr.OpS.{OpS}
use Rattle.s2_decode.specs.declared.instr.OpS.TheVariants.{Sll, Srl, Sra}
use Rattle.s2_decode.specs.declared.instr.OpI.{OpI}
use Rattle.s2_decode.specs.declared.instr.OpI.TheVariants.{Addi, Addiu, Slti, Sltiu, Andi, Ori, Xori}
use Rattle.s2_decode.specs.declared.instr.OpD.{OpD}
use Rattle.s2_decode.specs.declared.instr.OpD.TheVariants.{Mult, Multu, Div, Divu}
use Rattle.s2_decode.specs.declared.instr.OpB.{OpB}
use Rattle.s2_decode.specs.declared.instr.OpB.TheVariants.{Beq, Bne, Blez, Bgtz, Bltz, Bgez, Bltzal, Bgezal}
use Rattle.s2_decode.specs.declared.instr.OpM.{OpM}
use Rattle.s2_decode.specs.declared.instr.OpM.TheVariants.{Lb, Lh, Lwl, Lw, Lbu, Lhu, Lwr, Sb, Sh, Swl, Sw, Swr}
use Rattle.s2_decode.specs.declared.instr.Instr.{Instr}
use Rattle.s2_decode.specs.declared.instr.Instr.TheVariants.{Three, Shift, Imm, Lui, MulDiv, MoveFrom, MoveTo, Jump as JumpWord, JumpReg, JumpLinkReg, Branch as BranchWord, Memory, Syscall, Break, Mfc0, Mtc0, Tlbr, Tlbwi, Tlbwr, Tlbp, Rfe, Foreign, Reserved}
use Rattle.s2_mnemonics.specs.declared.line.Target.{Target}
use Rattle.s2_mnemonics.specs.declared.line.Target.TheVariants.{Address, Label as Named}
use Rattle.s2_mnemonics.specs.declared.line.Line.{Line}
use Rattle.s2_mnemonics.specs.declared.line.Line.TheVariants.{Org, Entry, Word, Label, Plain, Jump, Branch}
use Rattle.s2_mnemonics.specs.TextTable.{direct_rows, three_rows, variable_shift_rows, shift_rows, immediate_rows, division_rows, move_rows, jump_rows, branch_on_two_rows, branch_on_one_rows, memory_rows, coprocessor_rows, named_rows, text_rows}
use Rattle.s2_mnemonics.specs.LineWords.{line_text, form_of, values_of, IsProperLine}

abbrev InTable : Line → Type 0
InTable l = SaysIn text_rows l (line_text l)

in_direct : (l : Line) (line : List ℕ) → SaysIn direct_rows l line → SaysIn text_rows l line
in_direct l line s = says_left direct_rows (three_rows ++ variable_shift_rows ++ shift_rows ++ immediate_rows ++ division_rows ++ move_rows ++ jump_rows ++ branch_on_two_rows ++ branch_on_one_rows ++ memory_rows ++ coprocessor_rows ++ named_rows) l line s

in_three : (l : Line) (line : List ℕ) → SaysIn three_rows l line → SaysIn text_rows l line
in_three l line s = says_right direct_rows (three_rows ++ variable_shift_rows ++ shift_rows ++ immediate_rows ++ division_rows ++ move_rows ++ jump_rows ++ branch_on_two_rows ++ branch_on_one_rows ++ memory_rows ++ coprocessor_rows ++ named_rows) l line (says_left three_rows (variable_shift_rows ++ shift_rows ++ immediate_rows ++ division_rows ++ move_rows ++ jump_rows ++ branch_on_two_rows ++ branch_on_one_rows ++ memory_rows ++ coprocessor_rows ++ named_rows) l line s)

in_variable_shift : (l : Line) (line : List ℕ) → SaysIn variable_shift_rows l line → SaysIn text_rows l line
in_variable_shift l line s = says_right direct_rows (three_rows ++ variable_shift_rows ++ shift_rows ++ immediate_rows ++ division_rows ++ move_rows ++ jump_rows ++ branch_on_two_rows ++ branch_on_one_rows ++ memory_rows ++ coprocessor_rows ++ named_rows) l line (says_right three_rows (variable_shift_rows ++ shift_rows ++ immediate_rows ++ division_rows ++ move_rows ++ jump_rows ++ branch_on_two_rows ++ branch_on_one_rows ++ memory_rows ++ coprocessor_rows ++ named_rows) l line (says_left variable_shift_rows (shift_rows ++ immediate_rows ++ division_rows ++ move_rows ++ jump_rows ++ branch_on_two_rows ++ branch_on_one_rows ++ memory_rows ++ coprocessor_rows ++ named_rows) l line s))

in_shift : (l : Line) (line : List ℕ) → SaysIn shift_rows l line → SaysIn text_rows l line
in_shift l line s = says_right direct_rows (three_rows ++ variable_shift_rows ++ shift_rows ++ immediate_rows ++ division_rows ++ move_rows ++ jump_rows ++ branch_on_two_rows ++ branch_on_one_rows ++ memory_rows ++ coprocessor_rows ++ named_rows) l line (says_right three_rows (variable_shift_rows ++ shift_rows ++ immediate_rows ++ division_rows ++ move_rows ++ jump_rows ++ branch_on_two_rows ++ branch_on_one_rows ++ memory_rows ++ coprocessor_rows ++ named_rows) l line (says_right variable_shift_rows (shift_rows ++ immediate_rows ++ division_rows ++ move_rows ++ jump_rows ++ branch_on_two_rows ++ branch_on_one_rows ++ memory_rows ++ coprocessor_rows ++ named_rows) l line (says_left shift_rows (immediate_rows ++ division_rows ++ move_rows ++ jump_rows ++ branch_on_two_rows ++ branch_on_one_rows ++ memory_rows ++ coprocessor_rows ++ named_rows) l line s)))

in_immediate : (l : Line) (line : List ℕ) → SaysIn immediate_rows l line → SaysIn text_rows l line
in_immediate l line s = says_right direct_rows (three_rows ++ variable_shift_rows ++ shift_rows ++ immediate_rows ++ division_rows ++ move_rows ++ jump_rows ++ branch_on_two_rows ++ branch_on_one_rows ++ memory_rows ++ coprocessor_rows ++ named_rows) l line (says_right three_rows (variable_shift_rows ++ shift_rows ++ immediate_rows ++ division_rows ++ move_rows ++ jump_rows ++ branch_on_two_rows ++ branch_on_one_rows ++ memory_rows ++ coprocessor_rows ++ named_rows) l line (says_right variable_shift_rows (shift_rows ++ immediate_rows ++ division_rows ++ move_rows ++ jump_rows ++ branch_on_two_rows ++ branch_on_one_rows ++ memory_rows ++ coprocessor_rows ++ named_rows) l line (says_right shift_rows (immediate_rows ++ division_rows ++ move_rows ++ jump_rows ++ branch_on_two_rows ++ branch_on_one_rows ++ memory_rows ++ coprocessor_rows ++ named_rows) l line (says_left immediate_rows (division_rows ++ move_rows ++ jump_rows ++ branch_on_two_rows ++ branch_on_one_rows ++ memory_rows ++ coprocessor_rows ++ named_rows) l line s))))

in_division : (l : Line) (line : List ℕ) → SaysIn division_rows l line → SaysIn text_rows l line
in_division l line s = says_right direct_rows (three_rows ++ variable_shift_rows ++ shift_rows ++ immediate_rows ++ division_rows ++ move_rows ++ jump_rows ++ branch_on_two_rows ++ branch_on_one_rows ++ memory_rows ++ coprocessor_rows ++ named_rows) l line (says_right three_rows (variable_shift_rows ++ shift_rows ++ immediate_rows ++ division_rows ++ move_rows ++ jump_rows ++ branch_on_two_rows ++ branch_on_one_rows ++ memory_rows ++ coprocessor_rows ++ named_rows) l line (says_right variable_shift_rows (shift_rows ++ immediate_rows ++ division_rows ++ move_rows ++ jump_rows ++ branch_on_two_rows ++ branch_on_one_rows ++ memory_rows ++ coprocessor_rows ++ named_rows) l line (says_right shift_rows (immediate_rows ++ division_rows ++ move_rows ++ jump_rows ++ branch_on_two_rows ++ branch_on_one_rows ++ memory_rows ++ coprocessor_rows ++ named_rows) l line (says_right immediate_rows (division_rows ++ move_rows ++ jump_rows ++ branch_on_two_rows ++ branch_on_one_rows ++ memory_rows ++ coprocessor_rows ++ named_rows) l line (says_left division_rows (move_rows ++ jump_rows ++ branch_on_two_rows ++ branch_on_one_rows ++ memory_rows ++ coprocessor_rows ++ named_rows) l line s)))))

in_move : (l : Line) (line : List ℕ) → SaysIn move_rows l line → SaysIn text_rows l line
in_move l line s = says_right direct_rows (three_rows ++ variable_shift_rows ++ shift_rows ++ immediate_rows ++ division_rows ++ move_rows ++ jump_rows ++ branch_on_two_rows ++ branch_on_one_rows ++ memory_rows ++ coprocessor_rows ++ named_rows) l line (says_right three_rows (variable_shift_rows ++ shift_rows ++ immediate_rows ++ division_rows ++ move_rows ++ jump_rows ++ branch_on_two_rows ++ branch_on_one_rows ++ memory_rows ++ coprocessor_rows ++ named_rows) l line (says_right variable_shift_rows (shift_rows ++ immediate_rows ++ division_rows ++ move_rows ++ jump_rows ++ branch_on_two_rows ++ branch_on_one_rows ++ memory_rows ++ coprocessor_rows ++ named_rows) l line (says_right shift_rows (immediate_rows ++ division_rows ++ move_rows ++ jump_rows ++ branch_on_two_rows ++ branch_on_one_rows ++ memory_rows ++ coprocessor_rows ++ named_rows) l line (says_right immediate_rows (division_rows ++ move_rows ++ jump_rows ++ branch_on_two_rows ++ branch_on_one_rows ++ memory_rows ++ coprocessor_rows ++ named_rows) l line (says_right division_rows (move_rows ++ jump_rows ++ branch_on_two_rows ++ branch_on_one_rows ++ memory_rows ++ coprocessor_rows ++ named_rows) l line (says_left move_rows (jump_rows ++ branch_on_two_rows ++ branch_on_one_rows ++ memory_rows ++ coprocessor_rows ++ named_rows) l line s))))))

in_jump : (l : Line) (line : List ℕ) → SaysIn jump_rows l line → SaysIn text_rows l line
in_jump l line s = says_right direct_rows (three_rows ++ variable_shift_rows ++ shift_rows ++ immediate_rows ++ division_rows ++ move_rows ++ jump_rows ++ branch_on_two_rows ++ branch_on_one_rows ++ memory_rows ++ coprocessor_rows ++ named_rows) l line (says_right three_rows (variable_shift_rows ++ shift_rows ++ immediate_rows ++ division_rows ++ move_rows ++ jump_rows ++ branch_on_two_rows ++ branch_on_one_rows ++ memory_rows ++ coprocessor_rows ++ named_rows) l line (says_right variable_shift_rows (shift_rows ++ immediate_rows ++ division_rows ++ move_rows ++ jump_rows ++ branch_on_two_rows ++ branch_on_one_rows ++ memory_rows ++ coprocessor_rows ++ named_rows) l line (says_right shift_rows (immediate_rows ++ division_rows ++ move_rows ++ jump_rows ++ branch_on_two_rows ++ branch_on_one_rows ++ memory_rows ++ coprocessor_rows ++ named_rows) l line (says_right immediate_rows (division_rows ++ move_rows ++ jump_rows ++ branch_on_two_rows ++ branch_on_one_rows ++ memory_rows ++ coprocessor_rows ++ named_rows) l line (says_right division_rows (move_rows ++ jump_rows ++ branch_on_two_rows ++ branch_on_one_rows ++ memory_rows ++ coprocessor_rows ++ named_rows) l line (says_right move_rows (jump_rows ++ branch_on_two_rows ++ branch_on_one_rows ++ memory_rows ++ coprocessor_rows ++ named_rows) l line (says_left jump_rows (branch_on_two_rows ++ branch_on_one_rows ++ memory_rows ++ coprocessor_rows ++ named_rows) l line s)))))))

in_branch_on_two : (l : Line) (line : List ℕ) → SaysIn branch_on_two_rows l line → SaysIn text_rows l line
in_branch_on_two l line s = says_right direct_rows (three_rows ++ variable_shift_rows ++ shift_rows ++ immediate_rows ++ division_rows ++ move_rows ++ jump_rows ++ branch_on_two_rows ++ branch_on_one_rows ++ memory_rows ++ coprocessor_rows ++ named_rows) l line (says_right three_rows (variable_shift_rows ++ shift_rows ++ immediate_rows ++ division_rows ++ move_rows ++ jump_rows ++ branch_on_two_rows ++ branch_on_one_rows ++ memory_rows ++ coprocessor_rows ++ named_rows) l line (says_right variable_shift_rows (shift_rows ++ immediate_rows ++ division_rows ++ move_rows ++ jump_rows ++ branch_on_two_rows ++ branch_on_one_rows ++ memory_rows ++ coprocessor_rows ++ named_rows) l line (says_right shift_rows (immediate_rows ++ division_rows ++ move_rows ++ jump_rows ++ branch_on_two_rows ++ branch_on_one_rows ++ memory_rows ++ coprocessor_rows ++ named_rows) l line (says_right immediate_rows (division_rows ++ move_rows ++ jump_rows ++ branch_on_two_rows ++ branch_on_one_rows ++ memory_rows ++ coprocessor_rows ++ named_rows) l line (says_right division_rows (move_rows ++ jump_rows ++ branch_on_two_rows ++ branch_on_one_rows ++ memory_rows ++ coprocessor_rows ++ named_rows) l line (says_right move_rows (jump_rows ++ branch_on_two_rows ++ branch_on_one_rows ++ memory_rows ++ coprocessor_rows ++ named_rows) l line (says_right jump_rows (branch_on_two_rows ++ branch_on_one_rows ++ memory_rows ++ coprocessor_rows ++ named_rows) l line (says_left branch_on_two_rows (branch_on_one_rows ++ memory_rows ++ coprocessor_rows ++ named_rows) l line s))))))))

in_branch_on_one : (l : Line) (line : List ℕ) → SaysIn branch_on_one_rows l line → SaysIn text_rows l line
in_branch_on_one l line s = says_right direct_rows (three_rows ++ variable_shift_rows ++ shift_rows ++ immediate_rows ++ division_rows ++ move_rows ++ jump_rows ++ branch_on_two_rows ++ branch_on_one_rows ++ memory_rows ++ coprocessor_rows ++ named_rows) l line (says_right three_rows (variable_shift_rows ++ shift_rows ++ immediate_rows ++ division_rows ++ move_rows ++ jump_rows ++ branch_on_two_rows ++ branch_on_one_rows ++ memory_rows ++ coprocessor_rows ++ named_rows) l line (says_right variable_shift_rows (shift_rows ++ immediate_rows ++ division_rows ++ move_rows ++ jump_rows ++ branch_on_two_rows ++ branch_on_one_rows ++ memory_rows ++ coprocessor_rows ++ named_rows) l line (says_right shift_rows (immediate_rows ++ division_rows ++ move_rows ++ jump_rows ++ branch_on_two_rows ++ branch_on_one_rows ++ memory_rows ++ coprocessor_rows ++ named_rows) l line (says_right immediate_rows (division_rows ++ move_rows ++ jump_rows ++ branch_on_two_rows ++ branch_on_one_rows ++ memory_rows ++ coprocessor_rows ++ named_rows) l line (says_right division_rows (move_rows ++ jump_rows ++ branch_on_two_rows ++ branch_on_one_rows ++ memory_rows ++ coprocessor_rows ++ named_rows) l line (says_right move_rows (jump_rows ++ branch_on_two_rows ++ branch_on_one_rows ++ memory_rows ++ coprocessor_rows ++ named_rows) l line (says_right jump_rows (branch_on_two_rows ++ branch_on_one_rows ++ memory_rows ++ coprocessor_rows ++ named_rows) l line (says_right branch_on_two_rows (branch_on_one_rows ++ memory_rows ++ coprocessor_rows ++ named_rows) l line (says_left branch_on_one_rows (memory_rows ++ coprocessor_rows ++ named_rows) l line s)))))))))

in_memory : (l : Line) (line : List ℕ) → SaysIn memory_rows l line → SaysIn text_rows l line
in_memory l line s = says_right direct_rows (three_rows ++ variable_shift_rows ++ shift_rows ++ immediate_rows ++ division_rows ++ move_rows ++ jump_rows ++ branch_on_two_rows ++ branch_on_one_rows ++ memory_rows ++ coprocessor_rows ++ named_rows) l line (says_right three_rows (variable_shift_rows ++ shift_rows ++ immediate_rows ++ division_rows ++ move_rows ++ jump_rows ++ branch_on_two_rows ++ branch_on_one_rows ++ memory_rows ++ coprocessor_rows ++ named_rows) l line (says_right variable_shift_rows (shift_rows ++ immediate_rows ++ division_rows ++ move_rows ++ jump_rows ++ branch_on_two_rows ++ branch_on_one_rows ++ memory_rows ++ coprocessor_rows ++ named_rows) l line (says_right shift_rows (immediate_rows ++ division_rows ++ move_rows ++ jump_rows ++ branch_on_two_rows ++ branch_on_one_rows ++ memory_rows ++ coprocessor_rows ++ named_rows) l line (says_right immediate_rows (division_rows ++ move_rows ++ jump_rows ++ branch_on_two_rows ++ branch_on_one_rows ++ memory_rows ++ coprocessor_rows ++ named_rows) l line (says_right division_rows (move_rows ++ jump_rows ++ branch_on_two_rows ++ branch_on_one_rows ++ memory_rows ++ coprocessor_rows ++ named_rows) l line (says_right move_rows (jump_rows ++ branch_on_two_rows ++ branch_on_one_rows ++ memory_rows ++ coprocessor_rows ++ named_rows) l line (says_right jump_rows (branch_on_two_rows ++ branch_on_one_rows ++ memory_rows ++ coprocessor_rows ++ named_rows) l line (says_right branch_on_two_rows (branch_on_one_rows ++ memory_rows ++ coprocessor_rows ++ named_rows) l line (says_right branch_on_one_rows (memory_rows ++ coprocessor_rows ++ named_rows) l line (says_left memory_rows (coprocessor_rows ++ named_rows) l line s))))))))))

in_coprocessor : (l : Line) (line : List ℕ) → SaysIn coprocessor_rows l line → SaysIn text_rows l line
in_coprocessor l line s = says_right direct_rows (three_rows ++ variable_shift_rows ++ shift_rows ++ immediate_rows ++ division_rows ++ move_rows ++ jump_rows ++ branch_on_two_rows ++ branch_on_one_rows ++ memory_rows ++ coprocessor_rows ++ named_rows) l line (says_right three_rows (variable_shift_rows ++ shift_rows ++ immediate_rows ++ division_rows ++ move_rows ++ jump_rows ++ branch_on_two_rows ++ branch_on_one_rows ++ memory_rows ++ coprocessor_rows ++ named_rows) l line (says_right variable_shift_rows (shift_rows ++ immediate_rows ++ division_rows ++ move_rows ++ jump_rows ++ branch_on_two_rows ++ branch_on_one_rows ++ memory_rows ++ coprocessor_rows ++ named_rows) l line (says_right shift_rows (immediate_rows ++ division_rows ++ move_rows ++ jump_rows ++ branch_on_two_rows ++ branch_on_one_rows ++ memory_rows ++ coprocessor_rows ++ named_rows) l line (says_right immediate_rows (division_rows ++ move_rows ++ jump_rows ++ branch_on_two_rows ++ branch_on_one_rows ++ memory_rows ++ coprocessor_rows ++ named_rows) l line (says_right division_rows (move_rows ++ jump_rows ++ branch_on_two_rows ++ branch_on_one_rows ++ memory_rows ++ coprocessor_rows ++ named_rows) l line (says_right move_rows (jump_rows ++ branch_on_two_rows ++ branch_on_one_rows ++ memory_rows ++ coprocessor_rows ++ named_rows) l line (says_right jump_rows (branch_on_two_rows ++ branch_on_one_rows ++ memory_rows ++ coprocessor_rows ++ named_rows) l line (says_right branch_on_two_rows (branch_on_one_rows ++ memory_rows ++ coprocessor_rows ++ named_rows) l line (says_right branch_on_one_rows (memory_rows ++ coprocessor_rows ++ named_rows) l line (says_right memory_rows (coprocessor_rows ++ named_rows) l line (says_left coprocessor_rows (named_rows) l line s)))))))))))

in_named : (l : Line) (line : List ℕ) → SaysIn named_rows l line → SaysIn text_rows l line
in_named l line s = says_right direct_rows (three_rows ++ variable_shift_rows ++ shift_rows ++ immediate_rows ++ division_rows ++ move_rows ++ jump_rows ++ branch_on_two_rows ++ branch_on_one_rows ++ memory_rows ++ coprocessor_rows ++ named_rows) l line (says_right three_rows (variable_shift_rows ++ shift_rows ++ immediate_rows ++ division_rows ++ move_rows ++ jump_rows ++ branch_on_two_rows ++ branch_on_one_rows ++ memory_rows ++ coprocessor_rows ++ named_rows) l line (says_right variable_shift_rows (shift_rows ++ immediate_rows ++ division_rows ++ move_rows ++ jump_rows ++ branch_on_two_rows ++ branch_on_one_rows ++ memory_rows ++ coprocessor_rows ++ named_rows) l line (says_right shift_rows (immediate_rows ++ division_rows ++ move_rows ++ jump_rows ++ branch_on_two_rows ++ branch_on_one_rows ++ memory_rows ++ coprocessor_rows ++ named_rows) l line (says_right immediate_rows (division_rows ++ move_rows ++ jump_rows ++ branch_on_two_rows ++ branch_on_one_rows ++ memory_rows ++ coprocessor_rows ++ named_rows) l line (says_right division_rows (move_rows ++ jump_rows ++ branch_on_two_rows ++ branch_on_one_rows ++ memory_rows ++ coprocessor_rows ++ named_rows) l line (says_right move_rows (jump_rows ++ branch_on_two_rows ++ branch_on_one_rows ++ memory_rows ++ coprocessor_rows ++ named_rows) l line (says_right jump_rows (branch_on_two_rows ++ branch_on_one_rows ++ memory_rows ++ coprocessor_rows ++ named_rows) l line (says_right branch_on_two_rows (branch_on_one_rows ++ memory_rows ++ coprocessor_rows ++ named_rows) l line (says_right branch_on_one_rows (memory_rows ++ coprocessor_rows ++ named_rows) l line (says_right memory_rows (coprocessor_rows ++ named_rows) l line (says_right coprocessor_rows (named_rows) l line (s))))))))))))

three_in : (op : Op3) (d s t : ℕ) → Fits (form_of (Plain (Three op d s t))) (values_of (Plain (Three op d s t))) → InTable (Plain (Three op d s t))
three_in Add d s t h = in_three _ _ (inl (num d ∷ num s ∷ num t ∷ [], h, refl, refl))
three_in Addu d s t h = in_three _ _ (inr (inl (num d ∷ num s ∷ num t ∷ [], h, refl, refl)))
three_in Sub d s t h = in_three _ _ (inr (inr (inl (num d ∷ num s ∷ num t ∷ [], h, refl, refl))))
three_in Subu d s t h = in_three _ _ (inr (inr (inr (inl (num d ∷ num s ∷ num t ∷ [], h, refl, refl)))))
three_in And d s t h = in_three _ _ (inr (inr (inr (inr (inl (num d ∷ num s ∷ num t ∷ [], h, refl, refl))))))
three_in Or d s t h = in_three _ _ (inr (inr (inr (inr (inr (inl (num d ∷ num s ∷ num t ∷ [], h, refl, refl)))))))
three_in Xor d s t h = in_three _ _ (inr (inr (inr (inr (inr (inr (inl (num d ∷ num s ∷ num t ∷ [], h, refl, refl))))))))
three_in Nor d s t h = in_three _ _ (inr (inr (inr (inr (inr (inr (inr (inl (num d ∷ num s ∷ num t ∷ [], h, refl, refl)))))))))
three_in Slt d s t h = in_three _ _ (inr (inr (inr (inr (inr (inr (inr (inr (inl (num d ∷ num s ∷ num t ∷ [], h, refl, refl))))))))))
three_in Sltu d s t h = in_three _ _ (inr (inr (inr (inr (inr (inr (inr (inr (inr (inl (num d ∷ num s ∷ num t ∷ [], h, refl, refl)))))))))))
three_in Sllv d s t h = in_variable_shift _ _ (inl (num d ∷ num t ∷ num s ∷ [], h, refl, refl))
three_in Srlv d s t h = in_variable_shift _ _ (inr (inl (num d ∷ num t ∷ num s ∷ [], h, refl, refl)))
three_in Srav d s t h = in_variable_shift _ _ (inr (inr (inl (num d ∷ num t ∷ num s ∷ [], h, refl, refl))))

shift_in : (op : OpS) (d t a : ℕ) → Fits (form_of (Plain (Shift op d t a))) (values_of (Plain (Shift op d t a))) → InTable (Plain (Shift op d t a))
shift_in Sll d t a h = in_shift _ _ (inl (num d ∷ num t ∷ num a ∷ [], h, refl, refl))
shift_in Srl d t a h = in_shift _ _ (inr (inl (num d ∷ num t ∷ num a ∷ [], h, refl, refl)))
shift_in Sra d t a h = in_shift _ _ (inr (inr (inl (num d ∷ num t ∷ num a ∷ [], h, refl, refl))))

immediate_in : (op : OpI) (t s v : ℕ) → Fits (form_of (Plain (Imm op t s v))) (values_of (Plain (Imm op t s v))) → InTable (Plain (Imm op t s v))
immediate_in Addi t s v h = in_immediate _ _ (inl (num t ∷ num s ∷ num v ∷ [], h, refl, refl))
immediate_in Addiu t s v h = in_immediate _ _ (inr (inl (num t ∷ num s ∷ num v ∷ [], h, refl, refl)))
immediate_in Slti t s v h = in_immediate _ _ (inr (inr (inl (num t ∷ num s ∷ num v ∷ [], h, refl, refl))))
immediate_in Sltiu t s v h = in_immediate _ _ (inr (inr (inr (inl (num t ∷ num s ∷ num v ∷ [], h, refl, refl)))))
immediate_in Andi t s v h = in_immediate _ _ (inr (inr (inr (inr (inl (num t ∷ num s ∷ num v ∷ [], h, refl, refl))))))
immediate_in Ori t s v h = in_immediate _ _ (inr (inr (inr (inr (inr (inl (num t ∷ num s ∷ num v ∷ [], h, refl, refl)))))))
immediate_in Xori t s v h = in_immediate _ _ (inr (inr (inr (inr (inr (inr (inl (num t ∷ num s ∷ num v ∷ [], h, refl, refl))))))))

division_in : (op : OpD) (s t : ℕ) → Fits (form_of (Plain (MulDiv op s t))) (values_of (Plain (MulDiv op s t))) → InTable (Plain (MulDiv op s t))
division_in Mult s t h = in_division _ _ (inl (num s ∷ num t ∷ [], h, refl, refl))
division_in Multu s t h = in_division _ _ (inr (inl (num s ∷ num t ∷ [], h, refl, refl)))
division_in Div s t h = in_division _ _ (inr (inr (inl (num s ∷ num t ∷ [], h, refl, refl))))
division_in Divu s t h = in_division _ _ (inr (inr (inr (inl (num s ∷ num t ∷ [], h, refl, refl)))))

memory_in : (op : OpM) (t b v : ℕ) → Fits (form_of (Plain (Memory op t b v))) (values_of (Plain (Memory op t b v))) → InTable (Plain (Memory op t b v))
memory_in Lb t b v h = in_memory _ _ (inl (num t ∷ num v ∷ num b ∷ [], h, refl, refl))
memory_in Lh t b v h = in_memory _ _ (inr (inl (num t ∷ num v ∷ num b ∷ [], h, refl, refl)))
memory_in Lwl t b v h = in_memory _ _ (inr (inr (inl (num t ∷ num v ∷ num b ∷ [], h, refl, refl))))
memory_in Lw t b v h = in_memory _ _ (inr (inr (inr (inl (num t ∷ num v ∷ num b ∷ [], h, refl, refl)))))
memory_in Lbu t b v h = in_memory _ _ (inr (inr (inr (inr (inl (num t ∷ num v ∷ num b ∷ [], h, refl, refl))))))
memory_in Lhu t b v h = in_memory _ _ (inr (inr (inr (inr (inr (inl (num t ∷ num v ∷ num b ∷ [], h, refl, refl)))))))
memory_in Lwr t b v h = in_memory _ _ (inr (inr (inr (inr (inr (inr (inl (num t ∷ num v ∷ num b ∷ [], h, refl, refl))))))))
memory_in Sb t b v h = in_memory _ _ (inr (inr (inr (inr (inr (inr (inr (inl (num t ∷ num v ∷ num b ∷ [], h, refl, refl)))))))))
memory_in Sh t b v h = in_memory _ _ (inr (inr (inr (inr (inr (inr (inr (inr (inl (num t ∷ num v ∷ num b ∷ [], h, refl, refl))))))))))
memory_in Swl t b v h = in_memory _ _ (inr (inr (inr (inr (inr (inr (inr (inr (inr (inl (num t ∷ num v ∷ num b ∷ [], h, refl, refl)))))))))))
memory_in Sw t b v h = in_memory _ _ (inr (inr (inr (inr (inr (inr (inr (inr (inr (inr (inl (num t ∷ num v ∷ num b ∷ [], h, refl, refl))))))))))))
memory_in Swr t b v h = in_memory _ _ (inr (inr (inr (inr (inr (inr (inr (inr (inr (inr (inr (inl (num t ∷ num v ∷ num b ∷ [], h, refl, refl)))))))))))))

plain_in : (i : Instr) → IsProperLine (Plain i) → InTable (Plain i)
plain_in (Three op d s t) h = three_in op d s t h.1
plain_in (Shift op d t a) h = shift_in op d t a h.1
plain_in (Imm op t s v) h = immediate_in op t s v h.1
plain_in (Lui t v) h = in_immediate _ _ (inr (inr (inr (inr (inr (inr (inr (inl (num t ∷ num v ∷ [], h.1, refl, refl)))))))))
plain_in (MulDiv op s t) h = division_in op s t h.1
plain_in (MoveFrom true d) h = in_move _ _ (inl (num d ∷ [], h.1, refl, refl))
plain_in (MoveFrom false d) h = in_move _ _ (inr (inl (num d ∷ [], h.1, refl, refl)))
plain_in (MoveTo true s) h = in_move _ _ (inr (inr (inl (num s ∷ [], h.1, refl, refl))))
plain_in (MoveTo false s) h = in_move _ _ (inr (inr (inr (inl (num s ∷ [], h.1, refl, refl)))))
plain_in (JumpReg s) h = in_jump _ _ (inr (inr (inr (inr (inl (num s ∷ [], h.1, refl, refl))))))
plain_in (JumpLinkReg d s) h = in_jump _ _ (inr (inr (inr (inr (inr (inl (num d ∷ num s ∷ [], h.1, refl, refl)))))))
plain_in (Memory op t b v) h = memory_in op t b v h.1
plain_in (Mfc0 t n) h = in_coprocessor _ _ (inl (num t ∷ num n ∷ [], h.1, refl, refl))
plain_in (Mtc0 t n) h = in_coprocessor _ _ (inr (inl (num t ∷ num n ∷ [], h.1, refl, refl)))
plain_in Syscall h = in_named _ _ (inl ([], h.1, refl, refl))
plain_in Break h = in_named _ _ (inr (inl ([], h.1, refl, refl)))
plain_in Tlbr h = in_named _ _ (inr (inr (inl ([], h.1, refl, refl))))
plain_in Tlbwi h = in_named _ _ (inr (inr (inr (inl ([], h.1, refl, refl)))))
plain_in Tlbwr h = in_named _ _ (inr (inr (inr (inr (inl ([], h.1, refl, refl))))))
plain_in Tlbp h = in_named _ _ (inr (inr (inr (inr (inr (inl ([], h.1, refl, refl)))))))
plain_in Rfe h = in_named _ _ (inr (inr (inr (inr (inr (inr (inl ([], h.1, refl, refl))))))))
plain_in (JumpWord link t) h = absurd h.0
plain_in (BranchWord op s t off) h = absurd h.0
plain_in (Foreign unit w) h = absurd h.0
plain_in (Reserved w) h = absurd h.0

jump_in : (link : Bool) (to : Target) → IsProperLine (Jump link to) → InTable (Jump link to)
jump_in false (Address x) h = in_jump _ _ (inl (num x ∷ [], h.1, refl, refl))
jump_in false (Named l) h = in_jump _ _ (inr (inl (name l.items ∷ [], h.1, refl, refl)))
jump_in true (Address x) h = in_jump _ _ (inr (inr (inl (num x ∷ [], h.1, refl, refl))))
jump_in true (Named l) h = in_jump _ _ (inr (inr (inr (inl (name l.items ∷ [], h.1, refl, refl)))))

branch_in : (op : OpB) (s t : ℕ) (to : Target) → IsProperLine (Branch op s t to) → InTable (Branch op s t to)
branch_in Beq s t (Address x) h = in_branch_on_two _ _ (inl (num s ∷ num t ∷ num x ∷ [], h.1, refl, refl))
branch_in Beq s t (Named l) h = in_branch_on_two _ _ (inr (inl (num s ∷ num t ∷ name l.items ∷ [], h.1, refl, refl)))
branch_in Bne s t (Address x) h = in_branch_on_two _ _ (inr (inr (inl (num s ∷ num t ∷ num x ∷ [], h.1, refl, refl))))
branch_in Bne s t (Named l) h = in_branch_on_two _ _ (inr (inr (inr (inl (num s ∷ num t ∷ name l.items ∷ [], h.1, refl, refl)))))
branch_in Blez s t (Address x) h = in_branch_on_one _ _ (inl (num s ∷ num x ∷ [], h.1, refl, ap (λ (u : ℕ). Branch Blez s u (Address x)) h.0))
branch_in Blez s t (Named l) h = in_branch_on_one _ _ (inr (inl (num s ∷ name l.items ∷ [], h.1, refl, ap (λ (u : ℕ). Branch Blez s u (Named l)) h.0)))
branch_in Bgtz s t (Address x) h = in_branch_on_one _ _ (inr (inr (inl (num s ∷ num x ∷ [], h.1, refl, ap (λ (u : ℕ). Branch Bgtz s u (Address x)) h.0))))
branch_in Bgtz s t (Named l) h = in_branch_on_one _ _ (inr (inr (inr (inl (num s ∷ name l.items ∷ [], h.1, refl, ap (λ (u : ℕ). Branch Bgtz s u (Named l)) h.0)))))
branch_in Bltz s t (Address x) h = in_branch_on_one _ _ (inr (inr (inr (inr (inl (num s ∷ num x ∷ [], h.1, refl, ap (λ (u : ℕ). Branch Bltz s u (Address x)) h.0))))))
branch_in Bltz s t (Named l) h = in_branch_on_one _ _ (inr (inr (inr (inr (inr (inl (num s ∷ name l.items ∷ [], h.1, refl, ap (λ (u : ℕ). Branch Bltz s u (Named l)) h.0)))))))
branch_in Bgez s t (Address x) h = in_branch_on_one _ _ (inr (inr (inr (inr (inr (inr (inl (num s ∷ num x ∷ [], h.1, refl, ap (λ (u : ℕ). Branch Bgez s u (Address x)) h.0))))))))
branch_in Bgez s t (Named l) h = in_branch_on_one _ _ (inr (inr (inr (inr (inr (inr (inr (inl (num s ∷ name l.items ∷ [], h.1, refl, ap (λ (u : ℕ). Branch Bgez s u (Named l)) h.0)))))))))
branch_in Bltzal s t (Address x) h = in_branch_on_one _ _ (inr (inr (inr (inr (inr (inr (inr (inr (inl (num s ∷ num x ∷ [], h.1, refl, ap (λ (u : ℕ). Branch Bltzal s u (Address x)) h.0))))))))))
branch_in Bltzal s t (Named l) h = in_branch_on_one _ _ (inr (inr (inr (inr (inr (inr (inr (inr (inr (inl (num s ∷ name l.items ∷ [], h.1, refl, ap (λ (u : ℕ). Branch Bltzal s u (Named l)) h.0)))))))))))
branch_in Bgezal s t (Address x) h = in_branch_on_one _ _ (inr (inr (inr (inr (inr (inr (inr (inr (inr (inr (inl (num s ∷ num x ∷ [], h.1, refl, ap (λ (u : ℕ). Branch Bgezal s u (Address x)) h.0))))))))))))
branch_in Bgezal s t (Named l) h = in_branch_on_one _ _ (inr (inr (inr (inr (inr (inr (inr (inr (inr (inr (inr (inl (num s ∷ name l.items ∷ [], h.1, refl, ap (λ (u : ℕ). Branch Bgezal s u (Named l)) h.0)))))))))))))

pub in_table : (l : Line) → IsProperLine l → SaysIn text_rows l (line_text l)
in_table (Org x) h = in_direct _ _ (inl (num x ∷ [], h.1, refl, refl))
in_table (Entry x) h = in_direct _ _ (inr (inl (num x ∷ [], h.1, refl, refl)))
in_table (Word x) h = in_direct _ _ (inr (inr (inl (num x ∷ [], h.1, refl, refl))))
in_table (Label l) h = in_direct _ _ (inr (inr (inr (inl (name l.items ∷ [], h.1, refl, refl)))))
in_table (Plain i) h = plain_in i h
in_table (Jump link to) h = jump_in link to h
in_table (Branch op s t to) h = branch_in op s t to h

-- The one text of a line, the word that it gives, and the line of a word.
use Rattle.std.specs.Prelude.{◌≡◌, ℕ, ◌+◌, ◌-◌, ◌*◌, ◌/◌, ◌%◌, ◌^◌, ◌≤◌, ◌⊎◌, List, [], ◌∷◌, codes, Bool, true, false, ◌==◌, ◌&&◌, ◌||◌, Option, Some, None, Result, Ok, nat_lt, nat_le, if◌then◌else◌}
use Rattle.s2_text.specs.declared.stops.BadLine.{BadLine}
use Rattle.s2_text.specs.LineGrammar.{Value, num, name, Part, Fits, spelling}
use Rattle.s2_decode.specs.Table.{decoded}
use Rattle.s2_decode.specs.Properness.{IsBranchRegister}
use Rattle.s2_decode.specs.declared.instr.Op3.{Op3}
use Rattle.s2_decode.specs.declared.instr.Op3.TheVariants.{Add, Addu, Sub, Subu, And, Or, Xor, Nor, Slt, Sltu, Sllv, Srlv, Srav}
use Rattle.s2_decode.specs.declared.instr.OpS.{OpS}
use Rattle.s2_decode.specs.declared.instr.OpS.TheVariants.{Sll, Srl, Sra}
use Rattle.s2_decode.specs.declared.instr.OpI.{OpI}
use Rattle.s2_decode.specs.declared.instr.OpI.TheVariants.{Addi, Addiu, Slti, Sltiu, Andi, Ori, Xori}
use Rattle.s2_decode.specs.declared.instr.OpD.{OpD}
use Rattle.s2_decode.specs.declared.instr.OpD.TheVariants.{Mult, Multu, Div, Divu}
use Rattle.s2_decode.specs.declared.instr.OpB.{OpB}
use Rattle.s2_decode.specs.declared.instr.OpB.TheVariants.{Beq, Bne, Blez, Bgtz, Bltz, Bgez, Bltzal, Bgezal}
use Rattle.s2_decode.specs.declared.instr.OpM.{OpM}
use Rattle.s2_decode.specs.declared.instr.OpM.TheVariants.{Lb, Lh, Lwl, Lw, Lbu, Lhu, Lwr, Sb, Sh, Swl, Sw, Swr}
use Rattle.s2_decode.specs.declared.instr.Instr.{Instr}
use Rattle.s2_decode.specs.declared.instr.Instr.TheVariants.{Three, Shift, Imm, Lui, MulDiv, MoveFrom, MoveTo, Jump as JumpWord, JumpReg, JumpLinkReg, Branch as BranchWord, Memory, Syscall, Break, Mfc0, Mtc0, Tlbr, Tlbwi, Tlbwr, Tlbp, Rfe, Foreign, Reserved}
use Rattle.s2_mnemonics.specs.declared.line.Target.{Target}
use Rattle.s2_mnemonics.specs.declared.line.Target.TheVariants.{Address, Label as Named}
use Rattle.s2_mnemonics.specs.declared.line.Line.{Line}
use Rattle.s2_mnemonics.specs.declared.line.Line.TheVariants.{Org, Entry, Word, Label, Plain, Jump, Branch}
use Rattle.s2_mnemonics.specs.TextTable.{org_line, entry_line, word_line, label_line, bare_line, one_line, two_line, three_line, shift_line, signed_line, unsigned_line, lui_line, number_line, memory_line, there_line, named_line, one_there_line, one_named_line, two_there_line, two_named_line}

-- ---- how the line of an instruction begins

abbrev pub three_start : Op3 → List ℕ
three_start Add = codes "add r"
three_start Addu = codes "addu r"
three_start Sub = codes "sub r"
three_start Subu = codes "subu r"
three_start And = codes "and r"
three_start Or = codes "or r"
three_start Xor = codes "xor r"
three_start Nor = codes "nor r"
three_start Slt = codes "slt r"
three_start Sltu = codes "sltu r"
three_start Sllv = codes "sllv r"
three_start Srlv = codes "srlv r"
three_start Srav = codes "srav r"

abbrev pub shift_start : OpS → List ℕ
shift_start Sll = codes "sll r"
shift_start Srl = codes "srl r"
shift_start Sra = codes "sra r"

abbrev pub immediate_start : OpI → List ℕ
immediate_start Addi = codes "addi r"
immediate_start Addiu = codes "addiu r"
immediate_start Slti = codes "slti r"
immediate_start Sltiu = codes "sltiu r"
immediate_start Andi = codes "andi r"
immediate_start Ori = codes "ori r"
immediate_start Xori = codes "xori r"

abbrev pub division_start : OpD → List ℕ
division_start Mult = codes "mult r"
division_start Multu = codes "multu r"
division_start Div = codes "div r"
division_start Divu = codes "divu r"

abbrev pub branch_start : OpB → List ℕ
branch_start Beq = codes "beq r"
branch_start Bne = codes "bne r"
branch_start Blez = codes "blez r"
branch_start Bgtz = codes "bgtz r"
branch_start Bltz = codes "bltz r"
branch_start Bgez = codes "bgez r"
branch_start Bltzal = codes "bltzal r"
branch_start Bgezal = codes "bgezal r"

abbrev pub memory_start : OpM → List ℕ
memory_start Lb = codes "lb r"
memory_start Lh = codes "lh r"
memory_start Lwl = codes "lwl r"
memory_start Lw = codes "lw r"
memory_start Lbu = codes "lbu r"
memory_start Lhu = codes "lhu r"
memory_start Lwr = codes "lwr r"
memory_start Sb = codes "sb r"
memory_start Sh = codes "sh r"
memory_start Swl = codes "swl r"
memory_start Sw = codes "sw r"
memory_start Swr = codes "swr r"

abbrev pub from_start : Bool → List ℕ
from_start true = codes "mfhi r"
from_start false = codes "mflo r"

abbrev pub to_start : Bool → List ℕ
to_start true = codes "mthi r"
to_start false = codes "mtlo r"

abbrev pub jump_start : Bool → List ℕ
jump_start true = codes "jal "
jump_start false = codes "j "

-- ---- the shape of a line and its values

abbrev pub three_form : Op3 → List Part
three_form Add = three_line (three_start Add)
three_form Addu = three_line (three_start Addu)
three_form Sub = three_line (three_start Sub)
three_form Subu = three_line (three_start Subu)
three_form And = three_line (three_start And)
three_form Or = three_line (three_start Or)
three_form Xor = three_line (three_start Xor)
three_form Nor = three_line (three_start Nor)
three_form Slt = three_line (three_start Slt)
three_form Sltu = three_line (three_start Sltu)
three_form Sllv = three_line (three_start Sllv)
three_form Srlv = three_line (three_start Srlv)
three_form Srav = three_line (three_start Srav)

abbrev pub three_values : Op3 → ℕ → ℕ → ℕ → List Value
three_values Add d s t = num d ∷ num s ∷ num t ∷ []
three_values Addu d s t = num d ∷ num s ∷ num t ∷ []
three_values Sub d s t = num d ∷ num s ∷ num t ∷ []
three_values Subu d s t = num d ∷ num s ∷ num t ∷ []
three_values And d s t = num d ∷ num s ∷ num t ∷ []
three_values Or d s t = num d ∷ num s ∷ num t ∷ []
three_values Xor d s t = num d ∷ num s ∷ num t ∷ []
three_values Nor d s t = num d ∷ num s ∷ num t ∷ []
three_values Slt d s t = num d ∷ num s ∷ num t ∷ []
three_values Sltu d s t = num d ∷ num s ∷ num t ∷ []
three_values Sllv d s t = num d ∷ num t ∷ num s ∷ []
three_values Srlv d s t = num d ∷ num t ∷ num s ∷ []
three_values Srav d s t = num d ∷ num t ∷ num s ∷ []

abbrev pub immediate_form : OpI → List Part
immediate_form Addi = signed_line (immediate_start Addi)
immediate_form Addiu = signed_line (immediate_start Addiu)
immediate_form Slti = signed_line (immediate_start Slti)
immediate_form Sltiu = signed_line (immediate_start Sltiu)
immediate_form Andi = unsigned_line (immediate_start Andi)
immediate_form Ori = unsigned_line (immediate_start Ori)
immediate_form Xori = unsigned_line (immediate_start Xori)

abbrev pub branch_form : OpB → Target → List Part
branch_form Beq (Address x) = two_there_line (branch_start Beq)
branch_form Beq (Named l) = two_named_line (branch_start Beq)
branch_form Bne (Address x) = two_there_line (branch_start Bne)
branch_form Bne (Named l) = two_named_line (branch_start Bne)
branch_form Blez (Address x) = one_there_line (branch_start Blez)
branch_form Blez (Named l) = one_named_line (branch_start Blez)
branch_form Bgtz (Address x) = one_there_line (branch_start Bgtz)
branch_form Bgtz (Named l) = one_named_line (branch_start Bgtz)
branch_form Bltz (Address x) = one_there_line (branch_start Bltz)
branch_form Bltz (Named l) = one_named_line (branch_start Bltz)
branch_form Bgez (Address x) = one_there_line (branch_start Bgez)
branch_form Bgez (Named l) = one_named_line (branch_start Bgez)
branch_form Bltzal (Address x) = one_there_line (branch_start Bltzal)
branch_form Bltzal (Named l) = one_named_line (branch_start Bltzal)
branch_form Bgezal (Address x) = one_there_line (branch_start Bgezal)
branch_form Bgezal (Named l) = one_named_line (branch_start Bgezal)

abbrev pub target_value : Target → Value
target_value (Address x) = num x
target_value (Named l) = name l.items

abbrev pub branch_values : OpB → ℕ → ℕ → Target → List Value
branch_values Beq s t to = num s ∷ num t ∷ target_value to ∷ []
branch_values Bne s t to = num s ∷ num t ∷ target_value to ∷ []
branch_values Blez s t to = num s ∷ target_value to ∷ []
branch_values Bgtz s t to = num s ∷ target_value to ∷ []
branch_values Bltz s t to = num s ∷ target_value to ∷ []
branch_values Bgez s t to = num s ∷ target_value to ∷ []
branch_values Bltzal s t to = num s ∷ target_value to ∷ []
branch_values Bgezal s t to = num s ∷ target_value to ∷ []

abbrev pub plain_form : Instr → List Part
plain_form (Three op d s t) = three_form op
plain_form (Shift op d t a) = shift_line (shift_start op)
plain_form (Imm op t s v) = immediate_form op
plain_form (Lui t v) = lui_line
plain_form (MulDiv op s t) = two_line (division_start op)
plain_form (MoveFrom hi d) = one_line (from_start hi)
plain_form (MoveTo hi s) = one_line (to_start hi)
plain_form (JumpReg s) = one_line (codes "jr r")
plain_form (JumpLinkReg d s) = two_line (codes "jalr r")
plain_form (Memory op t b v) = memory_line (memory_start op)
plain_form Syscall = bare_line (codes "syscall")
plain_form Break = bare_line (codes "break")
plain_form (Mfc0 t n) = number_line (codes "mfc0 r")
plain_form (Mtc0 t n) = number_line (codes "mtc0 r")
plain_form Tlbr = bare_line (codes "tlbr")
plain_form Tlbwi = bare_line (codes "tlbwi")
plain_form Tlbwr = bare_line (codes "tlbwr")
plain_form Tlbp = bare_line (codes "tlbp")
plain_form Rfe = bare_line (codes "rfe")
plain_form _ = []

abbrev pub plain_values : Instr → List Value
plain_values (Three op d s t) = three_values op d s t
plain_values (Shift op d t a) = num d ∷ num t ∷ num a ∷ []
plain_values (Imm op t s v) = num t ∷ num s ∷ num v ∷ []
plain_values (Lui t v) = num t ∷ num v ∷ []
plain_values (MulDiv op s t) = num s ∷ num t ∷ []
plain_values (MoveFrom hi d) = num d ∷ []
plain_values (MoveTo hi s) = num s ∷ []
plain_values (JumpReg s) = num s ∷ []
plain_values (JumpLinkReg d s) = num d ∷ num s ∷ []
plain_values (Memory op t b v) = num t ∷ num v ∷ num b ∷ []
plain_values (Mfc0 t n) = num t ∷ num n ∷ []
plain_values (Mtc0 t n) = num t ∷ num n ∷ []
plain_values _ = []

abbrev pub jump_form : Bool → Target → List Part
jump_form link (Address x) = there_line (jump_start link)
jump_form link (Named l) = named_line (jump_start link)

abbrev pub form_of : Line → List Part
form_of (Org x) = org_line
form_of (Entry x) = entry_line
form_of (Word x) = word_line
form_of (Label l) = label_line
form_of (Plain i) = plain_form i
form_of (Jump link to) = jump_form link to
form_of (Branch op s t to) = branch_form op to

abbrev pub values_of : Line → List Value
values_of (Org x) = num x ∷ []
values_of (Entry x) = num x ∷ []
values_of (Word x) = num x ∷ []
values_of (Label l) = name l.items ∷ []
values_of (Plain i) = plain_values i
values_of (Jump link to) = target_value to ∷ []
values_of (Branch op s t to) = branch_values op s t to

-- the one text
abbrev pub line_text : Line → List ℕ
line_text l = spelling (form_of l) (values_of l)

-- an instruction that has a line without a target
abbrev pub IsPlain : Instr → Type 0
IsPlain (JumpWord link t) = ⊥
IsPlain (BranchWord op s t off) = ⊥
IsPlain (Foreign unit w) = ⊥
IsPlain (Reserved w) = ⊥
IsPlain _ = Unit {0}

-- the table has a line for it, and its values are in range
abbrev pub IsListed : Line → Type 0
IsListed (Plain i) = IsPlain i
IsListed (Branch op s t to) = IsBranchRegister op t
IsListed _ = Unit {0}

abbrev pub IsProperLine : Line → Type 0
IsProperLine l = IsListed l × Fits (form_of l) (values_of l)

-- ---- the word of a line

-- the word that the instruction table gives: the least that decodes to the instruction
abbrev pub IsWordOf : Instr → ℕ → Type 0
IsWordOf i w = (decoded w ≡ i) × ((v : ℕ) → decoded v ≡ i → w ≤ v)

-- two names are the same
abbrev pub is_same_name : List ℕ → List ℕ → Bool
is_same_name [] [] = true
is_same_name [] (b ∷ m) = false
is_same_name (a ∷ l) [] = false
is_same_name (a ∷ l) (b ∷ m) = (a == b) && is_same_name l m

-- the address of a label, by the labels of a text with their addresses
abbrev pub address_in : List (List ℕ × ℕ) → List ℕ → Option ℕ
address_in [] l = None
address_in (here ∷ labels) l = if is_same_name l here.0 then Some here.1 else address_in labels l

-- where a target lies
abbrev pub address_of : List (List ℕ × ℕ) → Target → Option ℕ
address_of labels (Address x) = Some x
address_of labels (Named l) = address_in labels l.items

-- how far an address lies behind the next instruction, modulo 2^32
abbrev pub distance : ℕ → ℕ → ℕ
distance at x = (x + (2 ^ 33 - (at + 4))) % 2 ^ 32

-- the word that the line gives at this address
abbrev pub LineWord : List (List ℕ × ℕ) → ℕ → Line → ℕ → Type 0
LineWord labels at (Word v) w = w ≡ v
LineWord labels at (Plain i) w = IsWordOf i w
LineWord labels at (Jump link to) w = (x : ℕ) × (address_of labels to ≡ Some x) × IsWordOf (JumpWord link (x / 4 % 2 ^ 26)) w
LineWord labels at (Branch op s t to) w = (x : ℕ) × (address_of labels to ≡ Some x) × IsWordOf (BranchWord op s t (distance at x / 4 % 65536)) w
LineWord labels at _ w = ⊥

-- a jump and a branch at this address reach an address
abbrev pub jump_reaches : ℕ → ℕ → Bool
jump_reaches at x = (x % 4 == 0) && (x / 2 ^ 28 == (at + 4) % 2 ^ 32 / 2 ^ 28)

abbrev pub branch_reaches : ℕ → ℕ → Bool
branch_reaches at x = (x % 4 == 0) && (nat_lt (distance at x) 131072 || nat_le (2 ^ 32 - 131072) (distance at x))

-- the target is one that the instruction reaches
abbrev pub InReach : List (List ℕ × ℕ) → ℕ → Line → Type 0
InReach labels at (Jump link to) = (x : ℕ) → address_of labels to ≡ Some x → jump_reaches at x ≡ true
InReach labels at (Branch op s t to) = (x : ℕ) → address_of labels to ≡ Some x → branch_reaches at x ≡ true
InReach labels at _ = Unit {0}

-- ---- the line of a word

abbrev pub jump_target : ℕ → ℕ → ℕ
jump_target at t = (at + 4) % 2 ^ 32 / 2 ^ 28 * 2 ^ 28 + 4 * t

abbrev pub branch_target : ℕ → ℕ → ℕ
branch_target at off = (at + 4 + 4 * off + (if nat_lt off 32768 then 0 else 2 ^ 32 - 2 ^ 18)) % 2 ^ 32

-- the instruction's line with its target as an address
abbrev pub shown : ℕ → Instr → Line
shown at (JumpWord link t) = Jump link (Address (jump_target at t))
shown at (BranchWord op s t off) = Branch op s t (Address (branch_target at off))
shown at i = Plain i

-- the word is the one that the table gives for an instruction with a name
abbrev pub HasName : Instr → Type 0
HasName (Foreign unit w) = ⊥
HasName (Reserved w) = ⊥
HasName _ = Unit {0}

abbrev pub IsNamed : ℕ → Type 0
IsNamed w = HasName (decoded w) × IsWordOf (decoded w) w

-- the instruction's line where the word is its own, else the word's
abbrev pub IsLineOfWord : ℕ → ℕ → Line → Type 0
IsLineOfWord at w l = (IsNamed w × (l ≡ shown at (decoded w))) ⊎ ((IsNamed w → ⊥) × (l ≡ Word w))

-- what the text of an instruction owes
pub record Shows (at : ℕ) (i : Instr) (text : List ℕ) : Type 0 where
  pub named : HasName i
  pub is : text ≡ line_text (shown at i)
  pub proper : IsProperLine (shown at i)
  pub reach : (labels : List (List ℕ × ℕ)) → InReach labels at (shown at i)
  pub gives : (w : ℕ) → IsWordOf i w → (labels : List (List ℕ × ℕ)) → LineWord labels at (shown at i) w

-- what was read is a line that gives this word at this address, whatever the labels are
abbrev pub Assembles : ℕ → ℕ → Result (Option Line) BadLine → Type 0
Assembles at w r = (l : Line) × (r ≡ Ok (Some l)) × ((labels : List (List ℕ × ℕ)) → InReach labels at l × LineWord labels at l w)

-- the line is that of the word, it stands in the table, and it gives the word at this address, whatever the labels are
pub record GivesWord (at w : ℕ) (l : Line) : Type 0 where
  pub is : IsLineOfWord at w l
  pub proper : IsProperLine l
  pub reach : (labels : List (List ℕ × ℕ)) → InReach labels at l
  pub gives : (labels : List (List ℕ × ℕ)) → LineWord labels at l w

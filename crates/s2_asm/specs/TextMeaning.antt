-- What a text means, over the list of its lines, and which line is the first with a fault.
use Rattle.std.specs.Prelude.{◌≡◌, ℕ, suc, ◌+◌, ◌%◌, ◌⊎◌, List, [], ◌∷◌, ◌++◌, length, Bool, true, false, Option, Some, None, Ok, Err, nat_le, nat_lt, ◌==◌, if◌then◌else◌}
use Rattle.s2_text.specs.InputLines.{lines_of, texts_of}
use Rattle.s2_text.specs.LineTables.{ReadsLine}
use Rattle.s2_mnemonics.specs.declared.line.Line.{Line}
use Rattle.s2_mnemonics.specs.declared.line.Line.TheVariants.{Org, Entry, Word, Label, Plain, Jump, Branch}
use Rattle.s2_mnemonics.specs.TextTable.{text_rows}
use Rattle.s2_mnemonics.specs.LineWords.{address_in, address_of, LineWord, jump_reaches, branch_reaches}
use Rattle.s2_asm.specs.declared.fault.AsmFault.{AsmFault}
use Rattle.s2_asm.specs.declared.fault.AsmFault.TheVariants.{Bad, Many, Place, Long, Twice, Unknown, Reach}

-- ---- the lines of a text

-- the lines of a text, each without its line feed
abbrev pub text_lines : List ℕ → List (List ℕ)
text_lines text = texts_of (lines_of text)

-- what each line says; nothing, where it is a remark
abbrev pub Say : List (List ℕ) → List (Option Line) → Type 0
Say [] [] = Unit {0}
Say [] (l ∷ said) = ⊥
Say (line ∷ lines) [] = ⊥
Say (line ∷ lines) (l ∷ said) = ReadsLine text_rows line (Ok l) × Say lines said

-- ---- where a line stands

abbrev pub four_on : Option ℕ → Option ℕ
four_on None = None
four_on (Some a) = Some (a + 4)

-- the address after a line, of the address before it
abbrev pub after : Option ℕ → Option Line → Option ℕ
after here None = here
after here (Some (Org x)) = Some x
after here (Some (Entry x)) = here
after here (Some (Label l)) = here
after here (Some (Word w)) = four_on here
after here (Some (Plain i)) = four_on here
after here (Some (Jump link to)) = four_on here
after here (Some (Branch op s t to)) = four_on here

abbrev pub after_all : Option ℕ → List (Option Line) → Option ℕ
after_all here [] = here
after_all here (l ∷ said) = after_all (after here l) said

abbrev pub label_at_line : Option ℕ → Option Line → List (List ℕ × ℕ)
label_at_line (Some a) (Some (Label l)) = (l.items, a) ∷ []
label_at_line here l = []

-- the labels with their addresses
abbrev pub labels_from : Option ℕ → List (Option Line) → List (List ℕ × ℕ)
labels_from here [] = []
labels_from here (l ∷ said) = label_at_line here l ++ labels_from (after here l) said

-- ---- the meaning of a text

-- the words from an .org line on, up to the next one, each with its address
abbrev pub Words : List (List ℕ × ℕ) → ℕ → List (Option Line) → List (ℕ × ℕ) → Type 0
Words labels at [] ws = ws ≡ []
Words labels at (None ∷ said) ws = Words labels at said ws
Words labels at (Some (Org x) ∷ said) ws = ws ≡ []
Words labels at (Some (Entry x) ∷ said) ws = Words labels at said ws
Words labels at (Some (Label l) ∷ said) ws = Words labels at said ws
Words labels at (Some l ∷ said) [] = ⊥
Words labels at (Some l ∷ said) (w ∷ ws) = (w.0 ≡ at) × LineWord labels at l w.1 × Words labels (at + 4) said ws

-- one part for each .org line in order: its address, and its words
abbrev pub Parts : List (List ℕ × ℕ) → List (Option Line) → List (ℕ × List (ℕ × ℕ)) → Type 0
Parts labels [] parts = parts ≡ []
Parts labels (Some (Org x) ∷ said) [] = ⊥
Parts labels (Some (Org x) ∷ said) (part ∷ parts) = (part.0 ≡ x) × Words labels x said part.1 × Parts labels said parts
Parts labels (l ∷ said) parts = Parts labels said parts

-- the last .entry line, or what stands for it
abbrev pub entry_after : ℕ → List (Option Line) → ℕ
entry_after entry [] = entry
entry_after entry (Some (Entry x) ∷ said) = entry_after x said
entry_after entry (l ∷ said) = entry_after entry said

abbrev pub first_part : List (ℕ × List (ℕ × ℕ)) → ℕ
first_part [] = 0x80010000
first_part (part ∷ parts) = part.0

-- what a text means: its entry and its parts
abbrev pub Means : List ℕ → ℕ → List (ℕ × List (ℕ × ℕ)) → Type 0
Means text entry parts = (said : List (Option Line)) × Say (text_lines text) said × Parts (labels_from None said) said parts × (entry ≡ entry_after (first_part parts) said)

-- ---- the faults of the first pass

abbrev pub orgs_in : List (Option Line) → ℕ
orgs_in [] = 0
orgs_in (Some (Org x) ∷ said) = suc (orgs_in said)
orgs_in (l ∷ said) = orgs_in said

abbrev pub word_in : Option Line → ℕ
word_in None = 0
word_in (Some (Org x)) = 0
word_in (Some (Entry x)) = 0
word_in (Some (Label l)) = 0
word_in (Some (Word w)) = 1
word_in (Some (Plain i)) = 1
word_in (Some (Jump link to)) = 1
word_in (Some (Branch op s t to)) = 1

abbrev pub words_in : List (Option Line) → ℕ
words_in [] = 0
words_in (l ∷ said) = word_in l + words_in said

abbrev pub is_there : Option ℕ → Bool
is_there None = false
is_there (Some a) = true

abbrev pub is_known : List (List ℕ × ℕ) → Line → Bool
is_known labels (Label l) = is_there (address_in labels l.items)
is_known labels _ = false

-- there is an .org before, and room below 2^32
abbrev pub is_placed : Option ℕ → Bool
is_placed None = false
is_placed (Some a) = nat_lt a 0x100000000

abbrev pub word_fault : ℕ → Option ℕ → ℕ → Option AsmFault
word_fault words here n = if is_placed here then (if nat_le 540672 words then Some (Long n) else None) else Some (Place n)

abbrev pub org_fault : ℕ → ℕ → ℕ → Option AsmFault
org_fault orgs n x = if nat_le 64 orgs then Some (Many n) else (if x % 4 == 0 then None else Some (Place n))

-- the first fault of line n, by what stands before it: .org lines, words, its address, and whether its label is known
abbrev pub fault_by : ℕ → ℕ → Option ℕ → Bool → ℕ → Line → Option AsmFault
fault_by orgs words here known n (Org x) = org_fault orgs n x
fault_by orgs words here known n (Entry x) = None
fault_by orgs words here known n (Label l) = if is_placed here then (if known then Some (Twice n) else None) else Some (Place n)
fault_by orgs words here known n (Word w) = word_fault words here n
fault_by orgs words here known n (Plain i) = word_fault words here n
fault_by orgs words here known n (Jump link to) = word_fault words here n
fault_by orgs words here known n (Branch op s t to) = word_fault words here n

abbrev pub fault_of : List (Option Line) → Option Line → Option AsmFault
fault_of before None = None
fault_of before (Some l) = fault_by (orgs_in before) (words_in before) (after_all None before) (is_known (labels_from None before) l) (length before + 1) l

-- no line has a fault in the first pass
abbrev pub NoFault : List (Option Line) → List (Option Line) → Type 0
NoFault before [] = Unit {0}
NoFault before (l ∷ said) = (fault_of before l ≡ None) × NoFault (before ++ l ∷ []) said

-- the fault of a line in the first pass, behind lines that say these
abbrev pub HasFault : List (Option Line) → List ℕ → AsmFault → Type 0
HasFault before line fault =
    ((column : ℕ) × ReadsLine text_rows line (Err (record { column = column })) × (fault ≡ Bad (length before + 1) column))
    ⊎ ((l : Option Line) × ReadsLine text_rows line (Ok l) × (fault_of before l ≡ Some fault))

-- the fault of the first line that has one
pub record IsFirstFault (lines : List (List ℕ)) (fault : AsmFault) : Type 0 where
  pub before : List (List ℕ)
  pub line : List ℕ
  pub after_it : List (List ℕ)
  pub parts : lines ≡ before ++ line ∷ after_it
  pub said : List (Option Line)
  pub say : Say before said
  pub clean : NoFault [] said
  pub fault_here : HasFault said line fault

-- ---- the faults of the second pass, and the whole answer

abbrev pub target_fault : ℕ → (ℕ → Bool) → Option ℕ → Option AsmFault
target_fault n reaches None = Some (Unknown n)
target_fault n reaches (Some x) = if reaches x then None else Some (Reach n)

-- the first fault of line n in the second pass, by the labels of the whole text and its address
abbrev pub later_fault_by : List (List ℕ × ℕ) → Option ℕ → ℕ → Option Line → Option AsmFault
later_fault_by labels (Some at) n (Some (Jump link to)) = target_fault n (jump_reaches at) (address_of labels to)
later_fault_by labels (Some at) n (Some (Branch op s t to)) = target_fault n (branch_reaches at) (address_of labels to)
later_fault_by labels here n l = None

-- no line has a fault in the second pass
abbrev pub NoLater : List (List ℕ × ℕ) → List (Option Line) → List (Option Line) → Type 0
NoLater labels before [] = Unit {0}
NoLater labels before (l ∷ said) = (later_fault_by labels (after_all None before) (length before + 1) l ≡ None) × NoLater labels (before ++ l ∷ []) said

-- The fault of the first line that has one in the second pass.
pub record IsLaterFault (said : List (Option Line)) (fault : AsmFault) : Type 0 where
  pub before : List (Option Line)
  pub line : Option Line
  pub after_it : List (Option Line)
  pub parts : said ≡ before ++ line ∷ after_it
  pub clean : NoLater (labels_from None said) [] before
  pub fault_here : later_fault_by (labels_from None said) (after_all None before) (length before + 1) line ≡ Some fault

-- the words of a program with their addresses
abbrev pub addressed : ℕ → List ℕ → List (ℕ × ℕ)
addressed at [] = []
addressed at (w ∷ ws) = (at, w) ∷ addressed (at + 4) ws

-- For the parts of the passes: what one line with a word gives in the second pass.
use Rattle.std.specs.Prelude.{◌≡◌, ℕ, ◌<◌, List, Some, None, Result, Ok, Err}
use Rattle.s2_decode.specs.Properness.{IsProper, IsBranchRegister}
use Rattle.s2_mnemonics.specs.declared.line.Line.{Line}
use Rattle.s2_mnemonics.specs.declared.line.Line.TheVariants.{Org, Entry, Label, Plain, Branch}
use Rattle.s2_mnemonics.specs.LineWords.{LineWord}
use Rattle.s2_asm.specs.declared.fault.AsmFault.{AsmFault}
use Rattle.s2_asm.specs.TextMeaning.{later_fault_by}

-- the numbers of the line fit their fields
abbrev pub IsGood : Line → Type 0
IsGood (Plain i) = IsProper i
IsGood (Branch op s t to) = (s < 32) × IsBranchRegister op t
IsGood _ = Unit {0}

-- the line gives a word
abbrev pub IsWritten : Line → Type 0
IsWritten (Org x) = ⊥
IsWritten (Entry x) = ⊥
IsWritten (Label l) = ⊥
IsWritten _ = Unit {0}

-- the word of the line, or its fault
abbrev pub WordOrFault : List (List ℕ × ℕ) → ℕ → ℕ → Line → Result ℕ AsmFault → Type 0
WordOrFault labels at n l (Ok w) = (later_fault_by labels (Some at) n (Some l) ≡ None) × LineWord labels at l w
WordOrFault labels at n l (Err fault) = later_fault_by labels (Some at) n (Some l) ≡ Some fault

pub record Gives (labels : List (List ℕ × ℕ)) (at n : ℕ) (l : Line) (result : Result ℕ AsmFault) : Type 0 where
  pub is : WordOrFault labels at n l result

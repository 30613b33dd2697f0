-- Tables of lines: a row for each kind of line, and what a line of the table says.
use Rattle.std.specs.Prelude.{◌≡◌, ℕ, ◌-◌, ◌≤◌, ◌⊎◌, List, [], ◌∷◌, length, Option, Some, None, Result, Ok, Err}
use Rattle.s2_text.specs.declared.lines.TheConstants.{LINE_BYTES, HASH}
use Rattle.s2_text.specs.declared.stops.BadLine.{BadLine}
use Rattle.s2_text.specs.LineGrammar.{Value, Part, Fits, spelling, IsTextOfOne, IsBadAt}

-- a kind of line: its form, and what the values of its fields say
pub record LineRow (A : Type 0) : Type 0 where
  pub form : List Part
  pub says : List Value → A

-- the forms of a table
abbrev pub forms : {A : Type 0} → List (LineRow A) → List (List Part)
forms [] = []
forms (row ∷ rows) = row.form ∷ forms rows

-- the line is a text of the form, and x is what its values say
abbrev pub SaysBy : {A : Type 0} → List Part → (List Value → A) → A → List ℕ → Type 0
SaysBy ps says x line = (vs : List Value) × Fits ps vs × (line ≡ spelling ps vs) × (x ≡ says vs)

-- the line is a text of some row, and x is what it says there
abbrev pub SaysIn : {A : Type 0} → List (LineRow A) → A → List ℕ → Type 0
SaysIn [] x line = ⊥
SaysIn (row ∷ rows) x line = SaysBy row.form row.says x line ⊎ SaysIn rows x line

-- what a reader of the table answers: what the line says, or where it leaves the set of the table's texts
abbrev pub ReadsRow : {A : Type 0} → List (LineRow A) → List ℕ → Result A BadLine → Type 0
ReadsRow rows line (Ok x) = SaysIn rows x line
ReadsRow rows line (Err bad) = IsBadAt (IsTextOfOne (forms rows)) line bad.column

-- a remark: an empty line, or `#` and any bytes, of the length of a line at most
abbrev pub IsRemark : List ℕ → Type 0
IsRemark [] = Unit {0}
IsRemark (b ∷ bytes) = (b ≡ HASH) × (length bytes ≤ LINE_BYTES - 1)

-- the set of a table's texts and of remarks
abbrev pub IsLineOf : List (List Part) → List ℕ → Type 0
IsLineOf table text = IsRemark text ⊎ IsTextOfOne table text

-- what a reader of the table and of remarks answers: what the line says, that it is a remark, or where it leaves the set
abbrev pub ReadsLine : {A : Type 0} → List (LineRow A) → List ℕ → Result (Option A) BadLine → Type 0
ReadsLine rows line (Ok (Some x)) = SaysIn rows x line
ReadsLine rows line (Ok None) = IsRemark line
ReadsLine rows line (Err bad) = IsBadAt (IsLineOf (forms rows)) line bad.column

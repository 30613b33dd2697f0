-- The check of a script: which verdict is right, and what is taken of the input.
use Rattle.std.specs.Prelude.{ℕ, zero, suc, ◌≡◌, ◌+◌, ◌<◌, ◌≤◌, List, [], ◌∷◌, ◌++◌, length, drop, Some}
use Rattle.std.specs.declared.option.Option.{Option}
use Rattle.s2_text.specs.LineGrammar.{IsBadAt}
use Rattle.s2_text.specs.LineTables.{forms, IsLineOf}
use Rattle.s2_script.specs.ScriptLines.{script_rows}
use Rattle.s2_script.specs.FirstLines.{first_rows}
use Rattle.s2_run.specs.declared.limits.TheConstants.{INPUT_LIMIT}
use Rattle.s2_text.specs.InputLines.{InputLine, lines_of, size_of}
use Rattle.s2_run.specs.declared.verdict.Verdict.{Verdict}
use Rattle.s2_run.specs.declared.verdict.Verdict.TheVariants.{Passed, Bad, TooLong}

-- the set of the lines of a script: those of the table, comments and empty lines
abbrev pub IsScriptLine : List ℕ → Type 0
IsScriptLine = IsLineOf (forms script_rows)

-- the set by the number of the line: line 1 may be a version line, too
abbrev pub IsLineAt : ℕ → List ℕ → Type 0
IsLineAt zero = IsScriptLine
IsLineAt (suc zero) = IsLineOf (forms first_rows)
IsLineAt (suc (suc n)) = IsScriptLine

-- lines are of these sets, the first one having this number
abbrev pub AreLinesFrom : ℕ → List InputLine → Type 0
AreLinesFrom n [] = Unit {0}
AreLinesFrom n (line ∷ lines) = IsLineAt n line.text × AreLinesFrom (n + 1) lines

-- lines pass: each is one of a script, and they end within the most bytes of an input
pub record Pass (lines : List InputLine) : Type 0 where
  pub grammar : AreLinesFrom 1 lines
  pub short : size_of lines ≤ INPUT_LIMIT

-- the line with this number, from 1, is the first of an input that may not pass: those before it do
pub record ReachesLine (input : List ℕ) (number : ℕ) : Type 0 where
  pub before : List InputLine
  pub line : InputLine
  pub after : List InputLine
  pub lines_are : lines_of input ≡ before ++ line ∷ after
  pub number_is : number ≡ length before + 1
  pub passed : Pass before

-- how many bytes of the input there are to the end of that line
abbrev pub bytes_to : {input : List ℕ} {number : ℕ} → ReachesLine input number → ℕ
bytes_to reached = size_of reached.before + reached.line.size

-- the verdict on an input is right, and what is left of the input is right with it: all was taken, or the bytes to the end of
-- the line, but at most one more than an input may have
abbrev pub Judges : List ℕ → Verdict → Option (List ℕ) → Type 0
Judges input Passed left = Pass (lines_of input) × (left ≡ Some [])
Judges input (Bad number column) left = (at : ReachesLine input number) × (bytes_to at ≤ INPUT_LIMIT) × IsBadAt (IsLineAt number) at.line.text column × (left ≡ Some (drop (bytes_to at) input))
Judges input (TooLong number) left = (at : ReachesLine input number) × (INPUT_LIMIT < bytes_to at) × (left ≡ Some (drop (INPUT_LIMIT + 1) input))

-- The first line of a script: the version line that chooses the frame, beside the lines of the table and remarks.
use Rattle.std.specs.Prelude.{ℕ, List, [], ◌∷◌, map, codes, Option, Result, Ok, Err, Some, None}
use Rattle.s2_clock.specs.declared.numbers.TheConstants.{SHORTEST_FRAME, LONGEST_FRAME}
use Rattle.s2_text.specs.declared.stops.BadLine.{BadLine}
use Rattle.s2_text.specs.declared.stops.Stop.{Stop}
use Rattle.s2_text.specs.LineGrammar.{number, word, field, IsBadAt, num_at}
use Rattle.s2_text.specs.LineTables.{LineRow, forms, SaysBy, SaysIn, IsRemark, IsLineOf}
use Rattle.s2_script.specs.declared.entry.Entry.{Entry}
use Rattle.s2_script.specs.declared.entry.First.{First}
use Rattle.s2_script.specs.declared.entry.First.TheVariants.{Frame, Entry as EntryOf}
use Rattle.s2_script.specs.ScriptLines.{script_rows}

-- version 2 FRAME
abbrev pub version_row : LineRow First
version_row = record {
  form = word (codes "version 2 ") ∷ field (number SHORTEST_FRAME LONGEST_FRAME) ∷ [];
  says = λ v. Frame (num_at v 0);
}

-- a row of the table, on the first line
abbrev pub on_first : LineRow Entry → LineRow First
on_first row = record { form = row.form; says = λ v. EntryOf (Some (row.says v)) }

abbrev pub first_rows : List (LineRow First)
first_rows = version_row ∷ map on_first script_rows

-- the line is a version line with this frame
abbrev pub SaysFrame : ℕ → List ℕ → Type 0
SaysFrame frame line = SaysBy version_row.form version_row.says (Frame frame) line

-- what a reader of the first line answers: the frame, what a line of the table says, that it is a remark, or where it
-- leaves the set of all these
abbrev pub ReadsFirst : List ℕ → Result First BadLine → Type 0
ReadsFirst line (Ok (Frame frame)) = SaysFrame frame line
ReadsFirst line (Ok (EntryOf (Some entry))) = SaysIn script_rows entry line
ReadsFirst line (Ok (EntryOf None)) = IsRemark line
ReadsFirst line (Err bad) = IsBadAt (IsLineOf (version_row.form ∷ forms script_rows)) line bad.column

-- for the reader: what was read of the table, on the first line; and what was read of the rows and of remarks, as an answer
abbrev pub first_found : Result Entry Stop → Result First Stop
first_found (Ok e) = Ok (EntryOf (Some e))
first_found (Err stop) = Err stop

abbrev pub first_answer : Result (Option First) BadLine → Result First BadLine
first_answer (Ok (Some first)) = Ok first
first_answer (Ok None) = Ok (EntryOf None)
first_answer (Err bad) = Err bad

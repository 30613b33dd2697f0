-- The order of a report's lines: any number of notes, then `runs`, `ticks`, `bytes` and an end line, and nothing more.
use Rattle.std.specs.Prelude.{◌≡◌, ◌≢◌, ℕ, ◌+◌, ◌≤◌, ◌⊎◌, max, length, List, [], ◌∷◌, ◌++◌, codes, bytes_eq, Bool, false, ◌==◌, not, nat_lt, Option, Some, None, Result, Ok, Err, if◌then◌else◌}
use Rattle.s2_text.specs.declared.stops.BadLine.{BadLine}
use Rattle.s2_text.specs.LineGrammar.{IsTextOfOne, IsBadAt}
use Rattle.s2_text.specs.LineTables.{forms, SaysIn}
use Rattle.s2_journal.specs.declared.note.ReportLine.{ReportLine}
use Rattle.s2_journal.specs.declared.note.ReportLine.TheVariants.{Delivery, Other, Runs, Ticks, Bytes, End as Ending}
use Rattle.s2_journal.specs.ReportLines.{report_rows}

-- how many lines that are no notes a report has: `runs`, `ticks`, `bytes` and the end line
abbrev pub closing_lines : ℕ
closing_lines = 4

-- how many of them stand before a line of this sort
abbrev pub place_of : ReportLine → ℕ
place_of (Delivery run event) = 0
place_of Other = 0
place_of (Runs n) = 0
place_of Ticks = 1
place_of Bytes = 2
place_of Ending = 3

-- one for a line that is no note
abbrev pub closing_of : ReportLine → ℕ
closing_of (Delivery run event) = 0
closing_of Other = 0
closing_of (Runs n) = 1
closing_of Ticks = 1
closing_of Bytes = 1
closing_of Ending = 1

-- how many of the lines are no notes
abbrev pub closing_count : List ReportLine → ℕ
closing_count [] = 0
closing_count (x ∷ said) = closing_of x + closing_count said

-- the RUN of a `d` line, and 0 for another
abbrev pub delivery_run : ReportLine → ℕ
delivery_run (Delivery run event) = run
delivery_run Other = 0
delivery_run (Runs n) = 0
delivery_run Ticks = 0
delivery_run Bytes = 0
delivery_run Ending = 0

-- the greatest RUN of the `d` lines; where none falls back, that of the last one
abbrev pub greatest_run : List ReportLine → ℕ
greatest_run [] = 0
greatest_run (x ∷ said) = max (delivery_run x) (greatest_run said)

-- what the lines before a line come to: how many of them are no notes, and the greatest RUN of their `d` lines
pub record OrderState : Type 0 where
  pub closing : ℕ
  pub latest : ℕ

abbrev pub order_state : List ReportLine → OrderState
order_state before = record { closing = closing_count before; latest = greatest_run before }

-- the line is a `d` line whose RUN is below that of an earlier one
abbrev pub falls_back : ℕ → ReportLine → Bool
falls_back latest (Delivery run event) = nat_lt run latest
falls_back latest Other = false
falls_back latest (Runs n) = false
falls_back latest Ticks = false
falls_back latest Bytes = false
falls_back latest Ending = false

-- the line is a `runs` line whose N is below the RUN of the last `d` line
abbrev pub is_too_few : ℕ → ReportLine → Bool
is_too_few latest (Delivery run event) = false
is_too_few latest Other = false
is_too_few latest (Runs n) = nat_lt n latest
is_too_few latest Ticks = false
is_too_few latest Bytes = false
is_too_few latest Ending = false

-- the end line that only a reader of single lines takes
abbrev pub end_report : List ℕ
end_report = codes "end report"

-- the column where a line that says x goes wrong behind the lines before it: the first that holds
abbrev pub order_fault : OrderState → List ℕ → ReportLine → Option ℕ
order_fault before line x =
    if not (before.closing == place_of x) then Some 1
    else if bytes_eq line end_report then Some 1
    else if falls_back before.latest x then Some 3
    else if is_too_few before.latest x then Some 6
    else None

-- a line behind those before it: what it says, or the column where it goes wrong, by the table first and then by the order
abbrev pub ReadsNext : List ReportLine → List ℕ → Result ReportLine BadLine → Type 0
ReadsNext before line (Ok x) = SaysIn report_rows x line × (order_fault (order_state before) line x ≡ None)
ReadsNext before line (Err bad) =
    IsBadAt (IsTextOfOne (forms report_rows)) line bad.column
    ⊎ ((x : ReportLine) × SaysIn report_rows x line × (order_fault (order_state before) line x ≡ Some bad.column))

-- the lines follow those before them in the order of a report, and say this
abbrev pub Follow : List ReportLine → List (List ℕ) → List ReportLine → Type 0
Follow before [] [] = Unit {0}
Follow before [] (x ∷ said) = ⊥
Follow before (line ∷ lines) [] = ⊥
Follow before (line ∷ lines) (x ∷ said) = ReadsNext before line (Ok x) × Follow (before ++ x ∷ []) lines said

-- the lines are a whole report, and say this
pub record IsReport (lines : List (List ℕ)) (said : List ReportLine) : Type 0 where
  pub order : Follow [] lines said
  pub whole : closing_count said ≡ closing_lines

-- behind the lines before it the rest of a report goes wrong in its first line, or ends too early
abbrev pub GoesWrong : List ReportLine → List (List ℕ) → ℕ → Type 0
GoesWrong before [] column = (closing_count before ≢ closing_lines) × (column ≡ 1)
GoesWrong before (line ∷ lines) column = (bad : BadLine) × ReadsNext before line (Err bad) × (column ≡ bad.column)

-- the lines are no whole report: they go wrong in this line, from 1, at this column
pub record IsBadReport (lines : List (List ℕ)) (line column : ℕ) : Type 0 where
  pub before : List (List ℕ)
  pub said : List ReportLine
  pub after : List (List ℕ)
  pub order : Follow [] before said
  pub fault : GoesWrong said after column
  pub parts : lines ≡ before ++ after
  pub number : line ≡ length before + 1

-- from a run count on, no `d` line falls back, and no `runs` line has fewer
abbrev pub RunsOnward : ℕ → List ReportLine → Type 0
RunsOnward latest [] = Unit {0}
RunsOnward latest (Delivery run event ∷ said) = (latest ≤ run) × RunsOnward run said
RunsOnward latest (Other ∷ said) = RunsOnward latest said
RunsOnward latest (Runs n ∷ said) = (latest ≤ n) × RunsOnward latest said
RunsOnward latest (Ticks ∷ said) = RunsOnward latest said
RunsOnward latest (Bytes ∷ said) = RunsOnward latest said
RunsOnward latest (Ending ∷ said) = RunsOnward latest said

-- what a whole report says: notes, and then the four closing lines and nothing more
pub record HasReportForm (said : List ReportLine) : Type 0 where
  pub notes : List ReportLine
  pub n : ℕ
  pub are_notes : closing_count notes ≡ 0
  pub is : said ≡ notes ++ Runs n ∷ Ticks ∷ Bytes ∷ Ending ∷ []
  pub onward : RunsOnward 0 said

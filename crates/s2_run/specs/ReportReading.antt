-- The reading of a report: what its lines say as far as they are in order, where they go wrong, and what is taken of the input.
use Rattle.std.specs.Prelude.{ℕ, ◌≡◌, ◌+◌, ◌<◌, ◌≤◌, List, [], ◌∷◌, ◌++◌, length, drop, Some}
use Rattle.std.specs.declared.option.Option.{Option}
use Rattle.s2_journal.specs.declared.note.ReportLine.{ReportLine}
use Rattle.s2_journal.specs.ReportOrder.{Follow, GoesWrong, IsReport}
use Rattle.s2_run.specs.declared.limits.TheConstants.{INPUT_LIMIT}
use Rattle.s2_text.specs.InputLines.{InputLine, lines_of, size_of, texts_of}
use Rattle.s2_run.specs.FailedReads.{IsUnreadBehind}
use Rattle.s2_run.specs.declared.verdict.Verdict.{Verdict}
use Rattle.s2_run.specs.declared.verdict.Verdict.TheVariants.{Passed, Bad, TooLong}

-- how many bytes the first of some lines has: none where there is no line
abbrev pub first_size : List InputLine → ℕ
first_size [] = 0
first_size (line ∷ lines) = line.size

-- the lines of an input before a place are lines of a report in order, and say this; they end within the most bytes of an input
pub record InOrder (input : List ℕ) (said : List ReportLine) : Type 0 where
  pub before : List InputLine
  pub after : List InputLine
  pub lines_are : lines_of input ≡ before ++ after
  pub order : Follow [] (texts_of before) said
  pub short : size_of before ≤ INPUT_LIMIT

-- how many bytes there are to the end of the next line
abbrev pub bytes_through : {input : List ℕ} {said : List ReportLine} → InOrder input said → ℕ
bytes_through place = size_of place.before + first_size place.after

-- the verdict on a report is right, with what the lines say that were in order, and with what is left of the input: all of the
-- lines are a report; or the next one goes wrong, or is missing; or the next one has a byte too many
abbrev pub ReadsReport : List ℕ → Verdict → List ReportLine → Option (List ℕ) → Type 0
ReadsReport input Passed said left = IsReport (texts_of (lines_of input)) said × (size_of (lines_of input) ≤ INPUT_LIMIT) × (left ≡ Some [])
ReadsReport input (Bad number column) said left = (place : InOrder input said) × (number ≡ length place.before + 1) × GoesWrong said (texts_of place.after) column × (bytes_through place ≤ INPUT_LIMIT) × (left ≡ Some (drop (bytes_through place) input))
ReadsReport input (TooLong number) said left = (place : InOrder input said) × (number ≡ length place.before + 1) × (INPUT_LIMIT < bytes_through place) × (left ≡ Some (drop (INPUT_LIMIT + 1) input))

-- a read failed: the lines that were complete in the bytes taken are in order and say this
pub record IsUnread (input : List ℕ) (said : List ReportLine) (left : Option (List ℕ)) : Type 0 where
  pub place : InOrder input said
  pub unread : IsUnreadBehind input place.before left

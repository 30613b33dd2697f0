-- How a run of a script ends: which machine is left, what was written, and what was taken of the input.
use Rattle.std.specs.Prelude.{ℕ, ◌≡◌, ◌+◌, ◌<◌, ◌≤◌, ◌⊎◌, List, [], ◌∷◌, ◌++◌, length, min, take, drop, is_some, true, Some, None, Ok, Err}
use Rattle.std.specs.declared.option.Option.{Option}
use Rattle.std.specs.declared.result.Result.{Result}
use Rattle.s2_journal.specs.declared.note.End.{End}
use Rattle.s2_triplex.specs.TriplexState.{TriplexState}
use Rattle.s2_run.specs.declared.limits.TheConstants.{INPUT_LIMIT}
use Rattle.s2_run.specs.declared.output.StreamFault.{StreamFault}
use Rattle.s2_run.specs.declared.output.StreamFault.TheVariants.{Read, Write}
use Rattle.s2_text.specs.InputLines.{InputLine, lines_of, size_of}
use Rattle.s2_run.specs.FailedReads.{IsUnreadBehind}
use Rattle.s2_run.specs.Transcript.{Report, for_outlet}
use Rattle.s2_run.specs.ScriptRuns.{ChoosesFrame, Stage, ScriptRun, RunsLine, RunsLines, joined_runs, end_of}
use Rattle.s2_run.specs.RunTranscript.{Taken, with_transcript, turn_transcript, stages_transcript, closing_lines, run_transcript}

-- the lines of an input before a place have run so, and have not ended
pub record RunTo (d : TriplexState) (input : List ℕ) (run : ScriptRun) : Type 0 where
  pub before : List InputLine
  pub after : List InputLine
  pub lines_are : lines_of input ≡ before ++ after
  pub ran : RunsLines 0 0 d before run
  pub going : run.end ≡ None
  pub short : size_of before ≤ INPUT_LIMIT

-- the bytes to the end of a line, or one more than an input may have where that is less
abbrev pub bytes_taken : ℕ → ℕ
bytes_taken bytes = min bytes (INPUT_LIMIT + 1)

-- the run of a whole script: all lines have run, and all of the input was taken
pub record RunsToScriptEnd (d : TriplexState) (input : List ℕ) (run : ScriptRun) (left : Option (List ℕ)) : Type 0 where
  pub place : RunTo d input run
  pub all : place.after ≡ []
  pub left_is : left ≡ Some []

-- a run that a line ends: the input was taken to the end of the line
pub record RunsToLineEnd (d : TriplexState) (input : List ℕ) (run : ScriptRun) (left : Option (List ℕ)) : Type 0 where
  pub first : ScriptRun
  pub place : RunTo d input first
  pub line : InputLine
  pub more : List InputLine
  pub next : place.after ≡ line ∷ more
  pub last : ScriptRun
  pub ran : RunsLine (length place.before + 1) (size_of place.before + line.size) first.state line.text last
  pub ends : is_some last.end ≡ true
  pub run_is : run ≡ joined_runs first last
  pub left_is : left ≡ Some (drop (bytes_taken (size_of place.before + line.size)) input)

-- the run of an input, from a machine
abbrev pub RunsInput : TriplexState → List ℕ → ScriptRun → Option (List ℕ) → Type 0
RunsInput d input run left = RunsToScriptEnd d input run left ⊎ RunsToLineEnd d input run left

-- a run has come to its end: all was written
pub record IsRun (d : TriplexState) (input : List ℕ) (end : End) (state : TriplexState) (before now : Taken) (left : Option (List ℕ)) : Type 0 where
  pub run : ScriptRun
  pub runs : RunsInput d input run left
  pub end_is : end ≡ end_of run.end
  pub state_is : state ≡ run.state
  pub wrote : now ≡ with_transcript before (run_transcript run)

-- a read failed: the lines that were complete in the bytes taken have run
pub record IsRunUnread (d : TriplexState) (input : List ℕ) (state : TriplexState) (before now : Taken) (left : Option (List ℕ)) : Type 0 where
  pub run : ScriptRun
  pub place : RunTo d input run
  pub unread : IsUnreadBehind input place.before left
  pub state_is : state ≡ run.state
  pub wrote : now ≡ with_transcript before (stages_transcript run.stages)

-- a write failed at a stage: the stages before it were written whole, and of its own transcript some bytes, but not all; its
-- machine is left
pub record CutAtStage (stages : List Stage) (state : TriplexState) (before now : Taken) : Type 0 where
  pub written : List Stage
  pub stage : Stage
  pub rest : List Stage
  pub bytes : ℕ
  pub stages_are : stages ≡ written ++ stage ∷ rest
  pub short : bytes < length (turn_transcript stage.turn)
  pub state_is : state ≡ stage.state
  pub wrote : now ≡ with_transcript before (stages_transcript written ++ take bytes (turn_transcript stage.turn))

-- a write failed in the line behind a place, and the input was taken to the end of that line
pub record IsRunCut (d : TriplexState) (input : List ℕ) (state : TriplexState) (before now : Taken) (left : Option (List ℕ)) : Type 0 where
  pub first : ScriptRun
  pub place : RunTo d input first
  pub line : InputLine
  pub more : List InputLine
  pub next : place.after ≡ line ∷ more
  pub last : ScriptRun
  pub ran : RunsLine (length place.before + 1) (size_of place.before + line.size) first.state line.text last
  pub cut : CutAtStage (first.stages ++ last.stages) state before now
  pub left_is : left ≡ Some (drop (bytes_taken (size_of place.before + line.size)) input)

-- a write failed in the closing lines
pub record IsClosingCutOff (d : TriplexState) (input : List ℕ) (state : TriplexState) (before now : Taken) (left : Option (List ℕ)) : Type 0 where
  pub run : ScriptRun
  pub runs : RunsInput d input run left
  pub bytes : ℕ
  pub short : bytes < length (closing_lines run)
  pub state_is : state ≡ run.state
  pub wrote : now ≡ with_transcript before (stages_transcript run.stages ++ for_outlet Report (take bytes (closing_lines run)))

-- how a run of an input ends, from a machine with the frame that the lines that were taken choose
abbrev pub ScriptEnds : (ℕ → TriplexState) → List ℕ → Result End StreamFault → TriplexState → Taken → Taken → Option (List ℕ) → Type 0
ScriptEnds start input (Ok end) state before now left = (frame : ℕ) × ChoosesFrame (lines_of input) frame × IsRun (start frame) input end state before now left
ScriptEnds start input (Err Read) state before now left = (frame : ℕ) × (unread : IsRunUnread (start frame) input state before now left) × ChoosesFrame unread.place.before frame
ScriptEnds start input (Err Write) state before now left =
    (frame : ℕ) × ChoosesFrame (lines_of input) frame × (IsRunCut (start frame) input state before now left ⊎ IsClosingCutOff (start frame) input state before now left)

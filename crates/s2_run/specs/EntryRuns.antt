-- What entries do to the triple machine, where they are run as the lines of a script, one after another.
use Rattle.std.specs.Prelude.{ℕ, ◌≡◌, ◌+◌, ◌<◌, List, [], ◌∷◌, ◌++◌, ◌⊎◌, length, take, is_some, Ok, Err, if◌then◌else◌}
use Rattle.std.specs.declared.result.Result.{Result}
use Rattle.s2_script.specs.ScriptLines.{IsProperEntry}
use Rattle.s2_script.specs.declared.entry.Entry.{Entry}
use Rattle.s2_journal.specs.declared.note.End.{End}
use Rattle.s2_triplex.specs.TriplexState.{TriplexState}
use Rattle.s2_run.specs.Transcript.{Report, for_outlet}
use Rattle.s2_run.specs.ScriptRuns.{ScriptRun, resting, joined_runs, entry_run, end_of}
use Rattle.s2_run.specs.RunTranscript.{Taken, with_transcript, stages_transcript, closing_lines, run_transcript}
use Rattle.s2_run.specs.ScriptEndings.{CutAtStage}
use Rattle.s2_run.specs.ScriptRunParts.{HasRun}
use Rattle.s2_run.specs.declared.script_lines.Finish.{Finish}

-- a run after a first part: more of it where that has not ended
abbrev pub continued : ScriptRun → ScriptRun → ScriptRun
continued first rest = if is_some first.end then first else joined_runs first rest

-- entries one after another, the first of them in the line with this number, up to an end
unfoldable pub entries_run : ℕ → TriplexState → List Entry → ScriptRun
entries_run line d [] = resting d
entries_run line d (entry ∷ entries) = continued (entry_run line d entry) (entries_run (line + 1) (entry_run line d entry).state entries)

-- a run has come to its end, and all was written
pub record IsWholeRun (run : ScriptRun) (end : End) (state : TriplexState) (before now : Taken) : Type 0 where
  pub end_is : end ≡ end_of run.end
  pub state_is : state ≡ run.state
  pub wrote : now ≡ with_transcript before (run_transcript run)

-- a write failed in its closing lines
pub record IsClosingCut (run : ScriptRun) (state : TriplexState) (before now : Taken) : Type 0 where
  pub bytes : ℕ
  pub short : bytes < length (closing_lines run)
  pub state_is : state ≡ run.state
  pub wrote : now ≡ with_transcript before (stages_transcript run.stages ++ for_outlet Report (take bytes (closing_lines run)))

-- how a run ends: it was written whole, or cut where a write failed
abbrev pub WrittenRun : {T : Type 0} → ScriptRun → Result End T → TriplexState → Taken → Taken → Type 0
WrittenRun run (Ok end) state before now = IsWholeRun run end state before now
WrittenRun run (Err fault) state before now = CutAtStage run.stages state before now ⊎ IsClosingCut run state before now

-- for the parts of the command: each entry is in the ranges of its fields
abbrev pub AreProperEntries : List Entry → Type 0
AreProperEntries [] = Unit {0}
AreProperEntries (entry ∷ entries) = IsProperEntry entry × AreProperEntries entries

-- for the parts of the command: a run before its closing lines
pub record IsRunOpen (run : ScriptRun) (end : End) (count : ℕ) (state : TriplexState) (before now : Taken) : Type 0 where
  pub end_is : end ≡ end_of run.end
  pub has : HasRun run run.end state 0 count before now

abbrev pub OpenRun : {T : Type 0} → ScriptRun → Result Finish T → TriplexState → Taken → Taken → Type 0
OpenRun run (Ok finish) state before now = IsRunOpen run finish.end finish.written state before now
OpenRun run (Err fault) state before now = CutAtStage run.stages state before now

-- How the command `run NAME` ends.
use Rattle.std.specs.Prelude.{ℕ, ◌≡◌, ◌<◌, ◌⊎◌, List, length, Some, None, Ok, Err, IsSome}
use Rattle.std.specs.declared.option.Option.{Option}
use Rattle.std.specs.declared.result.Result.{Result}
use Rattle.s2_io.specs.Counts.{Rose}
use Rattle.s2_elf.specs.Images.{image_of}
use Rattle.s2_elf.specs.MemoryImage.{MemoryImage}
use Rattle.s2_journal.specs.declared.note.End.{End}
use Rattle.s2_journal.specs.declared.note.End.TheVariants.{Script, Halt, Bad, Outside as OutsideEnd, TooLong as LongEnd, Report}
use Rattle.s2_triplex.specs.TriplexState.{TriplexState}
use Rattle.s2_run.specs.declared.limits.TheConstants.{FILE_LIMIT}
use Rattle.s2_run.specs.LoadedFiles.{IsAccepted, IsRefused, IsFileLine, WroteLine, CutLine, CutRefusal}
use Rattle.s2_run.specs.ReportText.{too_big_line, elf_line}
use Rattle.s2_run.specs.SeenObjects.{Seen, Streams, streams_of, SinkRose}
use Rattle.s2_text.specs.InputLines.{lines_of}
use Rattle.s2_run.specs.FaultCounts.{SinkSame, NoCallFailed, DeskSame, StreamsSame}
use Rattle.s2_run.specs.ScriptRuns.{ScriptRun, end_of, ChoosesFrame}
use Rattle.s2_run.specs.RunTranscript.{Taken, taken}
use Rattle.s2_run.specs.ScriptEndings.{ScriptEnds, RunsInput}
use Rattle.s2_run.specs.MaskedRuns.{first_triplex, ScriptsAreMasked}
use Rattle.s2_run.specs.Headline.{ScriptHeadline}
use Rattle.s2_run.specs.declared.output.StreamFault.{StreamFault}
use Rattle.s2_run.specs.declared.output.StreamFault.TheVariants.{Read, Write}
use Rattle.s2_run.specs.declared.fault.ProgramFault.{ProgramFault}
use Rattle.s2_run.specs.declared.fault.ProgramFault.TheVariants.{File, Stream, Memory as NoMemory}
use Rattle.s2_run.specs.declared.run.RunEnd.{RunEnd}
use Rattle.s2_run.specs.declared.run.RunEnd.TheVariants.{Ended, Refused, TooBig as LargeFile}
use Rattle.s2_run.specs.declared.status.Status.{Status}
use Rattle.s2_run.specs.declared.status.Status.TheVariants.{Done, Elf, BadLine, Outside, ReadFault, WriteFault, TooBig, TooLong, Memory}

-- the status of an end, and of an outcome
abbrev pub end_status : End → Status
end_status Script = Done
end_status (Halt value) = Done
end_status (Bad line column) = BadLine line column
end_status (OutsideEnd line reason) = Outside line reason
end_status (LongEnd line) = TooLong line
end_status Report = Done

abbrev pub run_status : Result RunEnd ProgramFault → Status
run_status (Ok (Ended end)) = end_status end
run_status (Ok (Refused fault)) = Elf fault
run_status (Ok LargeFile) = TooBig FILE_LIMIT
run_status (Err File) = ReadFault
run_status (Err (Stream Read)) = ReadFault
run_status (Err (Stream Write)) = WriteFault
run_status (Err NoMemory) = Memory

-- what the console and the report have taken
abbrev pub taken_of : Streams → Taken
taken_of s = taken s.console s.report

-- the run of a program under a script has ended so, and the machine to which it came is left
pub record LeavesMachine (image : MemoryImage) (input : List ℕ) (result : Result End StreamFault) (last : Option TriplexState)
    (old new : Streams)
    : Type 0 where
  pub state : TriplexState
  pub last_is : last ≡ Some state
  pub ends : ScriptEnds (λ frame. first_triplex frame image) input result state (taken_of old) (taken_of new) new.left

-- how the command ends where the program was loaded
abbrev pub ProgramRuns : MemoryImage → List ℕ → Result RunEnd ProgramFault → Option TriplexState → Streams → Streams → Type 0
ProgramRuns image input (Ok (Ended end)) last old new = LeavesMachine image input (Ok end) last old new
ProgramRuns image input (Ok (Refused fault)) last old new = ⊥
ProgramRuns image input (Ok LargeFile) last old new = ⊥
ProgramRuns image input (Err File) last old new = ⊥
ProgramRuns image input (Err (Stream fault)) last old new = LeavesMachine image input (Err fault) last old new
ProgramRuns image input (Err NoMemory) last old new = (new ≡ old) × (last ≡ None)

-- how the command ends on a file and an input: the program of an accepted file is run, and another file is refused
abbrev pub RunsFile : List ℕ → List ℕ → Result RunEnd ProgramFault → Option TriplexState → Streams → Streams → Type 0
RunsFile file input (Ok (Ended end)) last old new = IsAccepted file × LeavesMachine (image_of file) input (Ok end) last old new
RunsFile file input (Ok (Refused fault)) last old new = IsRefused file fault × WroteLine (elf_line fault) old new × (last ≡ None)
RunsFile file input (Ok LargeFile) last old new = (FILE_LIMIT < length file) × WroteLine too_big_line old new × (last ≡ None)
RunsFile file input (Err File) last old new = (new ≡ old) × (last ≡ None)
RunsFile file input (Err (Stream Read)) last old new = IsAccepted file × LeavesMachine (image_of file) input (Err Read) last old new
RunsFile file input (Err (Stream Write)) last old new =
    (IsAccepted file × LeavesMachine (image_of file) input (Err Write) last old new)
    ⊎ ((line : List ℕ) × IsFileLine file line × CutLine line old new × (last ≡ None))
RunsFile file input (Err NoMemory) last old new = (new ≡ old) × (last ≡ None)

-- why a stream fails, whatever the objects tell: which count rose; and whether a machine is left
abbrev pub RunStreamCause : StreamFault → Option TriplexState → Seen → Seen → Type 0
RunStreamCause Read last old new = Rose old.input.faults new.input.faults × IsSome last
RunStreamCause Write last old new =
    (SinkRose old.console new.console ⊎ SinkRose old.report new.report)
    × ((IsSome last × (new.desk.large ≡ old.desk.large)) ⊎ ((last ≡ None) × CutRefusal old new))

-- why an outcome comes, whatever the objects tell, and whether a machine is left
abbrev pub RunCause : List ℕ → Result RunEnd ProgramFault → Option TriplexState → Seen → Seen → Type 0
RunCause name (Ok (Ended end)) last old new = IsSome last
RunCause name (Ok (Refused fault)) last old new = WroteLine (elf_line fault) (streams_of old) (streams_of new) × (last ≡ None)
RunCause name (Ok LargeFile) last old new =
    Rose old.desk.large new.desk.large × WroteLine too_big_line (streams_of old) (streams_of new) × (last ≡ None)
RunCause name (Err File) last old new =
    Rose (old.desk.faults name) (new.desk.faults name) × (streams_of new ≡ streams_of old) × (last ≡ None)
RunCause name (Err (Stream fault)) last old new = RunStreamCause fault last old new
RunCause name (Err NoMemory) last old new = (streams_of new ≡ streams_of old) × (last ≡ None)

-- the outcome where a machine is left
abbrev pub left_by : Result End StreamFault → Result RunEnd ProgramFault
left_by (Ok end) = Ok (Ended end)
left_by (Err fault) = Err (Stream fault)

-- which counts stay, by the outcome
abbrev pub RunCounts : Result RunEnd ProgramFault → Seen → Seen → Type 0
RunCounts (Ok (Ended end)) old new = DeskSame old.desk new.desk × StreamsSame old new
RunCounts (Ok (Refused fault)) old new = DeskSame old.desk new.desk × StreamsSame old new
RunCounts (Ok LargeFile) old new = NoCallFailed old.desk new.desk × StreamsSame old new
RunCounts (Err File) old new = (new.desk.large ≡ old.desk.large) × StreamsSame old new
RunCounts (Err (Stream Read)) old new = DeskSame old.desk new.desk × SinkSame old.console new.console × SinkSame old.report new.report
RunCounts (Err (Stream Write)) old new = NoCallFailed old.desk new.desk × (new.input.faults ≡ old.input.faults)
RunCounts (Err NoMemory) old new = DeskSame old.desk new.desk × StreamsSame old new

-- an end at which the script was read to its end, or the program halted
abbrev pub IsWholeEnd : End → Type 0
IsWholeEnd Script = Unit {0}
IsWholeEnd (Halt value) = Unit {0}
IsWholeEnd (Bad line column) = ⊥
IsWholeEnd (OutsideEnd line reason) = ⊥
IsWholeEnd (LongEnd line) = ⊥
IsWholeEnd Report = ⊥

-- no count of a fault rose, for this name
pub record IsUndisturbed (name : List ℕ) (old new : Seen) : Type 0 where
  pub desk : Rose (old.desk.faults name) (new.desk.faults name) → ⊥
  pub input : Rose old.input.faults new.input.faults → ⊥
  pub console : SinkRose old.console new.console → ⊥
  pub report : SinkRose old.report new.report → ⊥

-- the command, by its outcome: it ends as the run of the script does; where a machine is left, the promise on its run is kept; every
-- run of a script on the file is masked; the outcome has its cause; and where no count rose, a script that is read to its end, or a
-- program that halts, is done
pub record Runs (name : List ℕ) (answer : Status) (last : Option TriplexState) (old new : Seen) : Type 0 where
  pub outcome : Result RunEnd ProgramFault
  pub answer_is : answer ≡ run_status outcome
  pub told : (file input : List ℕ) → old.desk.held name ≡ Some file → old.input.left ≡ Some input →
      RunsFile file input outcome last (streams_of old) (streams_of new)
  pub headline : (file input : List ℕ) (result : Result End StreamFault) (d : TriplexState) → old.desk.held name ≡ Some file →
      old.input.left ≡ Some input → outcome ≡ left_by result → last ≡ Some d →
      IsAccepted file
      × ScriptHeadline (image_of file) input result d (taken_of (streams_of old)) (taken_of (streams_of new)) new.input.left
  pub masked : (file : List ℕ) → IsAccepted file → ScriptsAreMasked (image_of file)
  pub cause : RunCause name outcome last old new
  pub complete : (file input : List ℕ) (frame : ℕ) (run : ScriptRun) (left : Option (List ℕ)) → old.desk.held name ≡ Some file →
      old.input.left ≡ Some input → IsAccepted file → ChoosesFrame (lines_of input) frame →
      RunsInput (first_triplex frame (image_of file)) input run left → IsWholeEnd (end_of run.end) → IsUndisturbed name old new →
      (answer ≡ Done) ⊎ (answer ≡ Memory)

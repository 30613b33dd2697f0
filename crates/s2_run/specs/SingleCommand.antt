-- How the command `single NAME` ends.
use Rattle.std.specs.Prelude.{ℕ, ◌≡◌, ◌<◌, ◌⊎◌, List, length, Some, Ok, Err}
use Rattle.std.specs.declared.result.Result.{Result}
use Rattle.s2_io.specs.Counts.{Rose}
use Rattle.s2_machine.specs.Machine.{Machine}
use Rattle.s2_elf.specs.Images.{image_of}
use Rattle.s2_run.specs.declared.limits.TheConstants.{FILE_LIMIT}
use Rattle.s2_run.specs.LoadedFiles.{IsAccepted, IsRefused, WroteLine, CutLine, CutRefusal, IsFileLine}
use Rattle.s2_run.specs.ReportText.{too_big_line, elf_line}
use Rattle.s2_run.specs.Execution.{started_image}
use Rattle.s2_run.specs.Replay.{ReplayEnds}
use Rattle.s2_run.specs.SeenObjects.{Seen, SinkSeen, Streams, streams_of, SinkRose}
use Rattle.s2_run.specs.FaultCounts.{SinkSame, NoCallFailed, DeskSame, StreamsSame}
use Rattle.s2_run.specs.declared.verdict.Verdict.{Verdict}
use Rattle.s2_run.specs.declared.verdict.Verdict.TheVariants.{Passed, Bad, TooLong as LongInput}
use Rattle.s2_run.specs.declared.output.StreamFault.{StreamFault}
use Rattle.s2_run.specs.declared.output.StreamFault.TheVariants.{Read, Write}
use Rattle.s2_run.specs.declared.fault.ProgramFault.{ProgramFault}
use Rattle.s2_run.specs.declared.fault.ProgramFault.TheVariants.{File, Stream, Memory as NoMemory}
use Rattle.s2_run.specs.declared.single.SingleEnd.{SingleEnd}
use Rattle.s2_run.specs.declared.single.SingleEnd.TheVariants.{Replayed, Refused, TooBig as LargeFile}
use Rattle.s2_run.specs.declared.status.Status.{Status}
use Rattle.s2_run.specs.declared.status.Status.TheVariants.{Done, Elf, BadLine, ReadFault, WriteFault, TooBig, TooLong, Memory}

-- the status of an outcome
abbrev pub single_status : Result SingleEnd ProgramFault → Status
single_status (Ok (Replayed Passed)) = Done
single_status (Ok (Replayed (Bad line column))) = BadLine line column
single_status (Ok (Replayed (LongInput line))) = TooLong line
single_status (Ok (Refused fault)) = Elf fault
single_status (Ok LargeFile) = TooBig FILE_LIMIT
single_status (Err File) = ReadFault
single_status (Err (Stream Read)) = ReadFault
single_status (Err (Stream Write)) = WriteFault
single_status (Err NoMemory) = Memory

-- how the command ends where the program was started
abbrev pub ProgramEnds : Machine → List ℕ → Result SingleEnd ProgramFault → Streams → Streams → Type 0
ProgramEnds m input (Ok (Replayed verdict)) old new = ReplayEnds m input (Ok verdict) old new
ProgramEnds m input (Ok (Refused fault)) old new = ⊥
ProgramEnds m input (Ok LargeFile) old new = ⊥
ProgramEnds m input (Err File) old new = ⊥
ProgramEnds m input (Err (Stream fault)) old new = ReplayEnds m input (Err fault) old new
ProgramEnds m input (Err NoMemory) old new = new ≡ old

-- how the command ends on a file and an input: the program of an accepted file is run, and another file is refused
abbrev pub SingleEnds : List ℕ → List ℕ → Result SingleEnd ProgramFault → Streams → Streams → Type 0
SingleEnds file input (Ok (Replayed verdict)) old new = IsAccepted file × ReplayEnds (started_image (image_of file)) input (Ok verdict) old new
SingleEnds file input (Ok (Refused fault)) old new = IsRefused file fault × WroteLine (elf_line fault) old new
SingleEnds file input (Ok LargeFile) old new = (FILE_LIMIT < length file) × WroteLine too_big_line old new
SingleEnds file input (Err File) old new = new ≡ old
SingleEnds file input (Err (Stream Read)) old new = IsAccepted file × ReplayEnds (started_image (image_of file)) input (Err Read) old new
SingleEnds file input (Err (Stream Write)) old new = (IsAccepted file × ReplayEnds (started_image (image_of file)) input (Err Write) old new) ⊎ ((line : List ℕ) × IsFileLine file line × CutLine line old new)
SingleEnds file input (Err NoMemory) old new = new ≡ old

-- why a replay fails, whatever the objects tell: which count rose; and a read that fails leaves the report as it was
abbrev pub ReplayCause : Result Verdict StreamFault → ℕ → ℕ → SinkSeen → SinkSeen → SinkSeen → SinkSeen → Type 0
ReplayCause (Ok verdict) faults faults' console console' report report' = Unit {0}
ReplayCause (Err Read) faults faults' console console' report report' = Rose faults faults' × (report'.taken ≡ report.taken)
ReplayCause (Err Write) faults faults' console console' report report' = SinkRose console console' ⊎ SinkRose report report'

-- where the desk is asked, too: a file may have been too big only where its line was cut
abbrev pub SingleStreamCause : StreamFault → Seen → Seen → Type 0
SingleStreamCause Read old new = Rose old.input.faults new.input.faults × (new.report.taken ≡ old.report.taken)
SingleStreamCause Write old new =
    (SinkRose old.console new.console ⊎ SinkRose old.report new.report)
    × ((new.desk.large ≡ old.desk.large) ⊎ CutRefusal old new)

-- why an outcome comes, whatever the objects tell
abbrev pub SingleCause : List ℕ → Result SingleEnd ProgramFault → Seen → Seen → Type 0
SingleCause name (Ok (Replayed verdict)) old new = Unit {0}
SingleCause name (Ok (Refused fault)) old new = WroteLine (elf_line fault) (streams_of old) (streams_of new)
SingleCause name (Ok LargeFile) old new = Rose old.desk.large new.desk.large × WroteLine too_big_line (streams_of old) (streams_of new)
SingleCause name (Err File) old new = Rose (old.desk.faults name) (new.desk.faults name) × (streams_of new ≡ streams_of old)
SingleCause name (Err (Stream fault)) old new = SingleStreamCause fault old new
SingleCause name (Err NoMemory) old new = streams_of new ≡ streams_of old

-- which counts stay, by the outcome
abbrev pub SingleCounts : Result SingleEnd ProgramFault → Seen → Seen → Type 0
SingleCounts (Ok (Replayed verdict)) old new = DeskSame old.desk new.desk × StreamsSame old new
SingleCounts (Ok (Refused fault)) old new = DeskSame old.desk new.desk × StreamsSame old new
SingleCounts (Ok LargeFile) old new = NoCallFailed old.desk new.desk × StreamsSame old new
SingleCounts (Err File) old new = (new.desk.large ≡ old.desk.large) × StreamsSame old new
SingleCounts (Err (Stream Read)) old new = DeskSame old.desk new.desk × SinkSame old.console new.console × SinkSame old.report new.report
SingleCounts (Err (Stream Write)) old new = NoCallFailed old.desk new.desk × (new.input.faults ≡ old.input.faults)
SingleCounts (Err NoMemory) old new = DeskSame old.desk new.desk × StreamsSame old new

-- the command, by its outcome
pub record Singles (name : List ℕ) (answer : Status) (old new : Seen) : Type 0 where
  pub outcome : Result SingleEnd ProgramFault
  pub answer_is : answer ≡ single_status outcome
  pub told : (file input : List ℕ) → old.desk.held name ≡ Some file → old.input.left ≡ Some input → SingleEnds file input outcome (streams_of old) (streams_of new)
  pub cause : SingleCause name outcome old new

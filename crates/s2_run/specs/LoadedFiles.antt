-- The file of a command: a program, or none.
use Rattle.std.specs.Prelude.{ℕ, ◌≡◌, ◌<◌, ◌≤◌, ◌⊎◌, List, length, true, Some, Ok, Err}
use Rattle.std.specs.declared.result.Result.{Result}
use Rattle.s2_io.specs.Counts.{Rose}
use Rattle.s2_elf.specs.Files.{accepts, refusal}
use Rattle.s2_elf.specs.Images.{image_of}
use Rattle.s2_elf.specs.MemoryImage.{MemoryImage}
use Rattle.s2_elf.specs.declared.fault.ElfFault.{ElfFault}
use Rattle.s2_io.specs.Sinks.{appended}
use Rattle.s2_run.specs.ReportText.{too_big_line, elf_line}
use Rattle.s2_run.specs.SeenObjects.{DeskSeen, Seen, Streams, streams_of, IsCut}
use Rattle.s2_run.specs.FaultCounts.{DeskSame, NoCallFailed}
use Rattle.s2_run.specs.declared.limits.TheConstants.{FILE_LIMIT}
use Rattle.s2_run.specs.declared.loading.LoadFail.{LoadFail}
use Rattle.s2_run.specs.declared.loading.LoadFail.TheVariants.{File as NoFile, TooBig as LargeFile, Refused as BadFile, Memory as NoMemory}

-- a file is small enough, and accepted
pub record IsAccepted (file : List ℕ) : Type 0 where
  pub fits : length file ≤ FILE_LIMIT
  pub accepted : accepts file ≡ true

-- a file is small enough, and refused with this fault
pub record IsRefused (file : List ℕ) (fault : ElfFault) : Type 0 where
  pub fits : length file ≤ FILE_LIMIT
  pub refused : refusal file ≡ Some fault

-- one line was written to the report, and nothing else was touched; or the line was cut
pub record WroteLine (line : List ℕ) (old new : Streams) : Type 0 where
  pub left_same : new.left ≡ old.left
  pub console_same : new.console ≡ old.console
  pub report_took : new.report ≡ appended old.report line

pub record CutLine (line : List ℕ) (old new : Streams) : Type 0 where
  pub left_same : new.left ≡ old.left
  pub console_same : new.console ≡ old.console
  pub cut : IsCut line old.report new.report

-- the line of a file that gives no program
abbrev pub IsFileLine : List ℕ → List ℕ → Type 0
IsFileLine file line = ((fault : ElfFault) × IsRefused file fault × (line ≡ elf_line fault)) ⊎ ((FILE_LIMIT < length file) × (line ≡ too_big_line))

-- whatever the desk tells: the line of a file that gives no program was cut, and where it was too big, its count rose
pub record CutRefusal (old new : Seen) : Type 0 where
  pub line : List ℕ
  pub says : ((fault : ElfFault) × (line ≡ elf_line fault) × (new.desk.large ≡ old.desk.large))
      ⊎ ((line ≡ too_big_line) × Rose old.desk.large new.desk.large)
  pub cut : CutLine line (streams_of old) (streams_of new)

-- for the parts of the commands: what the loader answers for a file that the desk tells
abbrev pub LoadsFile : List ℕ → Result MemoryImage LoadFail → Type 0
LoadsFile file (Ok image) = IsAccepted file × (image ≡ image_of file)
LoadsFile file (Err (BadFile fault)) = IsRefused file fault
LoadsFile file (Err LargeFile) = FILE_LIMIT < length file
LoadsFile file (Err NoFile) = Unit {0}
LoadsFile file (Err NoMemory) = Unit {0}

-- why it gives no image: which count of the desk rose
abbrev pub LoadCause : {T : Type 0} → Result T LoadFail → ℕ → ℕ → ℕ → ℕ → Type 0
LoadCause (Err NoFile) faults faults' large large' = Rose faults faults'
LoadCause (Err LargeFile) faults faults' large large' = Rose large large'
LoadCause (Err (BadFile fault)) faults faults' large large' = Unit {0}
LoadCause (Err NoMemory) faults faults' large large' = Unit {0}
LoadCause (Ok image) faults faults' large large' = Unit {0}

-- and which counts of the desk stay: only a call that failed raises one, and there is no second call
abbrev pub LoadCounts : {T : Type 0} → Result T LoadFail → DeskSeen → DeskSeen → Type 0
LoadCounts (Err NoFile) desk desk' = desk'.large ≡ desk.large
LoadCounts (Err LargeFile) desk desk' = NoCallFailed desk desk'
LoadCounts (Err (BadFile fault)) desk desk' = DeskSame desk desk'
LoadCounts (Err NoMemory) desk desk' = DeskSame desk desk'
LoadCounts (Ok image) desk desk' = DeskSame desk desk'

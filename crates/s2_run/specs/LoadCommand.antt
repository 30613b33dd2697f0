-- How the command `load N` ends.
use Rattle.std.specs.Prelude.{ℕ, ◌≡◌, ◌⊎◌, Some, None, Ok, Err}
use Rattle.std.specs.declared.option.Option.{Option}
use Rattle.std.specs.declared.result.Result.{Result}
use Rattle.s2_clock.specs.declared.numbers.TheConstants.{FRAME}
use Rattle.s2_elf.specs.MemoryImage.{MemoryImage}
use Rattle.s2_gen.specs.ProgramImage.{IsWorkloadImage}
use Rattle.s2_gen.specs.WorkloadScript.{workload_entries}
use Rattle.s2_journal.specs.declared.note.End.{End}
use Rattle.s2_triplex.specs.TriplexState.{TriplexState}
use Rattle.s2_run.specs.SeenObjects.{Seen, SinkSeen, SinkRose}
use Rattle.s2_run.specs.FaultCounts.{SinkSame}
use Rattle.s2_run.specs.ScriptRuns.{ScriptRun, end_of}
use Rattle.s2_run.specs.RunTranscript.{Taken, taken}
use Rattle.s2_run.specs.MaskedRuns.{first_triplex, RunIsMasked}
use Rattle.s2_run.specs.EntryRuns.{entries_run, WrittenRun}
use Rattle.s2_run.specs.Headline.{Extent, whole, unread, cut, cut_closing, Headline}
use Rattle.s2_run.specs.RunCommand.{end_status, IsWholeEnd}
use Rattle.s2_run.specs.declared.load.WorkloadFault.{WorkloadFault}
use Rattle.s2_run.specs.declared.load.WorkloadFault.TheVariants.{Write, Memory as NoMemory}
use Rattle.s2_run.specs.declared.status.Status.{Status}
use Rattle.s2_run.specs.declared.status.Status.TheVariants.{Done, WriteFault, Memory}

-- the run of a workload: its entries as the lines of a script from line 1 on, from the start of its program
abbrev pub workload_run : MemoryImage → ScriptRun
workload_run image = entries_run 1 (first_triplex FRAME image) workload_entries

-- the status of an outcome
abbrev pub load_status : Result End WorkloadFault → Status
load_status (Ok end) = end_status end
load_status (Err Write) = WriteFault
load_status (Err NoMemory) = Memory

-- the run of workload n has ended so, and the machine to which it came is left
pub record LeavesWorkload (n : ℕ) (result : Result End WorkloadFault) (last : Option TriplexState) (before now : Taken) : Type 0 where
  pub image : MemoryImage
  pub image_is : IsWorkloadImage n image
  pub state : TriplexState
  pub last_is : last ≡ Some state
  pub ends : WrittenRun (workload_run image) result state before now

-- what the console and the report have taken
abbrev pub both_taken : SinkSeen → SinkSeen → Taken
both_taken console report = taken console.taken report.taken

-- what a call answered that ran a workload so far
abbrev pub MakesWorkload : Result End WorkloadFault → Extent → ScriptRun → Type 0
MakesWorkload outcome whole run = outcome ≡ Ok (end_of run.end)
MakesWorkload outcome unread run = ⊥
MakesWorkload outcome cut run = outcome ≡ Err Write
MakesWorkload outcome cut_closing run = outcome ≡ Err Write

-- the promise on the run of workload n, whose frame is FRAME
pub record WorkloadHeadline (n : ℕ) (outcome : Result End WorkloadFault) (d : TriplexState) (before now : Taken) : Type 0 where
  pub image : MemoryImage
  pub image_is : IsWorkloadImage n image
  pub extent : Extent
  pub made : MakesWorkload outcome extent (workload_run image)
  pub promise : Headline FRAME image extent (workload_run image) d before now

-- how the command ends, and why a write fails: a count of the console or of the report rose. Where memory is refused, nothing was
-- touched.
abbrev pub LoadEnds : ℕ → Result End WorkloadFault → Option TriplexState → SinkSeen → SinkSeen → SinkSeen → SinkSeen → Type 0
LoadEnds n (Ok end) last console console' report report' =
    LeavesWorkload n (Ok end) last (both_taken console report) (both_taken console' report')
LoadEnds n (Err Write) last console console' report report' =
    LeavesWorkload n (Err Write) last (both_taken console report) (both_taken console' report')
    × (SinkRose console console' ⊎ SinkRose report report')
LoadEnds n (Err NoMemory) last console console' report report' = (console' ≡ console) × (report' ≡ report) × (last ≡ None)

-- which counts of the sinks stay, by the outcome
abbrev pub WorkloadCounts : Result End WorkloadFault → SinkSeen → SinkSeen → SinkSeen → SinkSeen → Type 0
WorkloadCounts (Ok end) console console' report report' = SinkSame console console' × SinkSame report report'
WorkloadCounts (Err Write) console console' report report' = Unit {0}
WorkloadCounts (Err NoMemory) console console' report report' = SinkSame console console' × SinkSame report report'

-- the command, by its outcome: it ends as the run of the workload does; where a machine is left, the promise on that run is kept,
-- which is masked; its script is lawful whatever its program does, so it is done, or a write failed, or memory was refused; where no
-- count rose, it is done, or memory was refused; and neither the desk nor the input was touched
pub record Loads (n : ℕ) (answer : Status) (last : Option TriplexState) (old new : Seen) : Type 0 where
  pub outcome : Result End WorkloadFault
  pub answer_is : answer ≡ load_status outcome
  pub ends : LoadEnds n outcome last old.console new.console old.report new.report
  pub headline : (d : TriplexState) → last ≡ Some d →
      WorkloadHeadline n outcome d (both_taken old.console old.report) (both_taken new.console new.report)
  pub masked : (image : MemoryImage) → IsWorkloadImage n image → RunIsMasked FRAME image (workload_run image)
  pub complete : (image : MemoryImage) → IsWorkloadImage n image → (SinkRose old.console new.console → ⊥) →
      (SinkRose old.report new.report → ⊥) → (answer ≡ end_status (end_of (workload_run image).end)) ⊎ (answer ≡ Memory)
  pub lawful : (image : MemoryImage) → IsWorkloadImage n image → IsWholeEnd (end_of (workload_run image).end)
  pub always : (answer ≡ Done) ⊎ (((answer ≡ WriteFault) × (SinkRose old.console new.console ⊎ SinkRose old.report new.report)) ⊎ (answer ≡ Memory))
  pub desk_same : new.desk ≡ old.desk
  pub input_same : new.input ≡ old.input

-- For the parts of the command `single`: what a line of a report does to a machine, and how the lines of a report end.
use Rattle.std.specs.Prelude.{ℕ, ◌≡◌, ◌-◌, List, [], length, Ok, Err}
use Rattle.std.specs.declared.result.Result.{Result}
use Rattle.s2_io.specs.Counts.{Rose}
use Rattle.s2_io.specs.Sinks.{appended}
use Rattle.s2_machine.specs.Machine.{Machine}
use Rattle.s2_machine.specs.MachineRun.{RunState, after_delivery}
use Rattle.s2_single.specs.SingleMachine.{in_run}
use Rattle.s2_journal.specs.declared.note.ReportLine.{ReportLine}
use Rattle.s2_journal.specs.declared.note.ReportLine.TheVariants.{Delivery, Other, Runs, Ticks, Bytes, End as Ending}
use Rattle.s2_run.specs.Execution.{run_within}
use Rattle.s2_run.specs.ReportReading.{ReadsReport}
use Rattle.s2_run.specs.Replay.{replayed, IsReplayUnread, IsReplayCut}
use Rattle.s2_run.specs.SeenObjects.{SinkSeen, Streams, SinkRose}
use Rattle.s2_run.specs.declared.output.StreamFault.{StreamFault}
use Rattle.s2_run.specs.declared.output.StreamFault.TheVariants.{Read, Write}
use Rattle.s2_run.specs.declared.replay.ReplayedLines.{ReplayedLines}

-- a machine at a run count, where it has not come so far and does not halt before
abbrev pub reached : ℕ → Machine → RunState
reached run m = run_within m (run - m.cpu.run)

-- a machine after a line of a report
abbrev pub after_line : ReportLine → Machine → RunState
after_line (Delivery run event) m = after_delivery (reached run m) event
after_line Other m = in_run m []
after_line (Runs n) m = reached n m
after_line Ticks m = in_run m []
after_line Bytes m = in_run m []
after_line Ending m = in_run m []

-- the lines of a report were read, and the machine ran by those that were in order
pub record IsRunThrough (m : Machine) (input : List ℕ) (found : ReplayedLines) (m' : Machine) (old new : Streams) : Type 0 where
  pub said : List ReportLine
  pub reading : ReadsReport input found.verdict said new.left
  pub machine_is : m' ≡ (replayed m said).machine
  pub bytes_are : found.bytes ≡ length (replayed m said).bytes
  pub console_took : new.console ≡ appended old.console (replayed m said).bytes

-- how the lines of a report end
abbrev pub LinesEnd : Machine → List ℕ → Result ReplayedLines StreamFault → Machine → Streams → Streams → Type 0
LinesEnd m input (Ok found) m' old new = IsRunThrough m input found m' old new
LinesEnd m input (Err Read) m' old new = IsReplayUnread m input old new
LinesEnd m input (Err Write) m' old new = IsReplayCut m input old new

-- why they do not
abbrev pub LinesCause : Result ReplayedLines StreamFault → ℕ → ℕ → SinkSeen → SinkSeen → Type 0
LinesCause (Ok found) faults faults' console console' = Unit {0}
LinesCause (Err Read) faults faults' console console' = Rose faults faults'
LinesCause (Err Write) faults faults' console console' = SinkRose console console'

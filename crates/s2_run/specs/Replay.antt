-- The replay of a report: what one processor with flat memories does under its deliveries, and what is written.
use Rattle.std.specs.Prelude.{ℕ, ◌≡◌, ◌<◌, ◌≤◌, ◌⊎◌, List, [], ◌∷◌, ◌++◌, length, max, take, drop, Some, None, Ok, Err}
use Rattle.std.specs.declared.option.Option.{Option}
use Rattle.std.specs.declared.result.Result.{Result}
use Rattle.s2_io.specs.Sinks.{appended}
use Rattle.s2_machine.specs.Machine.{Machine}
use Rattle.s2_machine.specs.MachineRun.{RunState, machine_run}
use Rattle.s2_machine.specs.declared.deliveries.Delivery.{Delivery as DeliveryAt}
use Rattle.s2_journal.specs.declared.note.ReportLine.{ReportLine}
use Rattle.s2_journal.specs.declared.note.ReportLine.TheVariants.{Delivery, Other, Runs, Ticks, Bytes, End as Ending}
use Rattle.s2_journal.specs.declared.note.End.{End}
use Rattle.s2_journal.specs.declared.note.End.TheVariants.{Halt, Bad as BadEnd, TooLong as LongEnd, Report}
use Rattle.s2_run.specs.ReportText.{replay_lines}
use Rattle.s2_run.specs.ReportReading.{InOrder, ReadsReport, IsUnread}
use Rattle.s2_text.specs.InputLines.{size_of}
use Rattle.s2_run.specs.SeenObjects.{Streams, IsCut}
use Rattle.s2_run.specs.declared.verdict.Verdict.{Verdict}
use Rattle.s2_run.specs.declared.verdict.Verdict.TheVariants.{Passed, Bad, TooLong}
use Rattle.s2_run.specs.declared.output.StreamFault.{StreamFault}
use Rattle.s2_run.specs.declared.output.StreamFault.TheVariants.{Read, Write}

-- the deliveries of a report's lines: those of its `d` lines, in order
abbrev pub deliveries_of : List ReportLine → List DeliveryAt
deliveries_of [] = []
deliveries_of (Delivery run event ∷ said) = (record { run = run; event = event }) ∷ deliveries_of said
deliveries_of (Other ∷ said) = deliveries_of said
deliveries_of (Runs n ∷ said) = deliveries_of said
deliveries_of (Ticks ∷ said) = deliveries_of said
deliveries_of (Bytes ∷ said) = deliveries_of said
deliveries_of (Ending ∷ said) = deliveries_of said

-- the run count that a line names, and 0 for one that names none
abbrev pub run_of : ReportLine → ℕ
run_of (Delivery run event) = run
run_of Other = 0
run_of (Runs n) = n
run_of Ticks = 0
run_of Bytes = 0
run_of Ending = 0

-- the run count to which a report's lines come: the greatest that one of them names. Where they are in order it is the last one
abbrev pub last_run : List ReportLine → ℕ
last_run [] = 0
last_run (x ∷ said) = max (run_of x) (last_run said)

-- a machine under the deliveries of a report's lines, at the run count to which they come, with its console bytes
abbrev pub replayed : Machine → List ReportLine → RunState
replayed m said = machine_run m (deliveries_of said) (last_run said)

-- the end of a replay: that of its report where it went wrong, and else the machine's
abbrev pub replay_end : Verdict → Option ℕ → End
replay_end Passed (Some value) = Halt value
replay_end Passed None = Report
replay_end (Bad line column) halt = BadEnd line column
replay_end (TooLong line) halt = LongEnd line

-- the closing lines of a replay
abbrev pub replay_closing : Verdict → RunState → List ℕ
replay_closing verdict ran = replay_lines ran.machine.cpu.run (length ran.bytes) (replay_end verdict ran.machine.halt)

-- the report was read to its end, or to where it goes wrong; the console took the bytes of the replay, and the report its closing
-- lines
pub record IsReplayed (m : Machine) (input : List ℕ) (verdict : Verdict) (old new : Streams) : Type 0 where
  pub said : List ReportLine
  pub reading : ReadsReport input verdict said new.left
  pub console_took : new.console ≡ appended old.console (replayed m said).bytes
  pub report_took : new.report ≡ appended old.report (replay_closing verdict (replayed m said))

-- a read failed: the console took the bytes of the replay of the lines before it
pub record IsReplayUnread (m : Machine) (input : List ℕ) (old new : Streams) : Type 0 where
  pub said : List ReportLine
  pub unread : IsUnread input said new.left
  pub console_took : new.console ≡ appended old.console (replayed m said).bytes
  pub report_same : new.report ≡ old.report

-- a write to the console failed, while a line was run: the console took all bytes of the replay of the lines before it, but not
-- all of those of the line
pub record IsReplayCut (m : Machine) (input : List ℕ) (old new : Streams) : Type 0 where
  pub said : List ReportLine
  pub last : ReportLine
  pub place : InOrder input (said ++ last ∷ [])
  pub bytes : ℕ
  pub before : length (replayed m said).bytes ≤ bytes
  pub short : bytes < length (replayed m (said ++ last ∷ [])).bytes
  pub console_took : new.console ≡ appended old.console (take bytes (replayed m (said ++ last ∷ [])).bytes)
  pub report_same : new.report ≡ old.report
  pub left_is : new.left ≡ Some (drop (size_of place.before) input)

-- a write to the report failed, within the closing lines
pub record IsClosingCut (m : Machine) (input : List ℕ) (old new : Streams) : Type 0 where
  pub verdict : Verdict
  pub said : List ReportLine
  pub reading : ReadsReport input verdict said new.left
  pub console_took : new.console ≡ appended old.console (replayed m said).bytes
  pub cut : IsCut (replay_closing verdict (replayed m said)) old.report new.report

-- how a replay ends
abbrev pub ReplayEnds : Machine → List ℕ → Result Verdict StreamFault → Streams → Streams → Type 0
ReplayEnds m input (Ok verdict) old new = IsReplayed m input verdict old new
ReplayEnds m input (Err Read) old new = IsReplayUnread m input old new
ReplayEnds m input (Err Write) old new = IsReplayCut m input old new ⊎ IsClosingCut m input old new

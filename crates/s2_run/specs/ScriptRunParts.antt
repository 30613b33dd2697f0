-- For the parts of the command: what steps of a script have come to, with what was written.
use Rattle.std.specs.Prelude.{ℕ, ◌≡◌, ◌+◌, ◌≤◌, ◌⊎◌, List, Some, None, Ok, Err, OnOk, OnErr, zero, suc}
use Rattle.std.specs.declared.option.Option.{Option}
use Rattle.std.specs.declared.result.Result.{Result}
use Rattle.s2_io.specs.Counts.{Rose}
use Rattle.s2_journal.specs.declared.note.End.{End}
use Rattle.s2_clock.specs.declared.numbers.TheConstants.{FRAME}
use Rattle.s2_text.specs.declared.stops.BadLine.{BadLine}
use Rattle.s2_text.specs.LineTables.{ReadsLine}
use Rattle.s2_script.specs.ScriptLines.{script_rows}
use Rattle.s2_script.specs.FirstLines.{ReadsFirst}
use Rattle.s2_script.specs.declared.entry.Entry.{Entry}
use Rattle.s2_script.specs.declared.entry.First.{First}
use Rattle.s2_script.specs.declared.entry.First.TheVariants.{Frame, Entry as EntryOf}
use Rattle.s2_triplex.specs.TriplexState.{TriplexState, with_frame}
use Rattle.s2_run.specs.declared.limits.TheConstants.{TICK_LIMIT}
use Rattle.s2_run.specs.SeenObjects.{SinkSeen, SinkRose}
use Rattle.s2_text.specs.InputLines.{lines_of}
use Rattle.s2_run.specs.FaultCounts.{SinkSame}
use Rattle.s2_run.specs.ScriptRuns.{ScriptRun, end_of, ChoosesFrame}
use Rattle.s2_run.specs.ScriptEndings.{RunsInput, IsRunUnread, IsRunCut}
use Rattle.s2_run.specs.declared.script_lines.Finish.{Finish}
use Rattle.s2_run.specs.declared.output.StreamFault.{StreamFault}
use Rattle.s2_run.specs.declared.output.StreamFault.TheVariants.{Read, Write}
use Rattle.s2_run.specs.RunTranscript.{Taken, with_transcript, stages_transcript, console_count}

-- a run has come to this: its end, its machine, the count of its console bytes; and what it writes was written
pub record HasRun (run : ScriptRun) (end : Option End) (state : TriplexState) (count count' : ℕ) (before now : Taken) : Type 0 where
  pub end_is : end ≡ run.end
  pub state_is : state ≡ run.state
  pub count_is : count' ≡ count + console_count run.stages
  pub wrote : now ≡ with_transcript before (stages_transcript run.stages)

-- the lines of an input have come to an end, and what they write was written
pub record HasEnded (d : TriplexState) (input : List ℕ) (end : End) (count : ℕ) (state : TriplexState) (before now : Taken) (left : Option (List ℕ)) : Type 0 where
  pub run : ScriptRun
  pub runs : RunsInput d input run left
  pub end_is : end ≡ end_of run.end
  pub has : HasRun run run.end state 0 count before now

-- how the lines of an input end, from a machine with the frame that the lines that were taken choose
abbrev pub LinesEnd : (ℕ → TriplexState) → List ℕ → Result Finish StreamFault → TriplexState → Taken → Taken → Option (List ℕ) → Type 0
LinesEnd start input (Ok finish) state before now left = (frame : ℕ) × ChoosesFrame (lines_of input) frame × HasEnded (start frame) input finish.end finish.written state before now left
LinesEnd start input (Err Read) state before now left = (frame : ℕ) × (unread : IsRunUnread (start frame) input state before now left) × ChoosesFrame unread.place.before frame
LinesEnd start input (Err Write) state before now left = (frame : ℕ) × ChoosesFrame (lines_of input) frame × IsRunCut (start frame) input state before now left

-- so many ticks after which the run goes on
pub record TicksWent (d d' : TriplexState) (n : ℕ) : Type 0 where
  pub running : d'.halt ≡ None
  pub ticks : d'.ticks ≡ d.ticks + n
  pub accepted : d'.accepted ≡ d.accepted

abbrev pub TicksWentIf : Option End → TriplexState → TriplexState → ℕ → Type 0
TicksWentIf None d d' n = TicksWent d d' n
TicksWentIf (Some end) d d' n = Unit {0}

-- a line after which the run goes on: what its ticks, events and console bytes add up to
pub record LineWent (d d' : TriplexState) (count count' : ℕ) : Type 0 where
  pub running : d'.halt ≡ None
  pub ticks : d'.ticks ≤ TICK_LIMIT
  pub accepted : d'.accepted ≤ d.accepted + 1
  pub room : count' + d.ticks ≤ count + d'.ticks + 1

abbrev pub LineWentIf : Option End → TriplexState → TriplexState → ℕ → ℕ → Type 0
LineWentIf None d d' count count' = LineWent d d' count count'
LineWentIf (Some end) d d' count count' = Unit {0}

-- no count of a sink has fallen
pub record SinkStays (old new : SinkSeen) : Type 0 where
  pub faults : old.faults ≤ new.faults
  pub empty_takes : old.empty_takes ≤ new.empty_takes

-- no count of the two sinks has fallen; a write failed only where one of them rose, and none failed only where none did
pub record WriteCause {T E : Type 0} (result : Result T E) (console console' report report' : SinkSeen) : Type 0 where
  pub console_stays : SinkStays console console'
  pub report_stays : SinkStays report report'
  pub failed : OnErr result (SinkRose console console' ⊎ SinkRose report report')
  pub passed : OnOk result (SinkSame console console' × SinkSame report report')

-- why the lines of an input come to no end: a count of the input, or of a sink, rose
abbrev pub StreamCause : {T : Type 0} → Result T StreamFault → ℕ → ℕ → SinkSeen → SinkSeen → SinkSeen → SinkSeen → Type 0
StreamCause (Ok end) faults faults' console console' report report' = Unit {0}
StreamCause (Err Read) faults faults' console console' report report' = Rose faults faults'
StreamCause (Err Write) faults faults' console console' report report' = SinkRose console console' ⊎ SinkRose report report'

-- what a reader of line 1 answers: the entry, where it has one, the frame that it chooses, and the machine with it
abbrev pub entry_of : Result First BadLine → Result (Option Entry) BadLine
entry_of (Ok (Frame frame)) = Ok None
entry_of (Ok (EntryOf entry)) = Ok entry
entry_of (Err bad) = Err bad

abbrev pub frame_of : Result First BadLine → ℕ
frame_of (Ok (Frame frame)) = frame
frame_of (Ok (EntryOf entry)) = FRAME
frame_of (Err bad) = FRAME

abbrev pub framed_by : Result First BadLine → TriplexState → TriplexState
framed_by (Ok (Frame frame)) d = with_frame frame d
framed_by (Ok (EntryOf entry)) d = d
framed_by (Err bad) d = d

-- a line with a number was read, and where it is line 1, the machine may have another frame
abbrev pub ReadsAt : ℕ → List ℕ → TriplexState → Result (Option Entry) BadLine → TriplexState → Type 0
ReadsAt zero text d read d' = ReadsLine script_rows text read × (d' ≡ d)
ReadsAt (suc zero) text d read d' = (first : Result First BadLine) × ReadsFirst text first × (read ≡ entry_of first) × (d' ≡ framed_by first d)
ReadsAt (suc (suc n)) text d read d' = ReadsLine script_rows text read × (d' ≡ d)

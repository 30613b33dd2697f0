-- The promise on one run of a program: what the machine that is left, the console and the report have of it; and which run it is,
-- where a script is run.
use Rattle.std.specs.Prelude.{ℕ, ◌≡◌, ◌+◌, ◌<◌, ◌++◌, List, [], ◌∷◌, length, take, drop, Some, Ok, Err}
use Rattle.std.specs.declared.option.Option.{Option}
use Rattle.std.specs.declared.result.Result.{Result}
use Rattle.s2_io.specs.Sinks.{appended}
use Rattle.s2_elf.specs.MemoryImage.{MemoryImage}
use Rattle.s2_journal.specs.declared.note.End.{End}
use Rattle.s2_machine.specs.MachineRun.{single_run}
use Rattle.s2_triplex.specs.TriplexState.{TriplexState}
use Rattle.s2_triplex.specs.ReferenceMachine.{reference, runs}
use Rattle.s2_run.specs.declared.output.StreamFault.{StreamFault}
use Rattle.s2_run.specs.declared.output.StreamFault.TheVariants.{Read, Write}
use Rattle.s2_text.specs.InputLines.{InputLine, size_of, lines_of}
use Rattle.s2_run.specs.FailedReads.{IsUnreadBehind}
use Rattle.s2_run.specs.Transcript.{Report, for_outlet}
use Rattle.s2_run.specs.ScriptRuns.{Stage, ScriptRun, RunsLine, ChoosesFrame, joined_runs, end_of}
use Rattle.s2_run.specs.RunTranscript.{Taken, with_transcript, turn_transcript, stages_transcript, closing_lines, run_transcript}
use Rattle.s2_run.specs.ScriptEndings.{RunTo, RunsInput, bytes_taken}
use Rattle.s2_run.specs.MaskedRuns.{first_triplex, printed_deliveries, state_after, RunIsMasked}

-- how far a call came: the run came to its end, and all was written; a read failed behind it; a write failed at a stage of it, or in
-- its closing lines
pub data Extent : Type 0 where
  whole : Extent
  unread : Extent
  cut : Extent
  cut_closing : Extent

-- a write failed at the last of some stages: those before it were written whole, and of its own transcript some bytes, but not all
pub record IsCutAtLast (stages : List Stage) (before now : Taken) : Type 0 where
  pub written : List Stage
  pub stage : Stage
  pub stages_are : stages ≡ written ++ stage ∷ []
  pub bytes : ℕ
  pub short : bytes < length (turn_transcript stage.turn)
  pub wrote : now ≡ with_transcript before (stages_transcript written ++ take bytes (turn_transcript stage.turn))

-- a write failed in the closing lines of a run, of which some bytes were written, but not all
pub record IsCutInClosing (run : ScriptRun) (before now : Taken) : Type 0 where
  pub bytes : ℕ
  pub short : bytes < length (closing_lines run)
  pub wrote : now ≡ with_transcript before (stages_transcript run.stages ++ for_outlet Report (take bytes (closing_lines run)))

-- What was written of a run, and to which of its stages the call came: to all, with the closing lines; to all, without them; to the
-- stage at which a write failed, behind which others may stand; to all, up to where a write of the closing lines failed.
abbrev pub HasWritten : Extent → ScriptRun → List Stage → List Stage → Taken → Taken → Type 0
HasWritten whole run stages rest before now = (rest ≡ []) × (now ≡ with_transcript before (run_transcript run))
HasWritten unread run stages rest before now = (rest ≡ []) × (now ≡ with_transcript before (stages_transcript run.stages))
HasWritten cut run stages rest before now = IsCutAtLast stages before now
HasWritten cut_closing run stages rest before now = (rest ≡ []) × IsCutInClosing run before now

-- a front of bytes was taken
pub record TookFront (bytes : List ℕ) (taken taken' : Option (List ℕ)) : Type 0 where
  pub front : List ℕ
  pub more : List ℕ
  pub whole_is : bytes ≡ front ++ more
  pub took : taken' ≡ appended taken front

-- the console took bytes, or a front of them where a write failed at a stage
abbrev pub TookBytes : Extent → List ℕ → Option (List ℕ) → Option (List ℕ) → Type 0
TookBytes whole bytes console console' = console' ≡ appended console bytes
TookBytes unread bytes console console' = console' ≡ appended console bytes
TookBytes cut bytes console console' = TookFront bytes console console'
TookBytes cut_closing bytes console console' = console' ≡ appended console bytes

-- The promise. A machine d is left: that to which stages of a run lead, from the start of a program with a frame; and of these stages
-- so much is written. One R2000 with flat memories, over the deliveries that the stages print and the run cycles of d, comes to the
-- reference machine of d, and the console took exactly its bytes, or a front of them where a write failed at a stage. And of the
-- whole run: no good processor is ever out, whoever differs or is late is named, no access waits longer than the stated wait, and
-- events are delivered in order and in time.
pub record Headline (frame : ℕ) (image : MemoryImage) (extent : Extent) (run : ScriptRun) (d : TriplexState) (before now : Taken)
    : Type 0 where
  pub stages : List Stage
  pub rest : List Stage
  pub stages_are : run.stages ≡ stages ++ rest
  pub written : HasWritten extent run stages rest before now
  pub machine : d ≡ state_after (first_triplex frame image) stages
  pub bytes : List ℕ
  pub alone : single_run image.entry image.local image.global (printed_deliveries stages) (runs d)
      ≡ record { machine = reference d; bytes = bytes }
  pub console : TookBytes extent bytes before.console now.console
  pub masked : RunIsMasked frame image run

-- the lines before a place and the one behind it are run, and the input was taken to the end of that line
pub record RunsOneMore (d : TriplexState) (input : List ℕ) (run : ScriptRun) (left : Option (List ℕ)) : Type 0 where
  pub first : ScriptRun
  pub place : RunTo d input first
  pub line : InputLine
  pub more : List InputLine
  pub next : place.after ≡ line ∷ more
  pub last : ScriptRun
  pub ran : RunsLine (length place.before + 1) (size_of place.before + line.size) first.state line.text last
  pub run_is : run ≡ joined_runs first last
  pub left_is : left ≡ Some (drop (bytes_taken (size_of place.before + line.size)) input)

-- the lines that were complete in the bytes taken are run, from a machine with the frame that they choose
pub record RunsUnread (start : ℕ → TriplexState) (frame : ℕ) (input : List ℕ) (run : ScriptRun) (left : Option (List ℕ)) : Type 0 where
  pub place : RunTo (start frame) input run
  pub behind : IsUnreadBehind input place.before left
  pub chosen : ChoosesFrame place.before frame

-- Which run a call made of a script, what it answered, and what it left of the input: the run of all of it, whose end is the answer;
-- that of the lines before a failed read; that up to the line in which a write failed; and that of all of it, in whose closing lines
-- one failed. It starts with the frame that the lines choose.
abbrev pub MakesRun : (ℕ → TriplexState) → ℕ → List ℕ → Result End StreamFault → Extent → ScriptRun → Option (List ℕ) → Type 0
MakesRun start frame input result whole run left =
    (result ≡ Ok (end_of run.end)) × ChoosesFrame (lines_of input) frame × RunsInput (start frame) input run left
MakesRun start frame input result unread run left = (result ≡ Err Read) × RunsUnread start frame input run left
MakesRun start frame input result cut run left =
    (result ≡ Err Write) × ChoosesFrame (lines_of input) frame × RunsOneMore (start frame) input run left
MakesRun start frame input result cut_closing run left =
    (result ≡ Err Write) × ChoosesFrame (lines_of input) frame × RunsInput (start frame) input run left

-- the promise on the run of a script on a program
pub record ScriptHeadline (image : MemoryImage) (input : List ℕ) (result : Result End StreamFault) (d : TriplexState)
    (before now : Taken) (left : Option (List ℕ))
    : Type 0 where
  pub frame : ℕ
  pub extent : Extent
  pub run : ScriptRun
  pub made : MakesRun (λ f. first_triplex f image) frame input result extent run left
  pub promise : Headline frame image extent run d before now

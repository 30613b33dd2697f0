-- The law of replays: the report that a run writes says the run's deliveries and its run count, and one processor under them does
-- what the run did.
use Rattle.std.specs.Prelude.{ℕ, ◌≡◌, ◌≤◌, List, [], ◌∷◌, ◌++◌, length, Some}
use Rattle.std.specs.declared.option.Option.{Option}
use Rattle.s2_base.specs.declared.map.TheConstants.{LOCAL_WORDS, GLOBAL_WORDS}
use Rattle.s2_clock.specs.Frames.{IsFrame}
use Rattle.s2_elf.specs.MemoryImage.{MemoryImage}
use Rattle.s2_journal.specs.declared.note.Note.{Note}
use Rattle.s2_journal.specs.declared.note.ReportLine.{ReportLine}
use Rattle.s2_journal.specs.declared.note.ReportLine.TheVariants.{Runs, Ticks, Bytes, End as Ending}
use Rattle.s2_journal.specs.ReportLines.{note_answer}
use Rattle.s2_triplex.specs.ReferenceMachine.{reference, runs}
use Rattle.s2_run.specs.declared.limits.TheConstants.{INPUT_LIMIT}
use Rattle.s2_run.specs.declared.verdict.Verdict.{Verdict}
use Rattle.s2_run.specs.declared.verdict.Verdict.TheVariants.{Passed}
use Rattle.s2_run.specs.Execution.{started_image}
use Rattle.s2_run.specs.Transcript.{console_of, report_of}
use Rattle.s2_run.specs.ReportText.{replay_lines}
use Rattle.s2_run.specs.ScriptRuns.{Stage, ScriptRun}
use Rattle.s2_run.specs.RunTranscript.{stages_transcript, console_count, run_transcript}
use Rattle.s2_run.specs.ScriptEndings.{RunsInput}
use Rattle.s2_run.specs.MaskedRuns.{first_triplex, printed_deliveries}
use Rattle.s2_run.specs.ReportReading.{ReadsReport}
use Rattle.s2_run.specs.Replay.{deliveries_of, last_run, replayed, replay_end, replay_closing}

-- the notes that stages print, in order
abbrev pub printed_notes : List Stage → List Note
printed_notes [] = []
printed_notes (stage ∷ stages) = stage.turn.notes ++ printed_notes stages

-- what a reader keeps of notes
abbrev pub notes_said : List Note → List ReportLine
notes_said [] = []
notes_said (note ∷ notes) = note_answer note ∷ notes_said notes

-- the report that a run writes, and what its lines say
abbrev pub report_text : ScriptRun → List ℕ
report_text run = report_of (run_transcript run)

abbrev pub report_said : ScriptRun → List ReportLine
report_said run = notes_said (printed_notes run.stages) ++ Runs (runs run.state) ∷ Ticks ∷ Bytes ∷ Ending ∷ []

-- The report of a run is a whole report in order; that is the only verdict on it, and it says one thing: the deliveries that the
-- run printed, and at last its run count. One processor with flat memories under them writes the run's console bytes, and its
-- machine is the run's reference machine. So the closing lines of the replay have the run's run count, its number of console
-- bytes, and its halt value where it halted.
pub record IsReplayedAlike (image : MemoryImage) (run : ScriptRun) : Type 0 where
  pub reads : ReadsReport (report_text run) Passed (report_said run) (Some [])
  pub once : (verdict : Verdict) (said : List ReportLine) (left : Option (List ℕ)) → ReadsReport (report_text run) verdict said left → (verdict ≡ Passed) × (said ≡ report_said run)
  pub deliveries : deliveries_of (report_said run) ≡ printed_deliveries run.stages
  pub to : last_run (report_said run) ≡ runs run.state
  pub alike : replayed (started_image image) (report_said run) ≡ record { machine = reference run.state; bytes = console_of (stages_transcript run.stages) }
  pub closing : replay_closing Passed (replayed (started_image image) (report_said run)) ≡ replay_lines (runs run.state) (console_count run.stages) (replay_end Passed run.state.halt)

-- so it is of every run on a program whose report is no longer than an input may be
abbrev pub ReplaysGiveTheSame : Type 0
ReplaysGiveTheSame = (frame : ℕ) (image : MemoryImage) (input : List ℕ) (run : ScriptRun) (left : Option (List ℕ)) → IsFrame frame → length image.local ≡ LOCAL_WORDS → length image.global ≡ GLOBAL_WORDS → RunsInput (first_triplex frame image) input run left →
    length (report_text run) ≤ INPUT_LIMIT → IsReplayedAlike image run

-- What a run writes, in order: for each step its console byte and then a line for each of its notes, and at the end the
-- closing lines.
use Rattle.std.specs.Prelude.{ℕ, List, [], ◌∷◌, ◌++◌, length}
use Rattle.std.specs.declared.option.Option.{Option}
use Rattle.s2_io.specs.Sinks.{appended}
use Rattle.s2_machine.specs.MachineRun.{bytes_of}
use Rattle.s2_journal.specs.declared.note.Note.{Note}
use Rattle.s2_journal.specs.ReportLines.{note_text}
use Rattle.s2_triplex.specs.StepTurns.{Turn}
use Rattle.s2_triplex.specs.ReferenceMachine.{runs}
use Rattle.s2_run.specs.ReportText.{line_with, end_lines}
use Rattle.s2_run.specs.Transcript.{Outlet, Console, Report, for_outlet, console_of, report_of}
use Rattle.s2_run.specs.ScriptRuns.{Stage, ScriptRun, end_of}

-- what the console and the report have taken, where they tell it
pub record Taken : Type 0 where
  pub console : Option (List ℕ)
  pub report : Option (List ℕ)

abbrev pub taken : Option (List ℕ) → Option (List ℕ) → Taken
taken console report = record { console = console; report = report }

-- they have taken a transcript, beyond what they had
abbrev pub with_transcript : Taken → List (Outlet × ℕ) → Taken
with_transcript before transcript = record { console = appended before.console (console_of transcript); report = appended before.report (report_of transcript) }

-- the lines of notes
abbrev pub note_lines : List Note → List ℕ
note_lines [] = []
note_lines (note ∷ notes) = line_with (note_text note) ++ note_lines notes

-- what a step writes
abbrev pub turn_transcript : Turn → List (Outlet × ℕ)
turn_transcript turn = for_outlet Console (bytes_of turn.out) ++ for_outlet Report (note_lines turn.notes)

abbrev pub stages_transcript : List Stage → List (Outlet × ℕ)
stages_transcript [] = []
stages_transcript (stage ∷ stages) = turn_transcript stage.turn ++ stages_transcript stages

-- how many bytes the console has from them
abbrev pub console_count : List Stage → ℕ
console_count stages = length (console_of (stages_transcript stages))

-- the closing lines of a run, and all that it writes
abbrev pub closing_lines : ScriptRun → List ℕ
closing_lines run = end_lines (runs run.state) run.state.ticks (console_count run.stages) (end_of run.end)

abbrev pub run_transcript : ScriptRun → List (Outlet × ℕ)
run_transcript run = stages_transcript run.stages ++ for_outlet Report (closing_lines run)

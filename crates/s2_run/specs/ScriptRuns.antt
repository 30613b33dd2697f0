-- What the lines of a script do to the triple machine: the steps that run, one after another, and the end.
use Rattle.std.specs.Prelude.{ℕ, zero, suc, ◌≡◌, ◌+◌, ◌<◌, ◌≤◌, ◌⊎◌, nat_lt, List, [], ◌∷◌, ◌++◌, is_some, true, Some, None, Ok, Err, if◌then◌else◌}
use Rattle.std.specs.declared.option.Option.{Option}
use Rattle.std.specs.declared.result.Result.{Result}
use Rattle.s2_text.specs.declared.stops.BadLine.{BadLine}
use Rattle.s2_clock.specs.declared.numbers.TheConstants.{FRAME}
use Rattle.s2_text.specs.LineGrammar.{IsBadAt}
use Rattle.s2_text.specs.LineTables.{ReadsLine, SaysIn, IsRemark, IsLineOf, forms}
use Rattle.s2_script.specs.ScriptLines.{script_rows}
use Rattle.s2_script.specs.FirstLines.{first_rows, SaysFrame}
use Rattle.s2_script.specs.declared.entry.Entry.{Entry}
use Rattle.s2_script.specs.declared.entry.Entry.TheVariants.{Ticks, One}
use Rattle.s2_journal.specs.declared.note.Reason.{Reason}
use Rattle.s2_journal.specs.declared.note.End.{End}
use Rattle.s2_journal.specs.declared.note.End.TheVariants.{Script, Halt, Bad, Outside, TooLong}
use Rattle.s2_triplex.specs.R2000Triplex.{r2000_triplex}
use Rattle.s2_triplex.specs.TriplexState.{TriplexState}
use Rattle.s2_triplex.specs.StepTurns.{Turn}
use Rattle.s2_triplex.specs.TriplexSteps.{TriplexStep, clock_tick, script_act, step_refusal, stepped, step_turn}
use Rattle.s2_run.specs.declared.limits.TheConstants.{INPUT_LIMIT, TICK_LIMIT}
use Rattle.s2_text.specs.InputLines.{InputLine}

-- a step that ran, the machine after it, and what it made known
pub record Stage : Type 0 where
  pub step : TriplexStep
  pub state : TriplexState
  pub turn : Turn

-- a run of steps: the machine to which it has come, its stages, and its end, where it has ended
pub record ScriptRun : Type 0 where
  pub state : TriplexState
  pub stages : List Stage
  pub end : Option End

-- no step, and an end without a step
abbrev pub resting : TriplexState → ScriptRun
resting d = record { state = d; stages = []; end = None }

abbrev pub ended : TriplexState → End → ScriptRun
ended d end = record { state = d; stages = []; end = Some end }

-- one run, and then another
abbrev pub joined_runs : ScriptRun → ScriptRun → ScriptRun
joined_runs a b = record { state = b.state; stages = a.stages ++ b.stages; end = b.end }

-- a machine that has halted ends the run
abbrev pub halt_end : Option ℕ → Option End
halt_end (Some value) = Some (Halt value)
halt_end None = None

-- one step of a line with this number, where it is refused and where it is lawful
abbrev pub step_run_by : ℕ → TriplexState → TriplexStep → Option Reason → ScriptRun
step_run_by line d step (Some reason) = ended d (Outside line reason)
step_run_by line d step None = record {
  state = stepped r2000_triplex d step;
  stages = (record { step = step; state = stepped r2000_triplex d step; turn = step_turn r2000_triplex d step }) ∷ [];
  end = halt_end (stepped r2000_triplex d step).halt;
}

abbrev pub step_run : ℕ → TriplexState → TriplexStep → ScriptRun
step_run line d step = step_run_by line d step (step_refusal d step)

-- a run with one more step; one that has ended stays
abbrev pub with_step : ℕ → ScriptRun → TriplexStep → ScriptRun
with_step line run step = if is_some run.end then run else joined_runs run (step_run line run.state step)

-- so many ticks, one after another
abbrev pub ticks_run : ℕ → ℕ → TriplexState → ℕ → ScriptRun
ticks_run line mask d zero = resting d
ticks_run line mask d (suc n) = with_step line (ticks_run line mask d n) (clock_tick mask)

-- what a line says: none of its steps is run where its ticks would pass the limit
abbrev pub entry_run : ℕ → TriplexState → Entry → ScriptRun
entry_run line d (Ticks mask n) = if nat_lt TICK_LIMIT (d.ticks + n) then ended d (TooLong line) else ticks_run line mask d n
entry_run line d (One act) = step_run line d (script_act act)

-- a line as it is read
abbrev pub read_run : ℕ → TriplexState → Result (Option Entry) BadLine → ScriptRun
read_run line d (Err bad) = ended d (Bad line bad.column)
read_run line d (Ok None) = resting d
read_run line d (Ok (Some entry)) = entry_run line d entry

-- what line 1 says: a version line says no step
abbrev pub ReadsFirstLine : List ℕ → Result (Option Entry) BadLine → Type 0
ReadsFirstLine text (Ok (Some entry)) = SaysIn script_rows entry text
ReadsFirstLine text (Ok None) = IsRemark text ⊎ ((frame : ℕ) × SaysFrame frame text)
ReadsFirstLine text (Err bad) = IsBadAt (IsLineOf (forms first_rows)) text bad.column

-- what a line with a number says, by the grammar of scripts
abbrev pub ReadsScriptLine : ℕ → List ℕ → Result (Option Entry) BadLine → Type 0
ReadsScriptLine zero text read = ReadsLine script_rows text read
ReadsScriptLine (suc zero) text read = ReadsFirstLine text read
ReadsScriptLine (suc (suc n)) text read = ReadsLine script_rows text read

-- the frame that lines choose: that of a version line where the first one is that, and else FRAME
abbrev pub ChoosesFrame : List InputLine → ℕ → Type 0
ChoosesFrame [] frame = frame ≡ FRAME
ChoosesFrame (first ∷ lines) frame =
    SaysFrame frame first.text ⊎ ((frame ≡ FRAME) × ((f : ℕ) → SaysFrame f first.text → ⊥))

-- a line's bytes, by that grammar
pub record RunsText (line : ℕ) (d : TriplexState) (text : List ℕ) (run : ScriptRun) : Type 0 where
  pub read : Result (Option Entry) BadLine
  pub grammar : ReadsScriptLine line text read
  pub run_is : run ≡ read_run line d read

-- a line with this number, which ends with this byte of the input: it is too long, or it is run
abbrev pub RunsLine : ℕ → ℕ → TriplexState → List ℕ → ScriptRun → Type 0
RunsLine line bytes d text run = ((INPUT_LIMIT < bytes) × (run ≡ ended d (TooLong line))) ⊎ ((bytes ≤ INPUT_LIMIT) × RunsText line d text run)

-- a run after a first part: more of it where that has not ended
abbrev pub Continues : ScriptRun → (ScriptRun → Type 0) → ScriptRun → Type 0
Continues first More run = ((is_some first.end ≡ true) × (run ≡ first)) ⊎ ((first.end ≡ None) × (rest : ScriptRun) × More rest × (run ≡ joined_runs first rest))

-- lines one after another, behind so many lines and bytes, up to an end
abbrev pub RunsLines : ℕ → ℕ → TriplexState → List InputLine → ScriptRun → Type 0
RunsLines line bytes d [] run = run ≡ resting d
RunsLines line bytes d (next ∷ lines) run =
    (first : ScriptRun) × RunsLine (line + 1) (bytes + next.size) d next.text first × Continues first (RunsLines (line + 1) (bytes + next.size) first.state lines) run

-- the end of a run: that of the script where no other came
abbrev pub end_of : Option End → End
end_of (Some end) = end
end_of None = Script

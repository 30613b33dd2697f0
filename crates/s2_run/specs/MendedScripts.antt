-- The run of a script beside that of a script without its begins of mendings: as far as both go on, they write the same
-- console bytes, over the same deliveries.
use Rattle.std.specs.Prelude.{ℕ, ◌≡◌, ◌⊎◌, List, [], ◌∷◌, ◌++◌, length}
use Rattle.std.specs.declared.option.Option.{Option}
use Rattle.s2_base.specs.declared.map.TheConstants.{LOCAL_WORDS, GLOBAL_WORDS}
use Rattle.s2_elf.specs.MemoryImage.{MemoryImage}
use Rattle.s2_clock.specs.Frames.{IsFrame}
use Rattle.s2_text.specs.LineTables.{SaysIn}
use Rattle.s2_script.specs.ScriptLines.{script_rows}
use Rattle.s2_script.specs.declared.entry.Act.TheVariants.{Mend}
use Rattle.s2_script.specs.declared.entry.Entry.TheVariants.{One}
use Rattle.s2_triplex.specs.TriplexSteps.{TriplexStep}
use Rattle.s2_triplex_laws.specs.BoardMending.{EqualButBoards, without_mends}
use Rattle.s2_run.specs.Transcript.{console_of}
use Rattle.s2_text.specs.InputLines.{InputLine}
use Rattle.s2_run.specs.ScriptRuns.{Stage, ScriptRun}
use Rattle.s2_run.specs.ScriptEndings.{RunTo, RunsInput}
use Rattle.s2_run.specs.RunTranscript.{stages_transcript}
use Rattle.s2_run.specs.MaskedRuns.{first_triplex, printed_deliveries}

-- the steps of some stages
abbrev pub steps_of : List Stage → List TriplexStep
steps_of [] = []
steps_of (stage ∷ stages) = stage.step ∷ steps_of stages

-- stages that write the same console bytes, over the same deliveries
pub record WriteAlike (stages other : List Stage) : Type 0 where
  pub deliveries : printed_deliveries other ≡ printed_deliveries stages
  pub console : console_of (stages_transcript other) ≡ console_of (stages_transcript stages)

-- with any frame: of the runs of two inputs, fronts of which the one has the steps of the other but for its begins of mendings
abbrev pub MendsLeaveScripts : Type 0
MendsLeaveScripts = (frame : ℕ) (image : MemoryImage) (input other : List ℕ) (run run_other : ScriptRun) (left left_other : Option (List ℕ)) → IsFrame frame → length image.local ≡ LOCAL_WORDS → length image.global ≡ GLOBAL_WORDS →
    RunsInput (first_triplex frame image) input run left → RunsInput (first_triplex frame image) other run_other left_other → (front rest front_other rest_other : List Stage) → run.stages ≡ front ++ rest → run_other.stages ≡ front_other ++ rest_other →
    steps_of front_other ≡ without_mends (steps_of front) → WriteAlike front front_other

-- a line `mend`
abbrev pub IsMendLine : List ℕ → Type 0
IsMendLine text = (board : ℕ) × SaysIn script_rows (One (Mend board)) text

-- lines of which some lines `mend` are left out
abbrev pub LeavesOutMends : List InputLine → List InputLine → Type 0
LeavesOutMends [] [] = Unit {0}
LeavesOutMends [] (y ∷ ys) = ⊥
LeavesOutMends (x ∷ xs) [] = IsMendLine x.text × LeavesOutMends xs []
LeavesOutMends (x ∷ xs) (y ∷ ys) = (IsMendLine x.text × LeavesOutMends xs (y ∷ ys)) ⊎ ((y.text ≡ x.text) × LeavesOutMends xs ys)

-- as far as a line: the runs of two inputs whose lines so far are these, where both go on
pub record RunsWriteAlike (run other : ScriptRun) : Type 0 where
  pub states : EqualButBoards run.state other.state
  pub written : WriteAlike run.stages other.stages

abbrev pub MendLinesLeaveScripts : Type 0
MendLinesLeaveScripts = (frame : ℕ) (image : MemoryImage) (input other : List ℕ) (run run_other : ScriptRun) (place : RunTo (first_triplex frame image) input run) (place_other : RunTo (first_triplex frame image) other run_other) → IsFrame frame → length image.local ≡ LOCAL_WORDS → length image.global ≡ GLOBAL_WORDS →
    LeavesOutMends place.before place_other.before → RunsWriteAlike run run_other

-- A run goes on with its begins of mendings where it goes on without them, and a board that was mended is one that may fail.
use Rattle.std.specs.Prelude.{ℕ, ◌≡◌, ◌+◌, List, length, true, Some, None}
use Rattle.std.specs.List.{All, Contains}
use Rattle.s2_base.specs.declared.map.TheConstants.{LOCAL_WORDS, GLOBAL_WORDS}
use Rattle.s2_ports.specs.declared.events.BoardFault.{BoardFault}
use Rattle.s2_duplex.specs.ToleratedFaults.{IsFaultBelow}
use Rattle.s2_revive.specs.MendingBoards.{mended_by}
use Rattle.s2_duplex.specs.MendedBoards.{board_out}
use Rattle.s2_script.specs.declared.entry.Act.TheVariants.{Board, Mend as MendAct}
use Rattle.s2_journal.specs.declared.note.Note.TheVariants.{Mend, Mended}
use Rattle.s2_clock.specs.Frames.{IsFrame}
use Rattle.s2_triplex.specs.R2000Triplex.{r2000_triplex}
use Rattle.s2_triplex.specs.TriplexCores.{TriplexCore, IsTriplexCore}
use Rattle.s2_triplex.specs.TriplexState.{TriplexState, started_triplex}
use Rattle.s2_triplex.specs.TriplexSteps.{TriplexStep, script_act, step_refusal, stepped, step_turn}
use Rattle.s2_triplex_laws.specs.TriplexStates.{IsTriplexState}
use Rattle.s2_triplex_laws.specs.TriplexExecutions.{IsStepCall}
use Rattle.s2_triplex_laws.specs.BoardMending.{without_mends, all_taken, is_idle_step, after_all, idle_turns, NeverDies}

-- Where the machine that is built takes all steps of a list but the begins of mendings, and has not halted then, it takes
-- these too: no step is refused for a mending.
abbrev pub MendsGoOnAsFar : Type 0
MendsGoOnAsFar = (frame entry : ℕ) (local global : List ℕ) (steps : List TriplexStep) → IsFrame frame → length local ≡ LOCAL_WORDS → length global ≡ GLOBAL_WORDS → All IsStepCall steps →
    all_taken r2000_triplex (started_triplex frame entry local global) (without_mends steps) ≡ true → (after_all r2000_triplex (started_triplex frame entry local global) (without_mends steps)).halt ≡ None →
    all_taken r2000_triplex (started_triplex frame entry local global) steps ≡ true

-- after the idle turn that copies the last word, any fault of either board is lawful: no word of either is bad
abbrev pub MendedBoardsMayFail : Type 0
MendedBoardsMayFail = (k : TriplexCore) (d : TriplexState) (board : ℕ) (steps : List TriplexStep) (s : TriplexStep) (fault : BoardFault) → IsTriplexCore k → IsTriplexState k d → All IsStepCall steps →
    d.boards.mending ≡ Some (record { board = board; cursor = 0 }) → all_taken k d steps ≡ true → NeverDies board steps → is_idle_step k (after_all k d steps) s ≡ true → idle_turns k d steps + 1 ≡ GLOBAL_WORDS →
    IsFaultBelow GLOBAL_WORDS fault → step_refusal (stepped k (after_all k d steps) s) (script_act (Board fault)) ≡ None

-- a note that a board is mended is that of an idle turn that copies its last word
abbrev pub MendedNotesEndMendings : Type 0
MendedNotesEndMendings = (k : TriplexCore) (d : TriplexState) (s : TriplexStep) (tick board : ℕ) → Contains (step_turn k d s).notes (Mended tick board) →
    (is_idle_step k d s ≡ true) × (mended_by d.boards.mending ≡ Some board) × (tick ≡ d.ticks + 1)

-- a note that a mending begins is that of the act for a board that is out, while none mends; nothing of the board is copied yet
pub record BeginsMending (k : TriplexCore) (d : TriplexState) (s : TriplexStep) (tick board : ℕ) : Type 0 where
  pub step : s ≡ script_act (MendAct board)
  pub now : tick ≡ d.ticks
  pub out : board_out d.boards.pair ≡ Some board
  pub none : d.boards.mending ≡ None
  pub begun : stepped k d s ≡ record d { boards = record d.boards { mending = Some (record { board = board; cursor = 0 }) } }

abbrev pub MendNotesBeginMendings : Type 0
MendNotesBeginMendings =
    (k : TriplexCore) (d : TriplexState) (s : TriplexStep) (tick board : ℕ) → Contains (step_turn k d s).notes (Mend tick board) →
    BeginsMending k d s tick board

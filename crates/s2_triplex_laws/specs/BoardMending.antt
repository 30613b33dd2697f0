-- What the mending of a board leaves as it is: all of a machine but its boards, and the list that they stand for. So a
-- run writes the same bytes, over the same deliveries, as the run without the begins of mendings.
use Rattle.std.specs.Prelude.{ℕ, ◌≡◌, ◌≢◌, ◌<◌, ◌+◌, ◌&&◌, not, List, [], ◌∷◌, length, slice_index_or, Bool, true, false, Some, None, if◌then◌else◌}
use Rattle.std.specs.List.{All}
use Rattle.s2_base.specs.declared.map.TheConstants.{LOCAL_WORDS, GLOBAL_WORDS}
use Rattle.s2_ports.specs.declared.events.BoardFault.TheVariants.{Dead}
use Rattle.s2_clock.specs.Frames.{IsFrame}
use Rattle.s2_revive.specs.declared.revive.Mending.{Mending}
use Rattle.s2_revive.specs.MendingBoards.{MendingBoards, AreMendingBoards, memory_of}
use Rattle.s2_duplex.specs.DuplexBoards.{board_word, has_parity}
use Rattle.s2_duplex.specs.MendedBoards.{board_out, board_of}
use Rattle.s2_script.specs.declared.entry.Act.{Act}
use Rattle.s2_script.specs.declared.entry.Act.TheVariants.{Event, Poke, PokeLocal, Drive, Mute, Remove, Revive, Board, Mend}
use Rattle.s2_journal.specs.declared.note.Note.TheVariants.{Mended}
use Rattle.s2_triplex.specs.TriplexCores.{TriplexCore, IsTriplexCore}
use Rattle.s2_triplex.specs.TriplexState.{TriplexState, started_triplex}
use Rattle.s2_triplex.specs.VoterDecision.{tick_verdict, is_idle_verdict}
use Rattle.s2_triplex.specs.CopyHolds.{is_holding}
use Rattle.s2_triplex.specs.StepTurns.{Turn}
use Rattle.s2_triplex.specs.TriplexSteps.{TriplexStep, clock_tick, script_act, step_refusal, stepped, step_turn, next_after_step}
use Rattle.s2_triplex_laws.specs.StepNotes.{deliveries_in}
use Rattle.s2_triplex_laws.specs.TriplexStates.{IsTriplexState}
use Rattle.s2_triplex_laws.specs.TriplexExecutions.{Execution, IsStepCall, execution_of, takes_step, after_steps}

-- ---- a step

-- two machines that are equal in all but the boards, which stand for one list
pub record EqualButBoards (d e : TriplexState) : Type 0 where
  pub rest : e ≡ record d { boards = e.boards }
  pub memory : memory_of e.boards ≡ memory_of d.boards

-- two turns that tell the same deliveries and the same byte
pub record TellAlike (a b : Turn) : Type 0 where
  pub deliveries : deliveries_in b.notes ≡ deliveries_in a.notes
  pub out : b.out ≡ a.out

-- a step of two machines that leads to two such machines, with such turns
pub record StepsAlike (k : TriplexCore) (d e : TriplexState) (s : TriplexStep) : Type 0 where
  pub states : EqualButBoards (stepped k d s) (stepped k e s)
  pub turns : TellAlike (step_turn k d s) (step_turn k e s)

-- of two machines that are equal in all but the boards, a step that neither refuses makes two that are
abbrev pub StepsIgnoreBoards : Type 0
StepsIgnoreBoards = (k : TriplexCore) (d e : TriplexState) (s : TriplexStep) → IsTriplexCore k → AreMendingBoards d.boards → AreMendingBoards e.boards → EqualButBoards d e → IsStepCall s → step_refusal d s ≡ None → step_refusal e s ≡ None →
    StepsAlike k d e s

-- the machine in which nothing mends
abbrev pub unmended : TriplexState → TriplexState
unmended d = record d { boards = record d.boards { mending = None } }

-- every step leaves the list of the boards, and all else but the boards, as it does where nothing mends
abbrev pub StepsIgnoreMending : Type 0
StepsIgnoreMending =
    (k : TriplexCore) (d : TriplexState) (s : TriplexStep) → IsTriplexCore k → AreMendingBoards d.boards → IsStepCall s →
    step_refusal d s ≡ None → step_refusal (unmended d) s ≡ None → StepsAlike k (unmended d) d s

-- The one step that is lawful for the mending alone, the end of the board that mends: nothing mends after it, all else of the
-- machine is as before, and so is the list of the boards; it delivers nothing and has no byte.
pub record EndsItsMending (k : TriplexCore) (d : TriplexState) (board : ℕ) : Type 0 where
  pub lawful : step_refusal d (script_act (Board (Dead board))) ≡ None
  pub state : stepped k d (script_act (Board (Dead board))) ≡ unmended d
  pub memory : memory_of (unmended d).boards ≡ memory_of d.boards
  pub silent : deliveries_in (step_turn k d (script_act (Board (Dead board)))).notes ≡ []
  pub out : (step_turn k d (script_act (Board (Dead board)))).out ≡ None

abbrev pub DeadBoardsEndMendings : Type 0
DeadBoardsEndMendings = (k : TriplexCore) (d : TriplexState) (m : Mending) → d.boards.mending ≡ Some m → EndsItsMending k d m.board

-- ---- a run

-- whether a step is the begin of a mending
abbrev pub is_mend_act : Act → Bool
is_mend_act (Event event) = false
is_mend_act (Poke p k v) = false
is_mend_act (PokeLocal p i v) = false
is_mend_act (Drive p posted) = false
is_mend_act (Mute p) = false
is_mend_act (Remove p) = false
is_mend_act (Revive p) = false
is_mend_act (Board fault) = false
is_mend_act (Mend board) = true

abbrev pub is_mend : TriplexStep → Bool
is_mend (clock_tick mask) = false
is_mend (script_act act) = is_mend_act act

-- a list of steps without these
abbrev pub without_mends : List TriplexStep → List TriplexStep
without_mends [] = []
without_mends (s ∷ steps) = if is_mend s then without_mends steps else s ∷ without_mends steps

-- whether a machine takes every step of a list: none is refused, and none stands behind a halt
abbrev pub all_taken : TriplexCore → TriplexState → List TriplexStep → Bool
all_taken k d [] = true
all_taken k d (s ∷ steps) = takes_step k d s && all_taken k (next_after_step k d s) steps

-- two runs to machines that are equal in all but the boards, with the same deliveries and bytes
pub record RunsAlike (x y : Execution) : Type 0 where
  pub states : EqualButBoards x.state y.state
  pub deliveries : y.deliveries ≡ x.deliveries
  pub bytes : y.bytes ≡ x.bytes

-- A run from the start of a program, and the run of the same steps without the begins of mendings, as far as both go
-- on: for every list of steps that the one takes, and of which the other takes what is left.
abbrev pub MendsLeaveRuns : Type 0
MendsLeaveRuns = (k : TriplexCore) (frame entry : ℕ) (local global : List ℕ) (steps : List TriplexStep) → IsTriplexCore k → IsFrame frame → length local ≡ LOCAL_WORDS → length global ≡ GLOBAL_WORDS → All IsStepCall steps →
    all_taken k (started_triplex frame entry local global) steps ≡ true → all_taken k (started_triplex frame entry local global) (without_mends steps) ≡ true →
    RunsAlike (after_steps k (execution_of (started_triplex frame entry local global)) steps) (after_steps k (execution_of (started_triplex frame entry local global)) (without_mends steps))

-- ---- a mending is a count of idle turns

-- whether a step is an idle turn of the voter
abbrev pub is_idle_step : TriplexCore → TriplexState → TriplexStep → Bool
is_idle_step k d (clock_tick mask) = not (is_holding d.reintegration) && is_idle_verdict (tick_verdict k d mask)
is_idle_step k d (script_act act) = false

-- the machine after a list of steps, and the number of idle turns among them
abbrev pub after_all : TriplexCore → TriplexState → List TriplexStep → TriplexState
after_all k d [] = d
after_all k d (s ∷ steps) = after_all k (next_after_step k d s) steps

abbrev pub one_if : Bool → ℕ
one_if true = 1
one_if false = 0

abbrev pub idle_turns : TriplexCore → TriplexState → List TriplexStep → ℕ
idle_turns k d [] = 0
idle_turns k d (s ∷ steps) = one_if (is_idle_step k d s) + idle_turns k (next_after_step k d s) steps

-- no step is the end of a board
abbrev pub NeverDies : ℕ → List TriplexStep → Type 0
NeverDies board steps = All (λ s. s ≢ script_act (Board (Dead board))) steps

-- a board mends, which counts as out, and so many of its words are mended: they are those of the list, with right parity
pub record IsMendedUpTo (s : MendingBoards) (board count : ℕ) : Type 0 where
  pub mending : s.mending ≡ Some (record { board = board; cursor = count })
  pub out : board_out s.pair ≡ Some board
  pub words : (i : ℕ) → i < count → board_word (board_of board s.pair) i ≡ slice_index_or (memory_of s) i 0
  pub parity : (i : ℕ) → i < count → has_parity (board_of board s.pair) i ≡ true

-- while fewer idle turns were than there are words, as many words are mended as idle turns were
abbrev pub MendingCountsIdleTurns : Type 0
MendingCountsIdleTurns =
    (k : TriplexCore) (d : TriplexState) (board : ℕ) (steps : List TriplexStep) → IsTriplexCore k → IsTriplexState k d →
    All IsStepCall steps → d.boards.mending ≡ Some (record { board = board; cursor = 0 }) → all_taken k d steps ≡ true →
    NeverDies board steps → idle_turns k d steps < GLOBAL_WORDS → IsMendedUpTo (after_all k d steps).boards board (idle_turns k d steps)

-- the idle turn that copies the last word: its one note says that the board is mended, and both boards are in
pub record EndsMending (k : TriplexCore) (d : TriplexState) (s : TriplexStep) (board : ℕ) : Type 0 where
  pub note : (step_turn k d s).notes ≡ Mended (d.ticks + 1) board ∷ []
  pub ended : (stepped k d s).boards.mending ≡ None
  pub both : board_out (stepped k d s).boards.pair ≡ None

-- so a mending that no fault ends has its end with the idle turn of the number of words
abbrev pub MendingEnds : Type 0
MendingEnds = (k : TriplexCore) (d : TriplexState) (board : ℕ) (steps : List TriplexStep) (s : TriplexStep) → IsTriplexCore k → IsTriplexState k d → All IsStepCall steps → d.boards.mending ≡ Some (record { board = board; cursor = 0 }) →
    all_taken k d steps ≡ true → NeverDies board steps → is_idle_step k (after_all k d steps) s ≡ true → idle_turns k d steps + 1 ≡ GLOBAL_WORDS →
    EndsMending k (after_all k d steps) s board

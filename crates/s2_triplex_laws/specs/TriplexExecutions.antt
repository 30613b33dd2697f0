-- Whole executions: a list of ticks and acts from the start of a program, and what they tell.
use Rattle.std.specs.Prelude.{ℕ, ◌≡◌, ◌<◌, ◌≤◌, ◌+◌, ◌^◌, ◌&&◌, not, nat_lt, Bool, true, false, List, [], ◌∷◌, ◌++◌, length, Some, None, Ok, Err, is_some, if◌then◌else◌}
use Rattle.std.specs.List.{All}
use Rattle.std.specs.declared.result.Result.{Result}
use Rattle.s2_base.specs.declared.map.TheConstants.{LOCAL_WORDS, GLOBAL_WORDS}
use Rattle.s2_journal.specs.declared.note.Reason.{Reason}
use Rattle.s2_machine.specs.declared.deliveries.Delivery.{Delivery}
use Rattle.s2_machine.specs.Machine.{Machine, started}
use Rattle.s2_machine.specs.MachineRun.{bytes_of, core_machine_run, single_run}
use Rattle.s2_clock.specs.Frames.{IsFrame}
use Rattle.s2_plant_laws.specs.FrameNumbers.{stated_reintegration_of}
use Rattle.s2_triplex.specs.TriplexCores.{TriplexCore, IsTriplexCore}
use Rattle.s2_triplex.specs.R2000Triplex.{r2000_triplex}
use Rattle.s2_triplex.specs.TriplexState.{TriplexState, Reintegration, started_triplex}
use Rattle.s2_triplex.specs.ReferenceMachine.{reference, runs}
use Rattle.s2_triplex.specs.TriplexSteps.{TriplexStep, clock_tick, script_act, step_answer, next_after_step}
use Rattle.s2_triplex.specs.StepTurns.{Turn}
use Rattle.s2_triplex_laws.specs.DecisionFacts.{GoodAreIn}
use Rattle.s2_triplex_laws.specs.ReferenceAdvance.{DueUpTo, DueFrom}
use Rattle.s2_triplex_laws.specs.StepNotes.{deliveries_in}
use Rattle.s2_device.specs.DeviceState.{empty_slots}
use Rattle.s2_triplex_laws.specs.PrivateFacts.{printed_slots}
use Rattle.s2_triplex_laws.specs.TriplexStates.{IsActCall, IsTriplexState}

-- the conditions of a call
abbrev pub IsStepCall : TriplexStep → Type 0
IsStepCall (clock_tick mask) = Unit {0}
IsStepCall (script_act a) = IsActCall a

-- the machine, and the deliveries and the console bytes that were told so far
pub record Execution : Type 0 where
  pub state : TriplexState
  pub deliveries : List Delivery
  pub bytes : List ℕ

-- a machine before its first step
abbrev pub execution_of : TriplexState → Execution
execution_of d = record { state = d; deliveries = []; bytes = [] }

abbrev pub after_turn : Execution → TriplexState → Turn → Execution
after_turn x next turn = record { state = next; deliveries = x.deliveries ++ deliveries_in turn.notes; bytes = x.bytes ++ bytes_of turn.out }

abbrev pub after_answer : Execution → TriplexState → Result Turn Reason → Execution
after_answer x next (Ok turn) = after_turn x next turn
after_answer x next (Err reason) = x

-- a machine takes no step after a halt, and no tick after 2 ^ 40 of them
abbrev pub has_ticks_left : TriplexState → TriplexStep → Bool
has_ticks_left d (clock_tick mask) = nat_lt d.ticks (2 ^ 40)
has_ticks_left d (script_act a) = true

abbrev pub is_accepted : Result Turn Reason → Bool
is_accepted (Ok turn) = true
is_accepted (Err reason) = false

abbrev pub takes_step : TriplexCore → TriplexState → TriplexStep → Bool
takes_step k d s = (not (is_some d.halt) && has_ticks_left d s) && is_accepted (step_answer k d s)

-- the steps of a list are taken up to a halt, or to the first that is refused
abbrev pub after_steps : TriplexCore → Execution → List TriplexStep → Execution
after_steps k x [] = x
after_steps k x (s ∷ steps) =
    if takes_step k x.state s then after_steps k (after_answer x (next_after_step k x.state s) (step_answer k x.state s)) steps else x

-- deliveries whose run counts never fall
abbrev pub AreInRunOrder : List Delivery → Type 0
AreInRunOrder [] = Unit {0}
AreInRunOrder (d ∷ ds) = DueFrom d.run ds × AreInRunOrder ds

-- The bytes are those of one processor with flat memories from a machine, over the deliveries, and its machine is
-- the reference machine then; the run counts of the deliveries never fall, and all are due; every good processor is
-- in; the state keeps all that a state keeps; an open reintegration has not taken the stated time; and the slots of
-- the devices are the private values that the deliveries print last.
pub record IsExecution (k : TriplexCore) (m : Machine) (x : Execution) : Type 0 where
  pub from : m.cpu.run ≤ runs x.state
  pub is : core_machine_run k.core m x.deliveries (runs x.state) ≡ record { machine = reference x.state; bytes = x.bytes }
  pub order : AreInRunOrder x.deliveries
  pub due : DueUpTo (runs x.state) x.deliveries
  pub good : GoodAreIn x.state
  pub state : IsTriplexState k x.state
  pub in_time : (j : Reintegration) → x.state.reintegration ≡ Some j → x.state.ticks < j.revived + stated_reintegration_of x.state.frame
  pub slots : x.state.device.slots ≡ printed_slots empty_slots x.deliveries

-- so it is before the first step, and after each that is accepted
abbrev pub ExecutionBegins : Type 0
ExecutionBegins = (k : TriplexCore) (frame entry : ℕ) (local global : List ℕ) → IsTriplexCore k → IsFrame frame → length local ≡ LOCAL_WORDS → length global ≡ GLOBAL_WORDS →
    IsExecution k (started entry local global) (execution_of (started_triplex frame entry local global))

abbrev pub ExecutionGoesOn : Type 0
ExecutionGoesOn = (k : TriplexCore) (m : Machine) (x : Execution) (s : TriplexStep) (turn : Turn) → IsTriplexCore k → IsExecution k m x → IsStepCall s → x.state.halt ≡ None → has_ticks_left x.state s ≡ true → step_answer k x.state s ≡ Ok turn →
    IsExecution k m (after_turn x (next_after_step k x.state s) turn)

-- so it is of every execution
abbrev pub EveryExecution : Type 0
EveryExecution = (k : TriplexCore) (frame entry : ℕ) (local global : List ℕ) (steps : List TriplexStep) → IsTriplexCore k → IsFrame frame → length local ≡ LOCAL_WORDS → length global ≡ GLOBAL_WORDS → All IsStepCall steps →
    IsExecution k (started entry local global) (after_steps k (execution_of (started_triplex frame entry local global)) steps)

-- and of the machine that is built: the bytes are those of the R2000 alone
pub record IsR2000Execution (entry : ℕ) (local global : List ℕ) (x : Execution) : Type 0 where
  pub is : single_run entry local global x.deliveries (runs x.state) ≡ record { machine = reference x.state; bytes = x.bytes }
  pub execution : IsExecution r2000_triplex (started entry local global) x

abbrev pub EveryR2000Execution : Type 0
EveryR2000Execution = (frame entry : ℕ) (local global : List ℕ) (steps : List TriplexStep) → IsFrame frame → length local ≡ LOCAL_WORDS → length global ≡ GLOBAL_WORDS → All IsStepCall steps →
    IsR2000Execution entry local global (after_steps r2000_triplex (execution_of (started_triplex frame entry local global)) steps)

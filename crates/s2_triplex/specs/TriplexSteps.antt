-- A step of the triple machine, of either kind: what it answers and leaves.
use Rattle.std.specs.Prelude.{ℕ, Option, Result}
use Rattle.s2_script.specs.declared.entry.Act.{Act}
use Rattle.s2_journal.specs.declared.note.Reason.{Reason}
use Rattle.s2_triplex.specs.TriplexCores.{TriplexCore}
use Rattle.s2_triplex.specs.TriplexState.{TriplexState}
use Rattle.s2_triplex.specs.TickStep.{ticked}
use Rattle.s2_triplex.specs.ActStep.{acted}
use Rattle.s2_triplex.specs.StepRefusals.{tick_refusal, act_refusal}
use Rattle.s2_triplex.specs.StepTurns.{Turn, tick_turn, act_turn, unless_refused, next_unless_refused}

-- a tick with a mask, or an act of a script
pub data TriplexStep : Type 0 where
  clock_tick : ℕ → TriplexStep
  script_act : Act → TriplexStep

-- why a step is not lawful
abbrev pub step_refusal : TriplexState → TriplexStep → Option Reason
step_refusal d (clock_tick mask) = tick_refusal d mask
step_refusal d (script_act act) = act_refusal d act

-- the machine after a lawful step, and what it makes known
abbrev pub stepped : TriplexCore → TriplexState → TriplexStep → TriplexState
stepped k d (clock_tick mask) = (ticked k d mask).next
stepped k d (script_act act) = acted act d

abbrev pub step_turn : TriplexCore → TriplexState → TriplexStep → Turn
step_turn k d (clock_tick mask) = tick_turn k d mask
step_turn k d (script_act act) = act_turn d act

-- what a step answers, and the next machine; a step that is refused leaves the machine as it is
abbrev pub step_answer : TriplexCore → TriplexState → TriplexStep → Result Turn Reason
step_answer k d step = unless_refused (step_refusal d step) (step_turn k d step)

abbrev pub next_after_step : TriplexCore → TriplexState → TriplexStep → TriplexState
next_after_step k d step = next_unless_refused (step_refusal d step) (stepped k d step) d

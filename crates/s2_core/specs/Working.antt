-- What carrying out a step at once leaves, where the step asks nothing of the outside; where it asks, nothing changes.
use Rattle.std.specs.Prelude.{ℕ, ◌≡◌, Bool, true, false, List, if◌then◌else◌}
use Rattle.s2_cpu.specs.Processor.{Processor}
use Rattle.s2_machine.specs.LocalWork.{ask_of_step, read_by, local_after, marks_after}
use Rattle.s2_machine.specs.StepRanges.{IsPlaced}
use Rattle.s2_cpu.specs.Exceptions.{IsException}
use Rattle.s2_core.specs.declared.reach.Reach.{Reach}
use Rattle.s2_core.specs.declared.reach.Reach.TheVariants.{Refused, Isolated, At}
use Rattle.s2_machine.specs.WriteBack.{after_step}
use Rattle.s2_machine.specs.declared.ask.Ask.{Ask}
use Rattle.s2_machine.specs.declared.ask.Ask.TheVariants.{Local, Outside}
use Rattle.s2_machine.specs.declared.step.Step.{Step}

-- the state after the cycle, or where it asks the state as it was
abbrev pub unless_asked : {A : Type 0} → Ask → A → A → A
unless_asked Local after before = after
unless_asked (Outside request) after before = before

-- a step asks nothing
abbrev pub is_local : Ask → Bool
is_local Local = true
is_local (Outside request) = false

-- a step that was carried out at once on a processor, its local list and the marks, where it asks nothing: whether
-- it was, and what is left
pub record IsCarriedOut (p : Processor) (local : List ℕ) (marks : List Bool) (step : Step) (done : Bool) (p' : Processor) (local' : List ℕ) (marks' : List Bool) : Type 0 where
  pub stays : done ≡ is_local (ask_of_step p step)
  pub processor : p' ≡ (if done then after_step p step (read_by local step) else p)
  pub words : local' ≡ (if done then local_after local step else local)
  pub marked : marks' ≡ (if done then marks_after marks step else marks)

-- what a load or store reaches is an exception's, or a place within its list
abbrev pub IsReach : Reach → Type 0
IsReach (Refused e) = IsException e
IsReach Isolated = Unit {0}
IsReach (At address place) = IsPlaced place

-- Faults of the boards, as steps.
use Rattle.std.specs.Prelude.{◌≡◌, None}
use Rattle.s2_base.specs.declared.map.TheConstants.{GLOBAL_WORDS}
use Rattle.s2_ports.specs.declared.events.BoardFault.{BoardFault}
use Rattle.s2_revive.specs.MendingBoards.{memory_of}
use Rattle.s2_duplex.specs.ToleratedFaults.{IsFaultBelow}
use Rattle.s2_triplex.specs.TriplexCores.{TriplexCore}
use Rattle.s2_triplex.specs.TriplexState.{TriplexState}
use Rattle.s2_triplex.specs.VoterDecision.{no_effects}
use Rattle.s2_triplex.specs.ActStep.{board_struck}
use Rattle.s2_triplex.specs.StepRefusals.{board_refusal}
use Rattle.s2_triplex_laws.specs.RepairSteps.{CanStepInRepair, RepairStep}
use Rattle.s2_triplex_laws.specs.RepairTallies.{RepairCounted}

-- all is kept, and global memory is as before
pub record BoardFaultStep (k : TriplexCore) (old new : TriplexState) : Type 0 where
  pub step : RepairStep k old new no_effects
  pub contents : memory_of new.boards ≡ memory_of old.boards
  pub counts : RepairCounted old → RepairCounted new

abbrev pub BoardFaultKeepsRepair : Type 0
BoardFaultKeepsRepair = (k : TriplexCore) (d : TriplexState) (fault : BoardFault) → CanStepInRepair k d → IsFaultBelow GLOBAL_WORDS fault → board_refusal d fault ≡ None → BoardFaultStep k d (board_struck fault d)

-- A tick that is not refused, in a hold or not, and with the word of a board that mends.
use Rattle.std.proofs.Common.{◌≡◌, refl}
use Rattle.std.specs.Prelude.{Bool, true, false, if◌then◌else◌}
use Rattle.s2_triplex.specs.VoterDecision.{no_effects, tick_verdict, voted, is_idle_verdict}
use Rattle.s2_triplex.specs.CopyHolds.{is_holding, after_hold_tick}
use Rattle.s2_triplex.specs.TickStep.{after_voting_tick, after_working_tick}
use Rattle.s2_triplex_laws.specs.RepairSteps.{RepairStep, TickKeepsRepair}
use Rattle.s2_triplex_laws.proofs.TicksInRepair.{hold_by, voting_keeps}
use Rattle.s2_triplex_laws.proofs.BoardMoves.{idled_step}

pub tick_keeps_repair : TickKeepsRepair
tick_keeps_repair k d mask s room lawful = by_hold (is_holding d.reintegration) refl
  where
    by_hold : (b : Bool) → is_holding d.reintegration ≡ b → (let t = (if b then record { next = after_hold_tick d mask; effects = no_effects } else after_working_tick k d mask) in RepairStep k d t.next t.effects)
    by_hold true is = hold_by k d mask s room lawful d.reintegration refl is
    by_hold false is = idled_step k d (after_voting_tick k d mask) (is_idle_verdict (tick_verdict k d mask)) (voted k d mask).effects (voting_keeps k d mask s room lawful is)

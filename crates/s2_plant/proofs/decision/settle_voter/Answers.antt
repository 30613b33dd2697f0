use Rattle.std.proofs.Common.{◌∙◌, subst, ap}
use Rattle.s2_voter.specs.VoterState.{VoterState, IsVoter}
use Rattle.s2_voter.specs.VoterCalls.{cleared_voter}
use Rattle.s2_triplex_laws.specs.VoterTurn.{without_named}
use Rattle.s2_plant.proofs.VoterSteps.{decided_all}
use Rattle.s2_plant.proofs.decision.settle_voter.Goals as goal

pub returns : goal.returns
returns c =
    let is = c.clear.ensures.cleared ∙ (ap cleared_voter c.drop_named-2.ensures ∙ ap (λ (v : VoterState). cleared_voter (without_named c.args.late v)) c.drop_named.ensures) in
    is ∙ decided_all c.args.differ c.args.late c.args.voter.now (subst IsVoter is c.clear.ensures.kept) c.requires.differ c.requires.late

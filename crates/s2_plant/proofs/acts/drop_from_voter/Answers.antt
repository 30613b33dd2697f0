use Rattle.std.proofs.Common.{◌∙◌, subst}
use Rattle.s2_voter.specs.VoterState.{IsVoter}
use Rattle.s2_plant.proofs.VoterSteps.{removed_one}
use Rattle.s2_plant.proofs.acts.drop_from_voter.Goals as goal

pub returns : goal.returns
returns c = c.drop_member.ensures.dropped ∙ removed_one c.args.p c.args.voter.now c.requires (subst IsVoter c.drop_member.ensures.dropped c.drop_member.ensures.kept)

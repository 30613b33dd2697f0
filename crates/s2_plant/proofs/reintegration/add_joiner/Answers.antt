use Rattle.std.proofs.Common.{◌∙◌, subst}
use Rattle.s2_voter.specs.VoterState.{IsVoter}
use Rattle.s2_plant.proofs.VoterSteps.{joined_one}
use Rattle.s2_plant.proofs.reintegration.add_joiner.Goals as goal

pub returns : goal.returns
returns c = c.add_member.ensures.members ∙ joined_one c.args.joiner c.args.voter.now c.requires (subst IsVoter c.add_member.ensures.members c.add_member.ensures.kept)

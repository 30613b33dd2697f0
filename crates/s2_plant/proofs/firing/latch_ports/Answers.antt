use Rattle.std.proofs.Common.{subst}
use Rattle.s2_voter.specs.VoterState.{IsVoter}
use Rattle.s2_plant.specs.ApartTicks.{one_of_three}
use Rattle.s2_plant.proofs.VoterSteps.{latched_all}
use Rattle.s2_plant.proofs.firing.latch_ports.Goals as goal

pub returns : goal.returns
returns c =
    rw (c.latch_one-3.ensures, c.latch_one-2.ensures, c.latch_one.ensures, c.tick.ensures.ticked)
    (latched_all (one_of_three c.args.first c.args.second c.args.third) c.args.voter.now (subst IsVoter c.tick.ensures.ticked c.tick.ensures.kept))

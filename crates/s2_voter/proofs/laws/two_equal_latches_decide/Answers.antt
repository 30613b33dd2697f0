use Rattle.s2_voter.proofs.Agreement.{two_decide}
use Rattle.s2_voter.proofs.laws.two_equal_latches_decide.Goals as goal

pub returns : goal.returns
returns c = two_decide

use Rattle.s2_agree.proofs.Medians.{agreed_within}
use Rattle.s2_agree.proofs.laws.two_counts_bound_the_agreed.Goals as goal

pub returns : goal.returns
returns c = agreed_within

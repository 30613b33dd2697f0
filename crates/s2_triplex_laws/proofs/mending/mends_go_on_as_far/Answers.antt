use Rattle.s2_triplex_laws.proofs.MendingGoesOn.{mends_go_on_as_far}
use Rattle.s2_triplex_laws.proofs.mending.mends_go_on_as_far.Goals as goal

pub returns : goal.returns
returns c = mends_go_on_as_far

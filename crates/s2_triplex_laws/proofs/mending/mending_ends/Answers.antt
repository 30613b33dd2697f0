use Rattle.s2_triplex_laws.proofs.MendingCounts.{mending_ends}
use Rattle.s2_triplex_laws.proofs.mending.mending_ends.Goals as goal

pub returns : goal.returns
returns c = mending_ends

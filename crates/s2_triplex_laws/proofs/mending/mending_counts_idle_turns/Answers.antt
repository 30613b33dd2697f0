use Rattle.s2_triplex_laws.proofs.MendingCounts.{mending_counts_idle_turns}
use Rattle.s2_triplex_laws.proofs.mending.mending_counts_idle_turns.Goals as goal

pub returns : goal.returns
returns c = mending_counts_idle_turns

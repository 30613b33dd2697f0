use Rattle.s2_triplex_laws.proofs.RepairCounts.{revive_counts_repair}
use Rattle.s2_triplex_laws.proofs.counts.revive_counts_repair.Goals as goal

pub returns : goal.returns
returns c = revive_counts_repair

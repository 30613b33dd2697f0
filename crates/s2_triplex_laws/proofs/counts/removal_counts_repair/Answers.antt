use Rattle.s2_triplex_laws.proofs.RepairCounts.{removal_counts_repair}
use Rattle.s2_triplex_laws.proofs.counts.removal_counts_repair.Goals as goal

pub returns : goal.returns
returns c = removal_counts_repair

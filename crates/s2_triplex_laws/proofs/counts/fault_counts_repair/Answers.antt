use Rattle.s2_triplex_laws.proofs.RepairCounts.{fault_counts_repair}
use Rattle.s2_triplex_laws.proofs.counts.fault_counts_repair.Goals as goal

pub returns : goal.returns
returns c = fault_counts_repair

use Rattle.s2_triplex_laws.proofs.RepairCounts.{event_counts_repair}
use Rattle.s2_triplex_laws.proofs.counts.event_counts_repair.Goals as goal

pub returns : goal.returns
returns c = event_counts_repair

use Rattle.s2_triplex_laws.proofs.TicksCountRepair.{tick_counts_repair}
use Rattle.s2_triplex_laws.proofs.counts.tick_counts_repair.Goals as goal

pub returns : goal.returns
returns c = tick_counts_repair

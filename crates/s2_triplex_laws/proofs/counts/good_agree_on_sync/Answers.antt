use Rattle.s2_triplex_laws.proofs.RepairCounts.{good_agree_on_sync}
use Rattle.s2_triplex_laws.proofs.counts.good_agree_on_sync.Goals as goal

pub returns : goal.returns
returns c = good_agree_on_sync

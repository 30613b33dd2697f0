use Rattle.s2_triplex_laws.proofs.ActsInRepair.{revive_keeps_repair}
use Rattle.s2_triplex_laws.proofs.repair.revive_keeps_repair.Goals as goal

pub returns : goal.returns
returns c = revive_keeps_repair

use Rattle.s2_triplex_laws.proofs.ActsInRepair.{removal_keeps_repair}
use Rattle.s2_triplex_laws.proofs.repair.removal_keeps_repair.Goals as goal

pub returns : goal.returns
returns c = removal_keeps_repair

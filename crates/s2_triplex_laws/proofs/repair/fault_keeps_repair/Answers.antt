use Rattle.s2_triplex_laws.proofs.ActsInRepair.{fault_keeps_repair}
use Rattle.s2_triplex_laws.proofs.repair.fault_keeps_repair.Goals as goal

pub returns : goal.returns
returns c = fault_keeps_repair

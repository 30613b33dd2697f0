use Rattle.s2_triplex_laws.proofs.ActsInRepair.{event_keeps_repair}
use Rattle.s2_triplex_laws.proofs.repair.event_keeps_repair.Goals as goal

pub returns : goal.returns
returns c = event_keeps_repair

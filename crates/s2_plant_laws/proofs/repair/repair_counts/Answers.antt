use Rattle.s2_plant_laws.proofs.RepairTicks.{repair_counts}
use Rattle.s2_plant_laws.proofs.repair.repair_counts.Goals as goal

pub returns : goal.returns
returns c = repair_counts

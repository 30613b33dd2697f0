use Rattle.s2_plant_laws.proofs.RepairTicks.{stated_reintegration}
use Rattle.s2_plant_laws.proofs.repair.stated_reintegration.Goals as goal

pub returns : goal.returns
returns c = stated_reintegration

use Rattle.s2_plant_laws.proofs.RepairNumbers.{repair_progresses}
use Rattle.s2_plant_laws.proofs.repair.repair_progresses.Goals as goal

pub returns : goal.returns
returns c = repair_progresses

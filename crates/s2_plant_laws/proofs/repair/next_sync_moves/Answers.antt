use Rattle.s2_plant_laws.proofs.RepairTicks.{next_sync_moves}
use Rattle.s2_plant_laws.proofs.repair.next_sync_moves.Goals as goal

pub returns : goal.returns
returns c = next_sync_moves

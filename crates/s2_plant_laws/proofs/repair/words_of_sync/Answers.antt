use Rattle.s2_plant_laws.proofs.RepairNumbers.{words_of_sync}
use Rattle.s2_plant_laws.proofs.repair.words_of_sync.Goals as goal

pub returns : goal.returns
returns c = words_of_sync

use Rattle.s2_triplex_laws.proofs.OpenRepair.{open_reintegration_tells}
use Rattle.s2_triplex_laws.proofs.repair.open_reintegration_tells.Goals as goal

pub returns : goal.returns
returns c = open_reintegration_tells

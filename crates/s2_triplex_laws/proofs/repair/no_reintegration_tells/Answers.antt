use Rattle.s2_triplex_laws.proofs.OpenRepair.{no_reintegration_tells}
use Rattle.s2_triplex_laws.proofs.repair.no_reintegration_tells.Goals as goal

pub returns : goal.returns
returns c = no_reintegration_tells

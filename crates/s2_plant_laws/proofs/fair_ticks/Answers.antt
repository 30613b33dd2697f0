use Rattle.s2_plant_laws.proofs.FairTicks.{fair_ticks}
use Rattle.s2_plant_laws.proofs.fair_ticks.Goals as goal

pub returns : goal.returns
returns c = fair_ticks

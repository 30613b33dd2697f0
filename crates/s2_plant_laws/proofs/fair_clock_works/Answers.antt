use Rattle.s2_plant_laws.proofs.FairWork.{fair_clock_works}
use Rattle.s2_plant_laws.proofs.fair_clock_works.Goals as goal

pub returns : goal.returns
returns c = fair_clock_works

use Rattle.s2_plant_laws.proofs.SkewBounds.{skew_bounds_wait}
use Rattle.s2_plant_laws.proofs.skew_bounds_wait.Goals as goal

pub returns : goal.returns
returns c = skew_bounds_wait

use Rattle.s2_plant_laws.proofs.TickBounds.{verdict_bounds_wait}
use Rattle.s2_plant_laws.proofs.verdict_bounds_wait.Goals as goal

pub returns : goal.returns
returns c = verdict_bounds_wait

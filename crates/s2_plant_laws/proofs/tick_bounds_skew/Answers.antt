use Rattle.s2_plant_laws.proofs.TickBounds.{tick_bounds_skew}
use Rattle.s2_plant_laws.proofs.tick_bounds_skew.Goals as goal

pub returns : goal.returns
returns c = tick_bounds_skew

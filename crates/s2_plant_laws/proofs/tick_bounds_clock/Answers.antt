use Rattle.s2_plant_laws.proofs.ClockBounds.{tick_bounds_clock}
use Rattle.s2_plant_laws.proofs.tick_bounds_clock.Goals as goal

pub returns : goal.returns
returns c = tick_bounds_clock

use Rattle.s2_plant_laws.proofs.TickBounds.{act_bounds_skew}
use Rattle.s2_plant_laws.proofs.act_bounds_skew.Goals as goal

pub returns : goal.returns
returns c = act_bounds_skew

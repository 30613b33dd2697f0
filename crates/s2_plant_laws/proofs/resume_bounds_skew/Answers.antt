use Rattle.s2_plant_laws.proofs.SkewBounds.{resume_bounds_skew}
use Rattle.s2_plant_laws.proofs.resume_bounds_skew.Goals as goal

pub returns : goal.returns
returns c = resume_bounds_skew

use Rattle.s2_core.proofs.CoreFacts.{local_cycles_stay_inside}
use Rattle.s2_core.proofs.laws.local_cycles_stay_inside.Goals as goal

pub returns : goal.returns
returns c = local_cycles_stay_inside

use Rattle.s2_plant_laws.proofs.Waits.{stated_wait}
use Rattle.s2_plant_laws.proofs.stated_wait.Goals as goal

pub returns : goal.returns
returns c = stated_wait

use Rattle.s2_core.proofs.CoreFacts.{runs_add}
use Rattle.s2_core.proofs.laws.runs_add.Goals as goal

pub returns : goal.returns
returns c = runs_add

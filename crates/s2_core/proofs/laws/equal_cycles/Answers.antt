use Rattle.s2_core.proofs.CoreFacts.{equal_cycles}
use Rattle.s2_core.proofs.laws.equal_cycles.Goals as goal

pub returns : goal.returns
returns c = equal_cycles

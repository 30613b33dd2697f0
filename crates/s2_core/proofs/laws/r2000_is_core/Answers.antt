use Rattle.s2_core.proofs.CoreFacts.{r2000_core}
use Rattle.s2_core.proofs.laws.r2000_is_core.Goals as goal

pub returns : goal.returns
returns c = r2000_core

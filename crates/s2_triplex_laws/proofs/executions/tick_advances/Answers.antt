use Rattle.s2_triplex_laws.proofs.TriplexStates.{tick_advances}
use Rattle.s2_triplex_laws.proofs.executions.tick_advances.Goals as goal

pub returns : goal.returns
returns c = tick_advances

use Rattle.s2_triplex_laws.proofs.TriplexStates.{act_advances}
use Rattle.s2_triplex_laws.proofs.executions.act_advances.Goals as goal

pub returns : goal.returns
returns c = act_advances

use Rattle.s2_triplex_laws.proofs.TriplexStates.{act_keeps_state}
use Rattle.s2_triplex_laws.proofs.executions.act_keeps_state.Goals as goal

pub returns : goal.returns
returns c = act_keeps_state

use Rattle.s2_triplex_laws.proofs.TriplexStates.{tick_keeps_state}
use Rattle.s2_triplex_laws.proofs.executions.tick_keeps_state.Goals as goal

pub returns : goal.returns
returns c = tick_keeps_state

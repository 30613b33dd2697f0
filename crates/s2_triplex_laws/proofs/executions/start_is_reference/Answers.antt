use Rattle.s2_triplex_laws.proofs.TriplexStates.{start_is_reference}
use Rattle.s2_triplex_laws.proofs.executions.start_is_reference.Goals as goal

pub returns : goal.returns
returns c = start_is_reference

use Rattle.s2_triplex_laws.proofs.TriplexExecutions.{execution_begins}
use Rattle.s2_triplex_laws.proofs.executions.execution_begins.Goals as goal

pub returns : goal.returns
returns c = execution_begins

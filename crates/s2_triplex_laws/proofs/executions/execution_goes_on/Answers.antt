use Rattle.s2_triplex_laws.proofs.TriplexExecutions.{execution_goes_on}
use Rattle.s2_triplex_laws.proofs.executions.execution_goes_on.Goals as goal

pub returns : goal.returns
returns c = execution_goes_on

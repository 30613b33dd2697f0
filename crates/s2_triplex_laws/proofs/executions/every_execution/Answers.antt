use Rattle.s2_triplex_laws.proofs.TriplexExecutions.{every_execution}
use Rattle.s2_triplex_laws.proofs.executions.every_execution.Goals as goal

pub returns : goal.returns
returns c = every_execution

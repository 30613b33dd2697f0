use Rattle.s2_run.proofs.OneRun.{inputs_have_one_run}
use Rattle.s2_run.proofs.laws.inputs_have_one_run.Goals as goal

pub returns : goal.returns
returns c = inputs_have_one_run

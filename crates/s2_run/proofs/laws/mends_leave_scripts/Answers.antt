use Rattle.s2_run.proofs.MendedScriptRuns.{mends_leave_scripts}
use Rattle.s2_run.proofs.laws.mends_leave_scripts.Goals as goal

pub returns : goal.returns
returns c = mends_leave_scripts

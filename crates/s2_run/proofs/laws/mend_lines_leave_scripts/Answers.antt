use Rattle.s2_run.proofs.MendedScriptRuns.{mend_lines_leave_scripts}
use Rattle.s2_run.proofs.laws.mend_lines_leave_scripts.Goals as goal

pub returns : goal.returns
returns c = mend_lines_leave_scripts

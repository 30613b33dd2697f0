use Rattle.s2_triplex_laws.proofs.MendedRuns.{mends_leave_runs}
use Rattle.s2_triplex_laws.proofs.mending.mends_leave_runs.Goals as goal

pub returns : goal.returns
returns c = mends_leave_runs

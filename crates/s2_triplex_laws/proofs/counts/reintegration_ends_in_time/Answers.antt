use Rattle.s2_triplex_laws.proofs.TicksCountRepair.{reintegration_ends_in_time}
use Rattle.s2_triplex_laws.proofs.counts.reintegration_ends_in_time.Goals as goal

pub returns : goal.returns
returns c = reintegration_ends_in_time

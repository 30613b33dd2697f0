use Rattle.s2_core.proofs.CoreFacts.{each_cycle_counts}
use Rattle.s2_core.proofs.laws.each_cycle_counts.Goals as goal

pub returns : goal.returns
returns c = each_cycle_counts

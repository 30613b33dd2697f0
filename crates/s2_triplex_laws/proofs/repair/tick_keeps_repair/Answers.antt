use Rattle.s2_triplex_laws.proofs.MendedTicks.{tick_keeps_repair}
use Rattle.s2_triplex_laws.proofs.repair.tick_keeps_repair.Goals as goal

pub returns : goal.returns
returns c = tick_keeps_repair

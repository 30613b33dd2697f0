use Rattle.s2_triplex_laws.proofs.LawfulSteps.{tick_keeps}
use Rattle.s2_triplex_laws.proofs.lawful.tick_keeps_invariant.Goals as goal

pub returns : goal.returns
returns c = tick_keeps

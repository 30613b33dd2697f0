use Rattle.s2_triplex_laws.proofs.LawfulSteps.{act_keeps}
use Rattle.s2_triplex_laws.proofs.lawful.act_keeps_invariant.Goals as goal

pub returns : goal.returns
returns c = act_keeps

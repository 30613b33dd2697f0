use Rattle.s2_triplex_laws.proofs.LawfulSteps.{ticks_decide}
use Rattle.s2_triplex_laws.proofs.lawful.ticks_decide_right.Goals as goal

pub returns : goal.returns
returns c = ticks_decide

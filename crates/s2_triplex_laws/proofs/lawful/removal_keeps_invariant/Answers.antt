use Rattle.s2_triplex_laws.proofs.LawfulSteps.{removal_keeps}
use Rattle.s2_triplex_laws.proofs.lawful.removal_keeps_invariant.Goals as goal

pub returns : goal.returns
returns c = removal_keeps

use Rattle.s2_triplex_laws.proofs.LawfulSteps.{fault_keeps}
use Rattle.s2_triplex_laws.proofs.lawful.fault_keeps_invariant.Goals as goal

pub returns : goal.returns
returns c = fault_keeps

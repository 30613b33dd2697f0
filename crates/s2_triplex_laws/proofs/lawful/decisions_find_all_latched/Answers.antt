use Rattle.s2_triplex_laws.proofs.LawfulSteps.{all_latched}
use Rattle.s2_triplex_laws.proofs.lawful.decisions_find_all_latched.Goals as goal

pub returns : goal.returns
returns c = all_latched

use Rattle.s2_triplex_laws.proofs.FirstState.{first_state}
use Rattle.s2_triplex_laws.proofs.lawful.first_state_invariant.Goals as goal

pub returns : goal.returns
returns c = first_state

use Rattle.s2_triplex_laws.proofs.VoterTurn.{removal_call}
use Rattle.s2_triplex_laws.proofs.calls.removal_is_a_call.Goals as goal

pub returns : goal.returns
returns c = removal_call

use Rattle.s2_triplex_laws.proofs.VoterTurn.{latching_calls}
use Rattle.s2_triplex_laws.proofs.calls.latching_by_calls.Goals as goal

pub returns : goal.returns
returns c = latching_calls

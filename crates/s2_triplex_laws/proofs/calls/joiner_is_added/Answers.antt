use Rattle.s2_triplex_laws.proofs.VoterTurn.{joiner_added}
use Rattle.s2_triplex_laws.proofs.calls.joiner_is_added.Goals as goal

pub returns : goal.returns
returns c = joiner_added

use Rattle.s2_triplex_laws.proofs.VoterTurn.{named_in}
use Rattle.s2_triplex_laws.proofs.calls.named_are_processors.Goals as goal

pub returns : goal.returns
returns c = named_in

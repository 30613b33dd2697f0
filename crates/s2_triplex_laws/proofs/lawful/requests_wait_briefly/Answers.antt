use Rattle.s2_triplex_laws.proofs.RequestWaits.{requests_wait}
use Rattle.s2_triplex_laws.proofs.lawful.requests_wait_briefly.Goals as goal

pub returns : goal.returns
returns c = requests_wait

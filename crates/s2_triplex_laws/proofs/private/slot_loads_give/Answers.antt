use Rattle.s2_triplex_laws.proofs.PrivateFacts.{slot_loads_give}
use Rattle.s2_triplex_laws.proofs.private.slot_loads_give.Goals as goal

pub returns : goal.returns
returns c = slot_loads_give

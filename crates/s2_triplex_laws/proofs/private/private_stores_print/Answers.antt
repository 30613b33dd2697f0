use Rattle.s2_triplex_laws.proofs.PrivateFacts.{private_stores_print}
use Rattle.s2_triplex_laws.proofs.private.private_stores_print.Goals as goal

pub returns : goal.returns
returns c = private_stores_print

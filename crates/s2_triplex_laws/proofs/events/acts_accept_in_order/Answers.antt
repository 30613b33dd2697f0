use Rattle.s2_triplex_laws.proofs.EventOrder.{acts_in_order}
use Rattle.s2_triplex_laws.proofs.events.acts_accept_in_order.Goals as goal

pub returns : goal.returns
returns c = acts_in_order

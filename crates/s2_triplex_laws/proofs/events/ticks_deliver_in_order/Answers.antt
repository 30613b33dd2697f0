use Rattle.s2_triplex_laws.proofs.EventOrder.{ticks_in_order}
use Rattle.s2_triplex_laws.proofs.events.ticks_deliver_in_order.Goals as goal

pub returns : goal.returns
returns c = ticks_in_order

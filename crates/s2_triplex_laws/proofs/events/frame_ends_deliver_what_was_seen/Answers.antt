use Rattle.s2_triplex_laws.proofs.EventOrder.{seen_is_delivered}
use Rattle.s2_triplex_laws.proofs.events.frame_ends_deliver_what_was_seen.Goals as goal

pub returns : goal.returns
returns c = seen_is_delivered

use Rattle.s2_triplex_laws.proofs.PromptEvents.{steps_in_order}
use Rattle.s2_triplex_laws.proofs.events.steps_deliver_in_order.Goals as goal

pub returns : goal.returns
returns c = steps_in_order

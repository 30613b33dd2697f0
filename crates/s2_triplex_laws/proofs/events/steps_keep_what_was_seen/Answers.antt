use Rattle.s2_triplex_laws.proofs.PromptEvents.{steps_keep_seen}
use Rattle.s2_triplex_laws.proofs.events.steps_keep_what_was_seen.Goals as goal

pub returns : goal.returns
returns c = steps_keep_seen

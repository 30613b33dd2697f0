use Rattle.s2_triplex_laws.proofs.PromptEvents.{syncs_are_prompt}
use Rattle.s2_triplex_laws.proofs.events.syncs_are_prompt.Goals as goal

pub returns : goal.returns
returns c = syncs_are_prompt

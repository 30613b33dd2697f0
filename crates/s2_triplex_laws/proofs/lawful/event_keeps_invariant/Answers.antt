use Rattle.s2_triplex_laws.proofs.LawfulSteps.{event_keeps}
use Rattle.s2_triplex_laws.proofs.lawful.event_keeps_invariant.Goals as goal

pub returns : goal.returns
returns c = event_keeps

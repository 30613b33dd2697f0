use Rattle.s2_triplex_laws.proofs.MaskingLaws.{event_keeps_masking}
use Rattle.s2_triplex_laws.proofs.steps.event_keeps_masking.Goals as goal

pub returns : goal.returns
returns c = event_keeps_masking

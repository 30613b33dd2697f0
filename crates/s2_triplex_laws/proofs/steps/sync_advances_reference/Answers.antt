use Rattle.s2_triplex_laws.proofs.MaskingLaws.{sync_advances_reference}
use Rattle.s2_triplex_laws.proofs.steps.sync_advances_reference.Goals as goal

pub returns : goal.returns
returns c = sync_advances_reference

use Rattle.s2_triplex_laws.proofs.MaskingLaws.{sync_keeps_agreement}
use Rattle.s2_triplex_laws.proofs.steps.sync_keeps_agreement.Goals as goal

pub returns : goal.returns
returns c = sync_keeps_agreement

use Rattle.s2_triplex_laws.proofs.MaskingLaws.{access_keeps_agreement}
use Rattle.s2_triplex_laws.proofs.steps.access_keeps_agreement.Goals as goal

pub returns : goal.returns
returns c = access_keeps_agreement

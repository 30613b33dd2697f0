use Rattle.s2_triplex_laws.proofs.MaskingLaws.{access_advances_reference}
use Rattle.s2_triplex_laws.proofs.steps.access_advances_reference.Goals as goal

pub returns : goal.returns
returns c = access_advances_reference

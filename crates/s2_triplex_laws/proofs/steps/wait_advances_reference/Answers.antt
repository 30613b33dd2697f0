use Rattle.s2_triplex_laws.proofs.MaskingLaws.{wait_advances_reference}
use Rattle.s2_triplex_laws.proofs.steps.wait_advances_reference.Goals as goal

pub returns : goal.returns
returns c = wait_advances_reference

use Rattle.s2_triplex_laws.proofs.MaskingLaws.{removal_keeps_masking}
use Rattle.s2_triplex_laws.proofs.steps.removal_keeps_masking.Goals as goal

pub returns : goal.returns
returns c = removal_keeps_masking

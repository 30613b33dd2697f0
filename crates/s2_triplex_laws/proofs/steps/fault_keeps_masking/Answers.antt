use Rattle.s2_triplex_laws.proofs.MaskingLaws.{fault_keeps_masking}
use Rattle.s2_triplex_laws.proofs.steps.fault_keeps_masking.Goals as goal

pub returns : goal.returns
returns c = fault_keeps_masking

use Rattle.s2_triplex_laws.proofs.MaskingLaws.{tick_keeps_masking}
use Rattle.s2_triplex_laws.proofs.steps.tick_keeps_masking.Goals as goal

pub returns : goal.returns
returns c = tick_keeps_masking

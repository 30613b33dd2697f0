use Rattle.s2_triplex_laws.proofs.MaskingLaws.{board_fault_keeps_masking}
use Rattle.s2_triplex_laws.proofs.steps.board_fault_keeps_masking.Goals as goal

pub returns : goal.returns
returns c = board_fault_keeps_masking

use Rattle.s2_triplex_laws.proofs.MaskingLaws.{frame_ends_are_due}
use Rattle.s2_triplex_laws.proofs.reference.frame_ends_are_due.Goals as goal

pub returns : goal.returns
returns c = frame_ends_are_due

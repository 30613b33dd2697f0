use Rattle.s2_triplex_laws.proofs.MaskingLaws.{decisions_are_right}
use Rattle.s2_triplex_laws.proofs.decisions.decisions_are_right.Goals as goal

pub returns : goal.returns
returns c = decisions_are_right

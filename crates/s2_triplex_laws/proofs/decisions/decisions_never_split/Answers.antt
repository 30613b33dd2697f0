use Rattle.s2_triplex_laws.proofs.MaskingLaws.{decisions_never_split}
use Rattle.s2_triplex_laws.proofs.decisions.decisions_never_split.Goals as goal

pub returns : goal.returns
returns c = decisions_never_split

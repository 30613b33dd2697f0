use Rattle.s2_triplex_laws.proofs.MaskingLaws.{good_processors_are_in}
use Rattle.s2_triplex_laws.proofs.decisions.good_processors_are_in.Goals as goal

pub returns : goal.returns
returns c = good_processors_are_in

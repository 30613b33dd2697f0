use Rattle.s2_triplex_laws.proofs.MaskingLaws.{good_are_ahead}
use Rattle.s2_triplex_laws.proofs.reference.good_are_ahead.Goals as goal

pub returns : goal.returns
returns c = good_are_ahead

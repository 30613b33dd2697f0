use Rattle.s2_duplex.proofs.ValidWords.{contents_are}
use Rattle.s2_duplex.proofs.laws.contents_are_unique.Goals as goal

pub returns : goal.returns
returns c = contents_are

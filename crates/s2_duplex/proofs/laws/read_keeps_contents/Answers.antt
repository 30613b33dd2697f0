use Rattle.s2_duplex.proofs.ValidWords.{read_stands}
use Rattle.s2_duplex.proofs.laws.read_keeps_contents.Goals as goal

pub returns : goal.returns
returns c = read_stands

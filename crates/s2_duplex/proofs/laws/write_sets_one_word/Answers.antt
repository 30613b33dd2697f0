use Rattle.s2_duplex.proofs.ValidWords.{write_stands}
use Rattle.s2_duplex.proofs.laws.write_sets_one_word.Goals as goal

pub returns : goal.returns
returns c = write_stands

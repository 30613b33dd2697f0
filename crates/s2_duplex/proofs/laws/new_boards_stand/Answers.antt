use Rattle.s2_duplex.proofs.ValidWords.{new_stand}
use Rattle.s2_duplex.proofs.laws.new_boards_stand.Goals as goal

pub returns : goal.returns
returns c = new_stand

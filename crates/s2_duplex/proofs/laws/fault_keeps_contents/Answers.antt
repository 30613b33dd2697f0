use Rattle.s2_duplex.proofs.FaultedBoards.{fault_stands}
use Rattle.s2_duplex.proofs.laws.fault_keeps_contents.Goals as goal

pub returns : goal.returns
returns c = fault_stands

use Rattle.s2_triplex_laws.proofs.BoardFaultSteps.{board_fault_keeps_repair}
use Rattle.s2_triplex_laws.proofs.repair.board_fault_keeps_repair.Goals as goal

pub returns : goal.returns
returns c = board_fault_keeps_repair

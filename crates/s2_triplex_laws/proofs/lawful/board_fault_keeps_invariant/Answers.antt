use Rattle.s2_triplex_laws.proofs.LawfulSteps.{board_fault_keeps}
use Rattle.s2_triplex_laws.proofs.lawful.board_fault_keeps_invariant.Goals as goal

pub returns : goal.returns
returns c = board_fault_keeps

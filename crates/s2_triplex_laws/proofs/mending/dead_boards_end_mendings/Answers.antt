use Rattle.s2_triplex_laws.proofs.BoardMending.{dead_boards_end_mendings}
use Rattle.s2_triplex_laws.proofs.mending.dead_boards_end_mendings.Goals as goal

pub returns : goal.returns
returns c = dead_boards_end_mendings

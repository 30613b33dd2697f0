use Rattle.s2_triplex_laws.proofs.BoardMending.{steps_ignore_boards}
use Rattle.s2_triplex_laws.proofs.mending.steps_ignore_boards.Goals as goal

pub returns : goal.returns
returns c = steps_ignore_boards

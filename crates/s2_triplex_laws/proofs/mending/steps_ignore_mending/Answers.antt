use Rattle.s2_triplex_laws.proofs.BoardMending.{steps_ignore_mending}
use Rattle.s2_triplex_laws.proofs.mending.steps_ignore_mending.Goals as goal

pub returns : goal.returns
returns c = steps_ignore_mending

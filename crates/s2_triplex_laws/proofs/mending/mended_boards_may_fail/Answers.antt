use Rattle.s2_triplex_laws.proofs.MendingCounts.{mended_boards_may_fail}
use Rattle.s2_triplex_laws.proofs.mending.mended_boards_may_fail.Goals as goal

pub returns : goal.returns
returns c = mended_boards_may_fail

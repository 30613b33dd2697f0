use Rattle.s2_triplex_laws.proofs.R2000Boards.{r2000_triplex_core}
use Rattle.s2_triplex_laws.proofs.processor.r2000_is_triplex_core.Goals as goal

pub returns : goal.returns
returns c = r2000_triplex_core

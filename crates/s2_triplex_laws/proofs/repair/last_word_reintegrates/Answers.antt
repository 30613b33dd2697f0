use Rattle.s2_triplex_laws.proofs.ReintegrationEnds.{last_word_reintegrates}
use Rattle.s2_triplex_laws.proofs.repair.last_word_reintegrates.Goals as goal

pub returns : goal.returns
returns c = last_word_reintegrates

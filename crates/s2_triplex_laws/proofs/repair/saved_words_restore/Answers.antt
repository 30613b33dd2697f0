use Rattle.s2_triplex_laws.proofs.RestoredProcessors.{saved_words_restore}
use Rattle.s2_triplex_laws.proofs.repair.saved_words_restore.Goals as goal

pub returns : goal.returns
returns c = saved_words_restore

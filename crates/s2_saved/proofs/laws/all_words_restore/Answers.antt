use Rattle.s2_saved.proofs.Restoration.{restores}
use Rattle.s2_saved.proofs.laws.all_words_restore.Goals as goal

pub returns : goal.returns
returns c = restores

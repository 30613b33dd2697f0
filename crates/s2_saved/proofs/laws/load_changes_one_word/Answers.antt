use Rattle.s2_saved.proofs.SingleWords.{sets_one}
use Rattle.s2_saved.proofs.laws.load_changes_one_word.Goals as goal

pub returns : goal.returns
returns c = sets_one

use Rattle.s2_plant_laws.proofs.CopiedPages.{lists_equal_at_last_word}
use Rattle.s2_plant_laws.proofs.repair.lists_equal_at_last_word.Goals as goal

pub returns : goal.returns
returns c = lists_equal_at_last_word

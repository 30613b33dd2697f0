use Rattle.s2_asm.proofs.OneMeaning.{one_meaning}
use Rattle.s2_asm.proofs.laws.texts_have_one_meaning.Goals as goal

pub returns : goal.returns
returns c = one_meaning

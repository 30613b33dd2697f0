use Rattle.s2_gen.proofs.UniqueImages.{images_equal}
use Rattle.s2_gen.proofs.laws.images_are_unique.Goals as goal

pub returns : goal.returns
returns c = images_equal

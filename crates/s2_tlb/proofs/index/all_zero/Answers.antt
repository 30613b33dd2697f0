-- The sets hold all entries at 0, and none elsewhere.
use Rattle.s2_tlb.proofs.EntrySets.{zero_sets}
use Rattle.s2_tlb.proofs.index.all_zero.Goals as goal

pub returns-clause-sets : goal.returns-clause-sets
returns-clause-sets c = λ field e. zero_sets field e

-- The sets meet in the entries that match.
use Rattle.s2_tlb.proofs.EntrySets.{met}
use Rattle.s2_tlb.proofs.index.EntryIndex.matching.Goals as goal

pub returns : goal.returns
returns c = λ entries are has i low. met c.args.self.now entries c.args.page c.args.asid c.requires.page c.requires.asid are has i low

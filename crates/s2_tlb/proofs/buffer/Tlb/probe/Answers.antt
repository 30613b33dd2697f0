-- The probe is for the lowest match.
use Rattle.s2_tlb.proofs.LowestMatch.{found, none_found}
use Rattle.s2_tlb.proofs.buffer.Tlb.probe.Goals as goal

pub returns-clause-lowest : goal.returns-clause-lowest
returns-clause-lowest c = λ i. rw c.lowest.ensures.value (found c.args.self.now _ _ i)

pub returns-clause-none : goal.returns-clause-none
returns-clause-none c = rw c.lowest.ensures.value (none_found c.args.self.now _ _)

-- Nothing is remembered.
use Rattle.s2_tlb.proofs.RememberedPages.{nothing_remembered}
use Rattle.s2_tlb.proofs.buffer.forget.Goals as goal

pub returns : goal.returns
returns c = λ entries. nothing_remembered entries

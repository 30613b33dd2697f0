-- The entries of a new buffer are entries.
use Rattle.s2_tlb.proofs.ZeroEntries.{zeros_are_entries}
use Rattle.s2_tlb.proofs.RememberedPages.{nothing_remembered}
use Rattle.s2_tlb.proofs.buffer.Tlb.new.Goals as goal

pub invariant_of-result : goal.invariant_of-result
invariant_of-result c = (zeros_are_entries, c.new.ensures, nothing_remembered _)

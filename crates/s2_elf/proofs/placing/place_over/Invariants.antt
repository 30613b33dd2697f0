-- The words from the first one up to the index are placed.
use Rattle.s2_elf.specs.Placing.{header_of}
use Rattle.s2_elf.proofs.PlacedWords.{IsPlacedUpTo}
use Rattle.s2_elf.proofs.placing.place_over.Given as goal

abbrev pub invariant-loop-i : goal.invariant-loop-i
invariant-loop-i l = IsPlacedUpTo l.bytes l.base (header_of l.header) l.fn.words l.words l.first l.i

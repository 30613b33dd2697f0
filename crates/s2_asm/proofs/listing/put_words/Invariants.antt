use Rattle.std.proofs.Common.{take}
use Rattle.s2_asm.specs.ImageListings.{WritesWords}
use Rattle.s2_asm.proofs.listing.put_words.Given as goal

abbrev pub invariant-loop-i : goal.invariant-loop-i
invariant-loop-i l = WritesWords l.at (take l.i l.words) l.fn.text.items l.text.items

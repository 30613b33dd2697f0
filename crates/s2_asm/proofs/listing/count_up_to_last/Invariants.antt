use Rattle.std.proofs.Common.{◌≡◌, take}
use Rattle.s2_asm.specs.ImageListings.{end_of_words}
use Rattle.s2_asm.proofs.listing.count_up_to_last.Given as goal

abbrev pub invariant-loop-i : goal.invariant-loop-i
invariant-loop-i l = l.end ≡ end_of_words (take l.i l.words)

use Rattle.std.proofs.Common.{◌≡◌, ◌+◌, drop}
use Rattle.s2_asm.specs.ImageListings.{first_word}
use Rattle.s2_asm.proofs.listing.count_zeros.Given as goal

abbrev pub invariant-loop-i : goal.invariant-loop-i
invariant-loop-i l = first_word l.words ≡ l.i + first_word (drop l.i l.words)

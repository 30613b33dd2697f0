-- The words of the instructions before the index are laid, and no other word has changed.
use Rattle.s2_gen.proofs.LaidWords.{AreLaidTo}
use Rattle.s2_gen.proofs.building.lay.Given as goal

abbrev pub invariant-loop-i : goal.invariant-loop-i
invariant-loop-i l = AreLaidTo l.code l.initial.words l.words l.i

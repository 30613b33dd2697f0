use Rattle.std.proofs.Common.{◌≡◌, take}
use Rattle.s2_saved.specs.SavedWords.{saved_words}
use Rattle.s2_saved.specs.SavedLaws.{after_word_loads}
use Rattle.s2_saved.proofs.words.copy_state.Given as goal

abbrev pub invariant-loop-k : goal.invariant-loop-k
invariant-loop-k l = l.to ≡ after_word_loads l.initial.to 0 (take l.k (saved_words l.from))

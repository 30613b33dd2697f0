use Rattle.std.proofs.Common.{ap, ◌∙◌, arith}
use Rattle.s2_saved.specs.SavedWords.{saved_words}
use Rattle.s2_saved.proofs.words.load_word.Goals as goal

pub returns-clause-words : goal.returns-clause-words
returns-clause-words c = ap saved_words c.load_part.ensures ∙ c.load_changes_one_word.ensures c.args.cpu.now c.args.k c.args.v c.requires (omega arith) c.processor_state.ensures

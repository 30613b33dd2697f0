use Rattle.std.proofs.Common.{get_or}
use Rattle.std.proofs.lemmas.List.{places}
use Rattle.std.proofs.Common.{arith}
use Rattle.s2_program.proofs.PartWords.{words_step}
use Rattle.s2_program.proofs.file.put_words.Goals as goal

pub loop-word-preserved : goal.loop-word-preserved
loop-word-preserved c =
    words_step c.loop-word.file.items c.put_word.new.file.items c.args.file.now.items c.args.words.now c.loop-word.word-index
    (get_or c.args.words.now c.loop-word.word-index 0) c.loop-word-test.true (grind (arith, places)) c.loop-word.invariant c.in_ok-put_word.ensures

use Rattle.std.proofs.Common.{◌∙◌, ◌++◌, ap}
use Rattle.s2_program.specs.PlainFiles.{words_bytes}
use Rattle.s2_program.proofs.PartWords.{contents_step}
use Rattle.s2_program.proofs.file.put_contents.Goals as goal

pub loop-part-preserved : goal.loop-part-preserved
loop-part-preserved c =
    contents_step c.loop-part.file.items c.put_words.new.file.items c.args.file.now.items c.args.parts.now c.loop-part.part-index
    c.part-item.result c.loop-part-test.true c.part-item.is c.loop-part.invariant (c.in_ok-put_words.ensures ∙ ap (λ ws. c.loop-part.file.items ++ words_bytes ws) c.words.ensures)

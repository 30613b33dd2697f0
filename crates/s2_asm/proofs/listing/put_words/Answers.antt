use Rattle.std.proofs.Common.{refl, get_or, ◌+◌, ◌*◌, ◌∙◌}
use Rattle.s2_asm.proofs.ListedLines.{writes_more}
use Rattle.s2_asm.proofs.listing.put_words.Goals as goal

pub loop-i-preserved : goal.loop-i-preserved
loop-i-preserved c =
    writes_more c.args.at c.args.words.now c.args.text.now.items c.loop-i.text.items c.put_line.new.text.items c.as_slice.result.now c.loop-i.i (get_or c.args.words.now c.loop-i.i 0)
    (c.args.at + 4 * c.loop-i.i) c.disassemble-line.ensures.line.0 c.loop-i-test.true refl refl c.disassemble-line.ensures.line.1 (c.as_slice.ensures.value ∙ c.disassemble-line.ensures.line.2)
    c.in_ok-put_line.ensures c.loop-i.invariant

use Rattle.s2_asm.proofs.ListedLines.{end_step}
use Rattle.s2_asm.proofs.listing.count_up_to_last.Goals as goal

pub loop-i-preserved : goal.loop-i-preserved
loop-i-preserved c = end_step c.args.words.now c.loop-i.i c.loop-i.end c.end_behind-end.result c.loop-i-test.true c.loop-i.invariant c.end_behind-end.ensures

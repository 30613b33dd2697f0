-- One word more is placed, and at the end all are.
use Rattle.std.proofs.Common.{arith}
use Rattle.s2_elf.proofs.PlacedWords.{placed_more, all_placed}
use Rattle.s2_elf.proofs.placing.place_over.Goals as goal

pub loop-i-preserved : goal.loop-i-preserved
loop-i-preserved c =
    placed_more _ _ _ _ _ _ _ _ c.loop-i.auto.i (omega arith) c.placed_word.ensures c.loop-i.invariant

pub returns : goal.returns
returns c =
    all_placed _ _ _ _ _ _ _ _ c.loop-i-test.false c.loop-i.auto.i-end (c.touched-first.ensures.untouched _) c.loop-i.invariant

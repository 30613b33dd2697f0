use Rattle.s2_asm.proofs.ListedFaults.{word_again}
use Rattle.s2_asm.proofs.lines.disassemble.Goals as goal

pub returns-clause-again : goal.returns-clause-again
returns-clause-again c = word_again c.args.at c.args.word c.disassemble.ensures.line.0 c.disassemble.result.items c.requires c.ranges.at.fits c.disassemble.ensures.line.1 c.disassemble.ensures.line.2

use Rattle.std.proofs.Common.{arith}
use Rattle.s2_clock.proofs.BitsShown.{bits_shown-fired, bits_shown-long}
use Rattle.s2_clock.proofs.window.fired.Goals as goal

pub returns-then-n : goal.returns-then-n
returns-then-n c = bits_shown-fired c.args.n c.args.word

pub returns-else-n : goal.returns-else-n
returns-else-n c = bits_shown-long c.args.n c.args.word (omega arith)

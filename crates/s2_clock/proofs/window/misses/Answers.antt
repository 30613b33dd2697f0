use Rattle.std.proofs.Common.{sym, arith}
use Rattle.s2_clock.proofs.BitsShown.{misses-bits_shown}
use Rattle.s2_clock.proofs.window.misses.Goals as goal

pub returns-clause-value : goal.returns-clause-value
returns-clause-value c = sym (misses-bits_shown 64 c.args.word (omega arith))

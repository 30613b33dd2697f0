use Rattle.std.proofs.Common.{arith}
use Rattle.s2_run.proofs.FrameChoice.{first_at}
use Rattle.s2_run.proofs.check.entry_at.Goals as goal

pub returns-then-line-eq1 : goal.returns-then-line-eq1
returns-then-line-eq1 c = first_at c.args.line _ _ _ (omega (arith, c.if-line-eq1.true)) c.read_first.ensures.read c.first_entry.ensures

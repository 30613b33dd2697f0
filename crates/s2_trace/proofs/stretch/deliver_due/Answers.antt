use Rattle.s2_trace.proofs.Stretches.{range_at}
use Rattle.s2_trace.proofs.stretch.deliver_due.Goals as goal

pub deliver-requires : goal.deliver-requires
deliver-requires c = range_at c.args.deliveries.now c.loop-at.at _ c.requires.range c.loop-at-test.true

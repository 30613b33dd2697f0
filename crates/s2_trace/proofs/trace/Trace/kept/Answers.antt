use Rattle.s2_trace.proofs.Traces.{kept_is}
use Rattle.s2_trace.proofs.trace.Trace.kept.Goals as goal

pub returns-clause-machine : goal.returns-clause-machine
returns-clause-machine c = kept_is c.self.inside.timeline c.self.inside.asked c.args.self.now c.self.view_is c.self.invariant.timeline c.args.i

use Rattle.s2_trace.proofs.Traces.{push_keeps, may_follow}
use Rattle.s2_trace.proofs.trace.Trace.push.Goals as goal

pub invariant_of-self : goal.invariant_of-self
invariant_of-self c =
    push_keeps c.self.inside.timeline c.push.new.self c.self.inside.asked c.push.result (record { run = c.args.run; event = c.args.event }) c.args.self.now
    c.self.view_is c.self.invariant c.requires.first c.requires.order c.push.ensures.room c.push.ensures.pushed

pub returns-clause-next : goal.returns-clause-next
returns-clause-next c =
    may_follow c.self.inside.timeline c.push.new.self c.self.inside.asked c.push.result (record { run = c.args.run; event = c.args.event }) c.args.self.now
    c.self.view_is c.requires.first c.requires.order c.push.ensures.pushed

use Rattle.s2_trace.proofs.Traces.{is_asked_for}
use Rattle.s2_trace.proofs.trace.Trace.at.Goals as goal

pub returns-clause-present : goal.returns-clause-present
returns-clause-present c =
    (is_asked_for c.args.n c.self.inside.timeline c.at.new.self c.self.inside.asked c.args.self.now c.self.view_is c.self.invariant.timeline c.at.ensures).present

pub returns-clause-slots : goal.returns-clause-slots
returns-clause-slots c =
    (is_asked_for c.args.n c.self.inside.timeline c.at.new.self c.self.inside.asked c.args.self.now c.self.view_is c.self.invariant.timeline c.at.ensures).slots

use Rattle.std.proofs.Common.{◌-◌}
use Rattle.s2_trace.specs.Travel.{IsOnTheWay}
use Rattle.s2_trace.proofs.timeline.Timeline.go_on.Given as goal

abbrev pub invariant-loop-self : goal.invariant-loop-self
invariant-loop-self l = IsOnTheWay l.floor l.n l.fn.self l.self

abbrev pub decreases-loop-self : goal.decreases-loop-self
decreases-loop-self l = l.n - l.self.present.cpu.run

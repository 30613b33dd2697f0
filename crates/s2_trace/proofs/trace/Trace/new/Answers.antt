use Rattle.std.proofs.Common.{false, refl, sym, subst}
use Rattle.s2_trace.specs.Timeline.{Timeline}
use Rattle.s2_trace.specs.TraceState.{IsTrace}
use Rattle.s2_trace.proofs.Traces.{fresh_keeps}
use Rattle.s2_trace.proofs.trace.Trace.new.Goals as goal

pub invariant_of-result : goal.invariant_of-result
invariant_of-result c = subst (λ (t : Timeline). IsTrace t false) (sym c.in_ok-timeline.ensures) (fresh_keeps _ c.args.every refl c.requires)

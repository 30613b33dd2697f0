use Rattle.std.proofs.Common.{sym, ap, ◌∙◌, refl, []}
use Rattle.std.specs.Prelude.{is_some}
use Rattle.s2_trace.proofs.Stretches.{burst_more, stays_where_halted}
use Rattle.s2_trace.proofs.stretch.run_cycles.Goals as goal

pub returns-then-is_some : goal.returns-then-is_some
returns-then-is_some c =
    sym (stays_where_halted c.loop-left.machine c.loop-left.left c.loop-left.machine.halt refl (ap is_some (sym c.halted.ensures) ∙ (sym c.is_some.ensures ∙ c.if-is_some.true)))
    ∙ c.loop-left.invariant

pub loop-left-preserved : goal.loop-left-preserved
loop-left-preserved c =
    burst_more c.loop-left.machine c.burst-left.new.self _ c.loop-left.left c.burst-left.result.left c.burst-left.ensures.some (c.burst-left.ensures.run [])
    ∙ c.loop-left.invariant

use Rattle.std.proofs.Common.{◌≡◌}
use Rattle.s2_trace.specs.Timeline.{after_cycles}
use Rattle.s2_trace.proofs.stretch.run_cycles.Given as goal

-- what is left of the cycles comes to the same machine
abbrev pub invariant-loop-left : goal.invariant-loop-left
invariant-loop-left l = after_cycles l.left l.machine ≡ after_cycles l.fn.cycles l.fn.machine

abbrev pub decreases-loop-left : goal.decreases-loop-left
decreases-loop-left l = l.left

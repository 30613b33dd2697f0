use Rattle.std.proofs.Common.{◌≤◌, ◌-◌, length, drop}
use Rattle.s2_trace.proofs.Stretches.{Delivered}
use Rattle.s2_trace.proofs.stretch.deliver_due.Given as goal

abbrev pub invariant-loop-at : goal.invariant-loop-at
invariant-loop-at l = record {
  delivered : Delivered l.run l.fn.machine l.machine (drop l.fn.next l.deliveries) (drop l.at l.deliveries);
  within : l.at ≤ length l.deliveries;
}

abbrev pub decreases-loop-at : goal.decreases-loop-at
decreases-loop-at l = length l.deliveries - l.at

use Rattle.std.proofs.Common.{◌≡◌, None, replicate}
use Rattle.s2_trace.proofs.checkpoint.empty_checkpoints.Given as goal

abbrev pub invariant-loop : goal.invariant-loop
invariant-loop l = l.slots.items ≡ replicate l.counter None

use Rattle.std.proofs.Common.{◌≡◌, false}
use Rattle.s2_trace.specs.TraceState.{AreUpTo}
use Rattle.s2_trace.proofs.tests.fill.Given as goal

abbrev pub invariant-loop : goal.invariant-loop
invariant-loop l = record {
  first : l.trace.asked ≡ false;
  order : AreUpTo 0 l.trace.deliveries;
}

use Rattle.std.proofs.Common.{◌≡◌, drop}
use Rattle.s2_machine.specs.MachineRun.{later_deliveries}
use Rattle.s2_trace.proofs.stretch.first_later.Given as goal

abbrev pub invariant-loop-at : goal.invariant-loop-at
invariant-loop-at l = later_deliveries l.run (drop l.at l.deliveries) ≡ later_deliveries l.run l.deliveries

use Rattle.std.proofs.Common.{◌≡◌, ◌-◌, ◌≤◌}
use Rattle.s2_run.proofs.Progress.{Running}
use Rattle.s2_run.proofs.cycles.run_cycles.Given as goal

-- the run goes on, with at most one byte a cycle, and no count rose
abbrev pub invariant-loop-left : goal.invariant-loop-left
invariant-loop-left g l = record {
  run : Running l.fn.machine l.fn.limit (l.fn.limit - l.left) l.written l.machine (g.C.Sink.taken l.fn.console) (g.C.Sink.taken l.console);
  left : l.left ≤ l.fn.limit;
  bounded : l.written ≤ l.fn.limit - l.left;
  faults : g.C.Sink.faults l.console ≡ g.C.Sink.faults l.fn.console;
  empty_takes : g.C.Sink.empty_takes l.console ≡ g.C.Sink.empty_takes l.fn.console;
}

abbrev pub decreases-loop-left : goal.decreases-loop-left
decreases-loop-left g l = l.left

use Rattle.std.proofs.Common.{◌≡◌, ◌+◌, ◌-◌, ◌≤◌}
use Rattle.std.specs.Prelude.{None}
use Rattle.s2_run.specs.SeenObjects.{sink_seen}
use Rattle.s2_run.specs.FaultCounts.{SinkSame}
use Rattle.s2_run.specs.ScriptRuns.{ticks_run}
use Rattle.s2_run.specs.RunTranscript.{taken}
use Rattle.s2_run.specs.ScriptRunParts.{HasRun}
use Rattle.s2_run.proofs.stepping.take_ticks.Given as goal

-- the ticks so far have run and not ended, and no count rose
abbrev pub invariant-loop-left : goal.invariant-loop-left
invariant-loop-left g l = record {
  left : l.left ≤ l.n;
  ran : HasRun (ticks_run l.line l.mask l.fn.plant (l.n - l.left)) None l.plant l.fn.written l.written (taken (g.C.Sink.taken l.fn.console) (g.R.Sink.taken l.fn.report)) (taken (g.C.Sink.taken l.console) (g.R.Sink.taken l.report));
  running : l.plant.halt ≡ None;
  ticks : l.plant.ticks ≡ l.fn.plant.ticks + (l.n - l.left);
  accepted : l.plant.accepted ≡ l.fn.plant.accepted;
  few : l.written ≤ l.fn.written + (l.n - l.left);
  console_same : SinkSame (sink_seen (g.C.Sink.taken l.fn.console) (g.C.Sink.faults l.fn.console) (g.C.Sink.empty_takes l.fn.console)) (sink_seen (g.C.Sink.taken l.console) (g.C.Sink.faults l.console) (g.C.Sink.empty_takes l.console));
  report_same : SinkSame (sink_seen (g.R.Sink.taken l.fn.report) (g.R.Sink.faults l.fn.report) (g.R.Sink.empty_takes l.fn.report)) (sink_seen (g.R.Sink.taken l.report) (g.R.Sink.faults l.report) (g.R.Sink.empty_takes l.report));
}

abbrev pub decreases-loop-left : goal.decreases-loop-left
decreases-loop-left g l = l.left

use Rattle.std.proofs.Common.{◌≡◌, ◌+◌, ◌≤◌}
use Rattle.std.specs.Prelude.{None}
use Rattle.s2_run.specs.declared.limits.TheConstants.{TICK_LIMIT}
use Rattle.s2_run.specs.SeenObjects.{sink_seen}
use Rattle.s2_run.specs.FaultCounts.{SinkSame}
use Rattle.s2_run.specs.RunTranscript.{taken}
use Rattle.s2_run.proofs.EntryRuns.{EntriesGo}
use Rattle.s2_run.proofs.load.run_entries.Given as goal

-- the entries before the index were run, and no count rose
abbrev pub invariant-loop-i : goal.invariant-loop-i
invariant-loop-i g l = record {
  going : EntriesGo l.fn.plant l.entries l.i l.written l.plant (taken (g.C.Sink.taken l.fn.console) (g.R.Sink.taken l.fn.report)) (taken (g.C.Sink.taken l.console) (g.R.Sink.taken l.report));
  running : l.plant.halt ≡ None;
  ticks : l.plant.ticks ≤ TICK_LIMIT;
  accepted : l.plant.accepted ≤ l.i;
  room : l.written ≤ l.plant.ticks + l.i;
  console_same : SinkSame (sink_seen (g.C.Sink.taken l.fn.console) (g.C.Sink.faults l.fn.console) (g.C.Sink.empty_takes l.fn.console)) (sink_seen (g.C.Sink.taken l.console) (g.C.Sink.faults l.console) (g.C.Sink.empty_takes l.console));
  report_same : SinkSame (sink_seen (g.R.Sink.taken l.fn.report) (g.R.Sink.faults l.fn.report) (g.R.Sink.empty_takes l.fn.report)) (sink_seen (g.R.Sink.taken l.report) (g.R.Sink.faults l.report) (g.R.Sink.empty_takes l.report));
}

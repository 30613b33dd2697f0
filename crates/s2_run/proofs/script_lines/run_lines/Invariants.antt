use Rattle.std.proofs.Common.{◌≡◌, ℕ, ◌-◌, ◌+◌, ◌≤◌, true, false, List, [], take}
use Rattle.std.specs.Prelude.{Some, None}
use Rattle.s2_run.specs.declared.limits.TheConstants.{INPUT_LIMIT, TICK_LIMIT}
use Rattle.s2_run.specs.SeenObjects.{sink_seen}
use Rattle.s2_run.specs.FaultCounts.{SinkSame}
use Rattle.s2_run.specs.FailedReads.{IsFed}
use Rattle.s2_run.specs.RunTranscript.{taken}
use Rattle.s2_run.proofs.ScriptReading.{GoingFrom}
use Rattle.s2_run.proofs.script_lines.run_lines.Given as goal

-- lines of a script were read and run, and no count rose
abbrev pub invariant-loop-size : goal.invariant-loop-size
invariant-loop-size g l = record {
  told : (s : List ℕ) → g.S.Source.left l.fn.input ≡ Some s → GoingFrom l.fn.plant s l.taken l.lines l.written l.plant (taken (g.C.Sink.taken l.fn.console) (g.R.Sink.taken l.fn.report)) (taken (g.C.Sink.taken l.console) (g.R.Sink.taken l.report)) (g.S.Source.left l.input);
  ended : (s : List ℕ) → g.S.Source.left l.fn.input ≡ Some s → l.ended ≡ true → g.S.Source.left l.input ≡ Some [];
  fed : (s : List ℕ) → g.S.Source.left l.fn.input ≡ Some s → l.ended ≡ false → IsFed (take l.taken s);
  first : l.lines ≡ 0 → l.plant ≡ l.fn.plant;
  running : l.plant.halt ≡ None;
  ticks : l.plant.ticks ≤ TICK_LIMIT;
  accepted : l.plant.accepted ≤ l.lines;
  below : l.taken ≤ INPUT_LIMIT;
  lines : l.lines ≤ l.taken;
  room : l.written ≤ l.plant.ticks + l.lines;
  faults : g.S.Source.faults l.input ≡ g.S.Source.faults l.fn.input;
  console_same : SinkSame (sink_seen (g.C.Sink.taken l.fn.console) (g.C.Sink.faults l.fn.console) (g.C.Sink.empty_takes l.fn.console)) (sink_seen (g.C.Sink.taken l.console) (g.C.Sink.faults l.console) (g.C.Sink.empty_takes l.console));
  report_same : SinkSame (sink_seen (g.R.Sink.taken l.fn.report) (g.R.Sink.faults l.fn.report) (g.R.Sink.empty_takes l.fn.report)) (sink_seen (g.R.Sink.taken l.report) (g.R.Sink.faults l.report) (g.R.Sink.empty_takes l.report));
}

abbrev pub decreases-loop-size : goal.decreases-loop-size
decreases-loop-size g l = INPUT_LIMIT - l.taken

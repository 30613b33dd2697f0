use Rattle.std.proofs.Common.{◌≡◌, ℕ, ◌-◌, ◌<◌, ◌≤◌, true, false, List, [], take}
use Rattle.std.specs.Prelude.{Some, ◌^◌}
use Rattle.s2_run.specs.declared.limits.TheConstants.{INPUT_LIMIT}
use Rattle.s2_run.specs.FailedReads.{IsFed}
use Rattle.s2_run.proofs.Replaying.{Replaying}
use Rattle.s2_run.proofs.replay.replay_lines.Given as goal

-- lines of a report were read and run, with at most one byte a cycle, and no count rose
abbrev pub invariant-loop-order : goal.invariant-loop-order
invariant-loop-order g l = record {
  told : (s : List ℕ) → g.S.Source.left l.fn.input ≡ Some s → Replaying l.fn.machine s l.taken l.lines l.bytes l.order l.machine (g.S.Source.left l.input) (g.C.Sink.taken l.fn.console) (g.C.Sink.taken l.console);
  ended : (s : List ℕ) → g.S.Source.left l.fn.input ≡ Some s → l.ended ≡ true → g.S.Source.left l.input ≡ Some [];
  fed : (s : List ℕ) → g.S.Source.left l.fn.input ≡ Some s → l.ended ≡ false → IsFed (take l.taken s);
  below : l.taken ≤ INPUT_LIMIT;
  count : l.lines ≤ l.taken;
  written : l.bytes ≤ l.machine.cpu.run;
  range : l.machine.cpu.run < 2 ^ 64;
  faults : g.S.Source.faults l.input ≡ g.S.Source.faults l.fn.input;
  console_faults : g.C.Sink.faults l.console ≡ g.C.Sink.faults l.fn.console;
  empty_takes : g.C.Sink.empty_takes l.console ≡ g.C.Sink.empty_takes l.fn.console;
}

abbrev pub decreases-loop-order : goal.decreases-loop-order
decreases-loop-order g l = INPUT_LIMIT - l.taken

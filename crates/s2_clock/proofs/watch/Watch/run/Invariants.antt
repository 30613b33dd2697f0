use Rattle.std.proofs.Common.{◌≡◌, ℕ, ◌<◌}
use Rattle.std.specs.Prelude.{None}
use Rattle.s2_clock.specs.ClockWatch.{windows_run, slow_of}
use Rattle.s2_clock.proofs.watch.Watch.run.Given as goal

abbrev pub invariant-loop-i : goal.invariant-loop-i
invariant-loop-i l = record {
  ran : l.self ≡ windows_run l.mask l.tainted l.i l.fn.self;
  lawful : (j : ℕ) → j < l.i → slow_of l.mask l.tainted (windows_run l.mask l.tainted j l.fn.self) ≡ None;
}
